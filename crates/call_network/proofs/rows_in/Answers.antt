-- `call_network::rows_in` meets its contract: what is past the head, in eights. Assumes nothing.
use Rattle.std.specs.Prelude.{◌/◌, ◌≡◌}
use Rattle.std.specs.Simd.{first_chunks}
use Rattle.whole.specs.Plain.{Words, ap, ◌∙◌, length, take, drop, length-drop, take_all, arith}
use Rattle.call_network.proofs.rows_in.Goals as goal

eights : (net : Words) → length net ≡ 1024 → (l : Words) → l ≡ drop 8 net → first_chunks 8 (length l / 8) l ≡ first_chunks 8 127 (drop 8 net)
eights net h l e = rw (e, length-drop, h)

pub returns : goal.returns
returns c =
    let net = c.args.net.now in
    let all = take_all 1016 (drop 8 net) (rw length-drop (omega arith)) in
    ap (take c.args.rows) (c.as_chunks.ensures.front ∙ eights net (omega arith) _ all)
