-- `call_network::blank` meets its contract. Assumes nothing.
use Rattle.std.specs.Prelude.{◌+◌, ◌*◌, ◌-◌, ◌≡◌}
use Rattle.whole.specs.Plain.{take, drop, length-drop, take_all, arith}
use Rattle.call_network.specs.Judged.{blank}
use Rattle.call_network.proofs.blank.Goals as goal

pub returns : goal.returns
unfolding blank
returns c =
    let net = c.args.net.now in
    let m = 8 + 8 * c.args.rows in
    let e : take (1024 - m) (drop m net) ≡ drop m net = take_all (1024 - m) (drop m net) (rw length-drop (omega arith)) in
    rw (c.all_zero.ensures, c.all_zero-2.ensures, e)
