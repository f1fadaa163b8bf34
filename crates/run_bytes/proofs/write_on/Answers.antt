-- `run_bytes::write_on` meets its contract: the last call has the room that the first had. Assumes nothing.
use Rattle.std.proofs.Common.{rules}
use Rattle.std.specs.Prelude.{◌≡◌, refl}
use Rattle.run_bytes.specs.Moving.{kept_at_last}
use Rattle.run_bytes.specs.contracts.fn.write_on.write as closure
use Rattle.run_bytes.proofs.write_on.Goals as goal

pub returns : goal.returns
returns g c =
    let over : closure.Over = record { W = g.row.W; W-Write = g.W.Write; W-Write-dict = g.W.Write-dict } in
    let calls = c.again.ensures in
    let k = kept_at_last _ (λ f q. let a = closure.captures over f in let b = closure.captures over q in (b.from ≡ a.from) × (b.bytes ≡ a.bytes))
    (λ f. (refl, refl)) (λ f at r h j s. search rules) (calls.0, calls.1, calls.3, calls.4) in
    search rules
