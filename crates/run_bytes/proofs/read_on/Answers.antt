-- `run_bytes::read_on` meets its contract: each call leaves what stands before the place, and how long the room is. Assumes nothing.
use Rattle.std.proofs.Common.{rules}
use Rattle.std.specs.Prelude.{◌-◌, ◌≡◌, refl}
use Rattle.whole.specs.Plain.{length, take}
use Rattle.run_bytes.specs.Moving.{kept_at_last, Most}
use Rattle.run_bytes.specs.contracts.fn.read_on.read as closure
use Rattle.run_bytes.proofs.read_on.Goals as goal

pub returns : goal.returns
returns g c =
    let over : closure.Over = record { R = g.row.R; R-Read = g.R.Read; R-Read-dict = g.R.Read-dict } in
    let calls = c.again.ensures in
    let k = kept_at_last _ (λ f q. let a = closure.captures over f in let b = closure.captures over q in (b.from ≡ a.from) × (b.text.ghost_name ≡ a.text.ghost_name) × (length b.text.now ≡ length a.text.now) × (take a.from b.text.now ≡ take a.from a.text.now))
    (λ f. (refl, refl, refl, refl)) (λ f at r h j s. search rules) (calls.0, calls.1, calls.3, calls.4) in
    let most : Most (length c.args.text.now - c.args.from) c.again.result = search rules in
    record { most = most; kept = search rules }
