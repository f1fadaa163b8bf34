-- `step_flow::passed_on` meets its contract. Assumes nothing.
use Rattle.std.specs.Prelude.{◌≡◌, ◌||◌, ◌-ℤ◌}
use Rattle.whole.specs.Plain.{◌∙◌, true, eqb, ℤ, pos, neg_ℤ, +ℤ_idl, eq-eqb, ne_eqb, ℕ_discrete, arith}
use mir.Syntax.{w64}
use mir.Val.{SFits, to_z, of_z}
use mir.Facts.{to_z-of_z}
use Rattle.whole.specs.Int.{fits64, abs_neg}
use Rattle.step_flow.specs.Flown.{passed_by, Small}
use Rattle.step_flow.proofs.passed_on.Goals as goal

-- 0 - e is -e, and fits
less : {e : ℤ} → SFits w64 e → pos 0 -ℤ to_z w64 (of_z w64 e) ≡ neg_ℤ e
less {e} f = rw (to_z-of_z f) (+ℤ_idl (neg_ℤ e))

less-fits : {e : ℤ} → SFits w64 e → Small e → SFits w64 (pos 0 -ℤ to_z w64 (of_z w64 e))
less-fits {e} f s = rw (less f) (fits64 (neg_ℤ e) (rw abs_neg (omega arith)))

pub returns-in-2 : goal.returns-in-2
unfolding passed_by
returns-in-2 c = rw (eq-eqb c.args.kind 2 (omega arith)) (to_z-of_z c.ranges.echo)

pub returns-in-3 : goal.returns-in-3
unfolding passed_by
returns-in-3 c =
    let k = c.args.kind in
    let e : (eqb k 3 || eqb k 4) ≡ true = elim (ℕ_discrete k 3) [ yes q ↦ rw (eq-eqb k 3 q) | no q ↦ rw (ne_eqb k 3 q, eq-eqb k 4 (omega arith)) ] in
    rw (ne_eqb k 2 (λ q. omega arith), e) (to_z-of_z (less-fits c.ranges.echo c.requires) ∙ less c.ranges.echo)

-- below the kinds that pass on, and above them
pub returns-in_default : goal.returns-in_default
unfolding passed_by
returns-in_default c = let k = c.args.kind in rw (ne_eqb k 2 (λ q. omega arith), ne_eqb k 3 (λ q. omega arith), ne_eqb k 4 (λ q. omega arith))

pub returns-in_default-2 : goal.returns-in_default-2
unfolding passed_by
returns-in_default-2 c = let k = c.args.kind in rw (ne_eqb k 2 (λ q. omega arith), ne_eqb k 3 (λ q. omega arith), ne_eqb k 4 (λ q. omega arith))
