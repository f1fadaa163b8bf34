-- `step_records::put_leg` meets its contract. Assumes nothing.
use Rattle.std.proofs.Common.{rules}
use Rattle.std.specs.Prelude.{◌≡◌, ◌||◌}
use Rattle.whole.specs.Plain.{sym, ◌∙◌, true, false, eqb, eq-eqb, ne_eqb, ℕ_discrete, arith}
use Rattle.whole.specs.Int.{read64}
use Rattle.paper.specs.Advance.{put_if}
use Rattle.step_legs.specs.Side.{from_is, to_is}
use Rattle.step_latch.specs.Parting.{latch_put}
use Rattle.step_records.specs.Records.{leg_put, held_unparted}
use Rattle.step_records.proofs.put_leg.Goals as goal

pub returns-in-From-eq2 : goal.returns-in-From-eq2
unfolding leg_put latch_put put_if
returns-in-From-eq2 c =
    let a = c.args in
    let o = from_is a.l.end (sym c.side.ensures ∙ c.in-From-eq2.is-0) in
    let k : (eqb a.l.kind 2 || eqb a.l.kind 3) ≡ true = elim (ℕ_discrete a.l.kind 2) [ yes q ↦ rw (eq-eqb a.l.kind 2 q) | no q ↦ rw (ne_eqb a.l.kind 2 q, eq-eqb a.l.kind 3 (omega arith)) ] in
    let u = held_unparted a.plan.now a.k a.l a.records.now k in
    record { records_value = rw (read64 a.l.current (search rules), read64 a.l.passed (search rules), o, u, k); value = rw (o, u) }

pub returns-in-From-default : goal.returns-in-From-default
unfolding leg_put put_if
returns-in-From-default c =
    let a = c.args in
    let o = from_is a.l.end (sym c.side.ensures ∙ c.in-From-default.is-0) in
    let k : (eqb a.l.kind 2 || eqb a.l.kind 3) ≡ false = rw (ne_eqb a.l.kind 2 (λ q. grind arith), ne_eqb a.l.kind 3 (λ q. grind arith)) in
    record { records_value = rw (c.part-parted.ensures.records_value, read64 a.l.current (search rules), o, k); value = rw o c.part-parted.ensures.value }

pub returns-in-To-eq4 : goal.returns-in-To-eq4
unfolding leg_put put_if
returns-in-To-eq4 c =
    let a = c.args in
    let o = to_is a.l.end (sym c.side.ensures ∙ c.in-To-eq4.is-0) in
    record { records_value = rw (read64 a.l.current (search rules), o, eq-eqb a.l.kind 4 (omega arith)); value = rw o }

pub returns-in-To-default : goal.returns-in-To-default
unfolding leg_put put_if
returns-in-To-default c =
    let a = c.args in
    let o = to_is a.l.end (sym c.side.ensures ∙ c.in-To-default.is-0) in
    record { records_value = rw (o, ne_eqb a.l.kind 4 (λ q. omega arith)); value = rw o }
