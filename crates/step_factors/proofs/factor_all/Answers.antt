-- The invariant: the turns that are left lead to the answer; line p is as it was. Assumes nothing.
use Rattle.std.specs.Prelude.{◌+◌, ◌≡◌}
use Rattle.whole.specs.Plain.{refl, get_or-set_other, arith}
use Rattle.whole.specs.Turns.{turns_next, turns_end}
use Rattle.step_factors.specs.Factored.{row_factored, all_factored}
use Rattle.step_factors.proofs.factor_all.Goals as goal

pub loop-q-init : goal.loop-q-init
unfolding all_factored
loop-q-init c = (omega arith, refl, refl)

pub loop-q-preserved : goal.loop-q-preserved
unfolding row_factored
loop-q-preserved c =
    let w = c.before.before.before in
    let l = w.before in
    let s = l.before.before in
    let past : s.args.base + s.args.p ≡ s.args.base + l.loop-q.q → ⊥ = λ e. omega arith in (
      omega arith,
      turns_next _ _ _ _ _ _ w.loop-q-test.true (rw (l.loop-q.invariant.2, c.factor_line.ensures)) l.loop-q.invariant.1,
      rw (get_or-set_other, past) l.loop-q.invariant.2,
    )

pub returns : goal.returns
returns c = turns_end _ _ _ _ _ c.loop-q-test.false c.loop-q.invariant.1
