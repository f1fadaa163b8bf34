-- The invariant: the turns that are left lead to the answer. Assumes nothing.
use Rattle.whole.specs.Plain.{refl, arith}
use Rattle.whole.specs.Turns.{downs_next, downs_end}
use Rattle.step_factors.specs.Factored.{row_back, back}
use Rattle.step_factors.proofs.back.Goals as goal

pub loop-p-init : goal.loop-p-init
unfolding back
loop-p-init c = (omega arith, refl)

pub loop-p-preserved : goal.loop-p-preserved
unfolding row_back
loop-p-preserved c = (omega arith, downs_next _ _ _ _ _ c.loop-p-test.true (rw c.solve_row.ensures) c.loop-p.invariant.1)

pub returns : goal.returns
returns c = downs_end _ _ _ _ c.loop-p-test.false c.loop-p.invariant.1
