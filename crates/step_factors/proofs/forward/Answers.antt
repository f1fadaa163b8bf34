-- The invariant: the turns that are left lead to the answer. Assumes nothing.
use Rattle.whole.specs.Plain.{refl}
use Rattle.whole.specs.Turns.{turns_next, turns_end}
use Rattle.step_factors.specs.Factored.{row_forward, forward}
use Rattle.step_factors.proofs.forward.Goals as goal

pub loop-q-init : goal.loop-q-init
unfolding forward
loop-q-init c = refl

pub loop-q-preserved : goal.loop-q-preserved
unfolding row_forward
loop-q-preserved c = turns_next _ _ _ _ _ _ c.loop-q-test.true (rw c.left.ensures) c.loop-q.invariant

pub returns : goal.returns
returns c = turns_end _ _ _ _ _ c.loop-q-test.false c.loop-q.invariant
