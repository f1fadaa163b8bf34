-- The invariant: the turns that are left lead to the answer. Assumes nothing.
use Rattle.whole.specs.Plain.{refl}
use Rattle.whole.specs.Turns.{turns_next, turns_end}
use Rattle.step_factors.specs.Factored.{left}
use Rattle.step_factors.proofs.left.Goals as goal

pub loop-c-init : goal.loop-c-init
unfolding left
loop-c-init c = refl

pub loop-c-preserved : goal.loop-c-preserved
loop-c-preserved c = turns_next _ _ _ _ _ _ c.loop-c-test.true refl c.loop-c.invariant

pub returns : goal.returns
returns c = turns_end _ _ _ _ _ c.loop-c-test.false c.loop-c.invariant
