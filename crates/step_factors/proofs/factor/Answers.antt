-- The invariant: the turns that are left lead to the answer. Assumes nothing.
use Rattle.whole.specs.Plain.{refl}
use Rattle.whole.specs.Turns.{turns_next, turns_end}
use Rattle.step_factors.specs.Factored.{factored}
use Rattle.step_factors.proofs.factor.Goals as goal

pub loop-p-init : goal.loop-p-init
unfolding factored
loop-p-init c = refl

pub loop-p-preserved : goal.loop-p-preserved
loop-p-preserved c = turns_next _ _ _ _ _ _ c.loop-p-test.true c.factor_all.ensures c.loop-p.invariant

pub returns : goal.returns
returns c = turns_end _ _ _ _ _ c.loop-p-test.false c.loop-p.invariant
