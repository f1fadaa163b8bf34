-- The invariant: the turns that are left lead to the line, the multiplier not yet in its place. Assumes nothing.
use Rattle.whole.specs.Plain.{refl}
use Rattle.whole.specs.Turns.{turns_next, turns_end}
use Rattle.paper.specs.Elimination.{line_less}
use Rattle.step_factors.specs.Factored.{line_factored}
use Rattle.step_factors.proofs.factor_line.Goals as goal

pub loop-c-init : goal.loop-c-init
unfolding line_less
loop-c-init c = refl

pub loop-c-preserved : goal.loop-c-preserved
loop-c-preserved c = turns_next _ _ _ _ _ _ c.loop-c-test.true refl c.loop-c.invariant

pub returns : goal.returns
unfolding line_factored
returns c = rw (turns_end _ _ _ _ _ c.loop-c-test.false c.loop-c.invariant)
