-- The sums over the first legs. Assumes nothing.
use Rattle.whole.specs.Plain.{take}
use Rattle.step_legs.specs.Wires.{legs_in}
use Rattle.step_legs.specs.Shares.{drawn}
use Rattle.step_legs.specs.Sums.{Sums, none}
use Rattle.step_solve.proofs.draws.Given as goal

abbrev pub invariant-loop-leg : goal.invariant-loop-leg
invariant-loop-leg l = Sums none (drawn l.still) (take l.leg-index (legs_in l.legs)) l.sums
