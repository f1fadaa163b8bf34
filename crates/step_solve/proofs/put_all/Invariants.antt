-- The first i are within the range. Assumes nothing.
use Rattle.step_solve.specs.Settling.{SettledTo}
use Rattle.step_solve.proofs.put_all.Given as goal

abbrev pub invariant-loop-i : goal.invariant-loop-i
invariant-loop-i l = SettledTo l.free l.xs l.initial.v l.v l.i
