-- The first i right sides. Assumes nothing.
use Rattle.step_solve.specs.Rights.{Rights}
use Rattle.step_solve.proofs.right_sides.Given as goal

abbrev pub invariant-loop-i : goal.invariant-loop-i
invariant-loop-i l = Rights l.i l.free l.inject l.drawn l.b
