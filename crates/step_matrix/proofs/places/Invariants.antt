-- `step_matrix::places` meets its contract: the first i free nodes have their places. Assumes nothing.
use Rattle.step_matrix.specs.Placed.{Placed}
use Rattle.step_matrix.proofs.places.Given as goal

abbrev pub invariant-loop-i : goal.invariant-loop-i
invariant-loop-i l = Placed l.free l.place l.i
