-- `step_matrix::clear` meets its contract: the first p lines of the block are zeros. Assumes nothing.
use Rattle.step_matrix.specs.Cleared.{Cleared}
use Rattle.step_matrix.proofs.clear.Given as goal

abbrev pub invariant-loop-p : goal.invariant-loop-p
invariant-loop-p l = Cleared l.base l.n l.p l.initial.a l.a
