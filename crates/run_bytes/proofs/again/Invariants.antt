-- The invariant: the calls so far failed, and lead from the call's state at the start to its state now. Assumes nothing.
use Rattle.std.specs.Prelude.{List, Result, IsErr, ℕ}
use Rattle.std.specs.List.{All, FoldsTo}
use Rattle.std.specs.declared.io.Error.{Error as IoError}
use Rattle.run_bytes.proofs.again.Given as goal

abbrev pub invariant-loop : goal.invariant-loop
invariant-loop g l = goal.F-IsAlwaysCallable g l.call × (before : List (Result ℕ IoError)) × All IsErr before × FoldsTo (goal.F-step g) l.fn.call before l.call
