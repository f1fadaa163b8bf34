-- The search from the free node on. Assumes nothing.
use Rattle.std.specs.Prelude.{◌≡◌}
use Rattle.whole.specs.Plain.{drop, nat, first}
use Rattle.step_flow.specs.Past.{past, first_past}
use Rattle.step_flow.proofs.balance.Given as goal

abbrev pub invariant-loop-p : goal.invariant-loop-p
invariant-loop-p l = first_past (nat l.limit) (drop 1 l.leaving) (drop l.one l.injected) l.free ≡ first (past (nat l.limit) (drop 1 l.leaving) (drop l.one l.injected)) (drop l.p-index l.free)
