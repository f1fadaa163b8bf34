-- The invariant: the turns that are left lead to the answer. Assumes nothing.
use Rattle.std.specs.Prelude.{◌≤◌, ◌≡◌}
use Rattle.whole.specs.Turns.{downs}
use Rattle.step_factors.specs.Factored.{row_back, back}
use Rattle.step_factors.proofs.back.Given as goal

abbrev pub invariant-loop-p : goal.invariant-loop-p
invariant-loop-p l = (l.p ≤ l.n) × (downs l.p (row_back l.base l.n l.a) l.x ≡ back l.base l.n l.a l.initial.x)
