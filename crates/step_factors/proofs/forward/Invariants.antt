-- The invariant: the turns that are left lead to the answer. Assumes nothing.
use Rattle.std.specs.Prelude.{◌≡◌}
use Rattle.whole.specs.Turns.{turns}
use Rattle.step_factors.specs.Factored.{row_forward, forward}
use Rattle.step_factors.proofs.forward.Given as goal

abbrev pub invariant-loop-q : goal.invariant-loop-q
invariant-loop-q l = turns l.q l.n (row_forward l.base l.a) l.b ≡ forward l.base l.n l.a l.initial.b
