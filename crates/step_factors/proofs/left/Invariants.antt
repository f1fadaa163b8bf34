-- The invariant: the turns that are left lead to the answer. Assumes nothing.
use Rattle.std.specs.Prelude.{◌≡◌}
use Rattle.whole.specs.Turns.{turns}
use Rattle.paper.specs.Elimination.{term_less}
use Rattle.step_factors.specs.Factored.{left}
use Rattle.step_factors.proofs.left.Given as goal

abbrev pub invariant-loop-c : goal.invariant-loop-c
invariant-loop-c l = turns l.c l.to (term_less l.line l.x) l.t ≡ left l.line l.x l.from l.to l.right
