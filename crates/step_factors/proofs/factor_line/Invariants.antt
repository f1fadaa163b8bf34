-- The invariant: the turns that are left lead to the line, the multiplier not yet in its place. Assumes nothing.
use Rattle.std.specs.Prelude.{◌≡◌}
use Rattle.whole.specs.Turns.{turns}
use Rattle.paper.specs.Elimination.{line_less, cell_less}
use Rattle.step_factors.proofs.factor_line.Given as goal

abbrev pub invariant-loop-c : goal.invariant-loop-c
invariant-loop-c l = turns l.c l.n (cell_less l.f l.top) l.own ≡ line_less l.n l.p l.f l.top l.initial.own
