-- The invariant: the turns that are left lead to the answer; line p is as it was. Assumes nothing.
use Rattle.std.specs.Prelude.{◌+◌, ◌<◌, ◌≡◌}
use Rattle.whole.specs.Turns.{turns}
use Rattle.paper.specs.Elimination.{line}
use Rattle.step_factors.specs.Factored.{row_factored, all_factored}
use Rattle.step_factors.proofs.factor_all.Given as goal

abbrev pub invariant-loop-q : goal.invariant-loop-q
invariant-loop-q l = (l.p < l.q) × (turns l.q l.n (row_factored l.base l.n l.p) l.a ≡ all_factored l.base l.n l.p l.initial.a) × (line l.a (l.base + l.p) ≡ l.top)
