-- The invariant: the turns that are left lead to the answer. Assumes nothing.
use Rattle.std.specs.Prelude.{◌≡◌}
use Rattle.whole.specs.Turns.{turns}
use Rattle.step_factors.specs.Factored.{all_factored, factored}
use Rattle.step_factors.proofs.factor.Given as goal

abbrev pub invariant-loop-p : goal.invariant-loop-p
invariant-loop-p l = turns l.p l.n (all_factored l.base l.n) l.a ≡ factored l.base l.n l.initial.a
