-- `plan_own::lay_all` meets its contract: the areas passed are laid, with room for the rest. Assumes nothing.
use Rattle.std.specs.Prelude.{◌+◌, ◌≤◌}
use Rattle.laws_facts.specs.Nets.{net_in}
use Rattle.plan_own.specs.Laying.{Laying}
use Rattle.plan_own.proofs.lay_all.Given as goal

abbrev pub invariant-loop-a : goal.invariant-loop-a
invariant-loop-a l = (l.a ≤ l.totals.areas + 1) × Laying (net_in l.net.words.now) l.a l.at l.owns l.legs l.nodes l.sources
