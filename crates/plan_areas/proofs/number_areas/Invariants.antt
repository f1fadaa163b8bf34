-- `plan_areas::number_areas` meets its contract: the nodes passed have their areas' numbers. Assumes nothing.
use Rattle.std.specs.Prelude.{◌+◌, ◌-◌, ◌≤◌}
use Rattle.plan_areas.specs.Numbered.{Numbering, low_in}
use Rattle.plan_areas.proofs.number_areas.Given as goal

abbrev pub invariant-loop-n : goal.invariant-loop-n
invariant-loop-n l = (l.n ≤ l.nodes + 1) × Numbering (low_in l.net.words.now) l.area (l.n - 1) l.count
