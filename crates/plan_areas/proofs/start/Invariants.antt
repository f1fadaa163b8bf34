-- `plan_areas::start` meets its contract. The invariant: the places passed have their nodes' own numbers. Assumes nothing.
use Rattle.std.specs.Prelude.{◌≡◌}
use Rattle.whole.specs.Plain.{length}
use Rattle.whole.specs.Upto.{Upto}
use Rattle.plan_areas.specs.Marks.{own_mark}
use Rattle.plan_areas.proofs.start.Given as goal

abbrev pub invariant-loop-n : goal.invariant-loop-n
invariant-loop-n l = (length l.area ≡ 33) × Upto 0 (own_mark l.nodes) l.n l.area
