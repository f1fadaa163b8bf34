-- `plan_areas::round` meets its contract: the rows that are left lead to the round, and where no mark changed so far they stand as they were. Assumes nothing.
use Rattle.std.specs.Prelude.{◌≡◌}
use Rattle.whole.specs.Plain.{false, length, drop, fold}
use Rattle.laws_facts.specs.Nets.{net_in}
use Rattle.plan_areas.specs.Marks.{join_row}
use Rattle.plan_areas.proofs.round.Given as goal

abbrev pub invariant-loop-i : goal.invariant-loop-i
invariant-loop-i l =
    let rows = (net_in l.net.words.now).rows in
    (length l.area ≡ 33) × ((l.moved ≡ false → l.area ≡ l.initial.area) × (fold join_row l.area (drop l.i rows) ≡ fold join_row l.initial.area rows))
