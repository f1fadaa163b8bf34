-- `plan_rows::fill` meets its contract: the rows passed are planned, their slots and branches counted. Assumes nothing.
use Rattle.std.specs.Prelude.{◌≡◌}
use Rattle.paper.specs.Areas.{branch_number}
use Rattle.paper.specs.Records.{offset}
use Rattle.laws_facts.specs.Nets.{net_in}
use Rattle.plan_rows.specs.Planned.{PlannedTo}
use Rattle.plan_rows.proofs.fill.Given as goal

abbrev pub invariant-loop-i : goal.invariant-loop-i
invariant-loop-i l = (l.slots ≡ offset (net_in l.net.words.now) l.i) × (l.number ≡ branch_number (net_in l.net.words.now) l.i) × PlannedTo (net_in l.net.words.now) l.i l.plan
