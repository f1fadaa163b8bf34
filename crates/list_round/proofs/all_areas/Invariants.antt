-- `list_round::all_areas` meets its contract. The invariant: of every network that the tables are of, the areas passed have taken the step, and the turns
-- that are left lead to the same piece. Assumes nothing.
use Rattle.std.specs.Prelude.{◌+◌, ◌≤◌}
use Rattle.whole.specs.Plain.{Words}
use Rattle.paper.specs.Advance.{memory}
use Rattle.list_round.specs.Round.{Starts}
use Rattle.list_round.specs.Passed.{Passed}
use Rattle.list_round.proofs.all_areas.Given as goal

abbrev pub invariant-loop-area : goal.invariant-loop-area
invariant-loop-area l =
    (1 ≤ l.area) × (l.area ≤ l.step.areas + 1)
    × ((net : Words) → Starts net l.step l.plan l.initial.owns l.initial.legs l.nodes l.sources l.initial.factors (memory l.initial.records l.initial.froms l.initial.tos)
    → Passed net l.step.taken l.plan l.nodes l.sources (memory l.initial.records l.initial.froms l.initial.tos) l.area l.owns l.legs l.factors (memory l.records l.froms l.tos))
