-- `list_pieces::steps_on` meets its contract. The invariant: of every network that the tables are of, all areas have taken k steps, what is listed so far
-- stands in the buffer, and the steps that are left lead to the piece. Assumes nothing.
use Rattle.std.specs.Prelude.{◌≤◌}
use Rattle.whole.specs.Plain.{Words}
use Rattle.paper.specs.Advance.{memory}
use Rattle.list_pieces.specs.Begun.{Begins, Along}
use Rattle.list_pieces.proofs.steps_on.Given as goal

abbrev pub invariant-loop-k : goal.invariant-loop-k
invariant-loop-k l =
    (l.k ≤ l.totals.steps)
    × ((net : Words) → Begins net l.plan l.totals l.initial.owns l.initial.legs l.nodes l.sources (memory l.initial.records l.initial.froms l.initial.tos)
    → Along net l.plan l.nodes l.sources (memory l.initial.records l.initial.froms l.initial.tos) l.initial.out l.owns l.legs l.factors (memory l.records l.froms l.tos) l.at l.k l.out)
