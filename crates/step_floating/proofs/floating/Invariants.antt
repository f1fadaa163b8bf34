-- The nodes before those left are reached; the visit under way has come to the first of the branches left.
use Rattle.std.specs.Prelude.{◌-◌, ◌≡◌}
use Rattle.whole.specs.Plain.{length, drop, first}
use Rattle.paper.specs.Limits as Limits
use Rattle.paper.specs.Floating as Paper
use Rattle.step_legs.specs.Wires.{legs_in}
use Rattle.step_floating.specs.Search.{loose}
use Rattle.step_floating.specs.Answer.{floats}
use Rattle.step_floating.specs.Visits.{Visiting, left_of}
use Rattle.step_floating.proofs.floating.Given as goal

abbrev pub invariant-branches : goal.invariant-branches
invariant-branches l = Visiting l.legs l.free l.search l.visited l.branches

abbrev pub decreases-branches : goal.decreases-branches
decreases-branches l = left_of l.legs l.search l.branches

abbrev pub invariant-nodes : goal.invariant-nodes
invariant-nodes l =
    Visiting l.legs l.free l.search l.visited l.branches
    × ((l.nodes ≡ drop (length l.free - length l.nodes) l.free) × (Paper.floating (loose l.free) Limits.node_end l.free (legs_in l.legs) ≡ first (floats l.legs l.free) l.nodes))

abbrev pub decreases-nodes : goal.decreases-nodes
decreases-nodes l = length l.nodes
