-- `call_state::part` meets its contract. Assumes nothing.
use mir.Facts.{to_z-of_z}
use Rattle.call_state.specs.Judged.{part_formed}
use Rattle.call_state.proofs.part.Goals as goal

pub returns : goal.returns
unfolding part_formed
returns c = simp (to_z-of_z, c.ranges.most, c.all_within.ensures)
