-- `call_state::section` meets its contract. Assumes nothing.
use mir.Facts.{to_z-of_z}
use Rattle.call_state.specs.Judged.{section_formed}
use Rattle.call_state.proofs.section.Goals as goal

pub returns : goal.returns
unfolding section_formed
returns c = simp (to_z-of_z, c.ranges.most, c.part-taken.ensures, c.unused-rest.ensures)
