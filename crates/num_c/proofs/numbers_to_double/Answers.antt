-- Assumes nothing.
use Rattle.whole.specs.Plain.{◌∙◌, ap}
use mir.Facts.{to_z-of_z}
use Rattle.paper.specs.Doubles.{double}
use Rattle.num_c.proofs.numbers_to_double.Goals as goal

pub returns : goal.returns
returns c = c.to_double.ensures ∙ ap double (to_z-of_z c.ranges.x)
