use mir.Facts.{to_z-of_z}
use Rattle.whole.specs.Floor.{high_fits}
use Rattle.whole.proofs.high.Goals as goal

pub returns : goal.returns
returns c = simp (to_z-of_z, c.ranges.x, high_fits c.args.x c.ranges.x)
