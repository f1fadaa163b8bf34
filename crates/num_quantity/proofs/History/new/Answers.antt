use mir.Facts.{to_z-of_z}
use Rattle.whole.specs.Plain.{between}
use Rattle.num_quantity.proofs.History.new.Goals as goal

pub returns-then-x : goal.returns-then-x
unfolding between
returns-then-x c = simp (to_z-of_z, c.ranges.x) (rw (simp (to_z-of_z, c.ranges.x) at c.if-x.true))

pub returns : goal.returns
unfolding between
returns c = rw (simp (to_z-of_z, c.ranges.x) at c.if-x.false)
