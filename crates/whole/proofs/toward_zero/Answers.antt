use Rattle.whole.specs.Plain.{quot_z}
use mir.Syntax.{w64}
use mir.Val.{SFits}
use mir.Facts.{to_z-of_z}
use Rattle.whole.specs.Rounding.{over_zero, quot_fits_over}
use Rattle.whole.proofs.toward_zero.Goals as goal

fits : (c : goal.Start) → SFits w64 (quot_z c.args.a c.args.b)
fits c = quot_fits_over c.args.a c.args.b c.requires c.ranges.a.sfits

pub nonzero_div-result : goal.nonzero_div-result
nonzero_div-result c = (over_zero c.args.b c.requires, simp (to_z-of_z, c.ranges.a, c.ranges.b) (fits c))

pub returns : goal.returns
returns c = simp (to_z-of_z, c.ranges.a, c.ranges.b, fits c)
