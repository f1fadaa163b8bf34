-- `step_sources::ramp` meets its contract: one answer for each of its three cases. Assumes nothing.
use Rattle.std.specs.Prelude.{◌≡◌, ◌*ℤ◌}
use Rattle.whole.specs.Plain.{◌∙◌, true, false, ℤ, quot_z, lt_z, z}
use mir.Syntax.{w64}
use mir.Val.{SFits}
use mir.Facts.{to_z-of_z}
use Rattle.whole.specs.Rounding.{quot_fits_over}
use Rattle.step_sources.specs.Table.{ramp_of}
use Rattle.step_sources.specs.Values.{rise_fits, rise_over}
use Rattle.step_sources.proofs.ramp.Goals as goal

-- on the way up: the quotient fits as the product does
quotient_fits : (p n d : ℤ) → lt_z n z ≡ false → lt_z n d ≡ true → SFits w64 (p *ℤ n) → SFits w64 (quot_z (p *ℤ n) d)
quotient_fits p n d e l f = quot_fits_over (p *ℤ n) d (rise_over n d e l) f.sfits

pub returns-then-n-lt0 : goal.returns-then-n-lt0
unfolding ramp_of
returns-then-n-lt0 c = rw (simp (to_z-of_z, c.ranges.n) at c.if-n-lt0.true)

pub overflow_mul-result : goal.overflow_mul-result
overflow_mul-result c =
    let a = c.args in
    let e = simp (to_z-of_z, c.ranges.n) at c.if-n-lt0.false in
    let l = simp (to_z-of_z, c.ranges.n, c.ranges.rise) at c.if-n-rise.true in
    simp (to_z-of_z, c.ranges.peak, c.ranges.n) (rise_fits a.peak a.n a.rise c.requires.0 c.requires.1 e l)

pub returns-then-n-rise : goal.returns-then-n-rise
unfolding ramp_of
returns-then-n-rise c =
    let a = c.args in
    let e = simp (to_z-of_z, c.ranges.n) at c.if-n-lt0.false in
    let l = simp (to_z-of_z, c.ranges.n, c.ranges.rise) at c.if-n-rise.true in
    let f = rise_fits a.peak a.n a.rise c.requires.0 c.requires.1 e l in
    simp (to_z-of_z, c.ranges.peak, c.ranges.n, c.ranges.rise, f, quotient_fits a.peak a.n a.rise e l f) (rw (e, l))

pub returns : goal.returns
unfolding ramp_of
returns c = to_z-of_z c.ranges.peak ∙ rw (simp (to_z-of_z, c.ranges.n) at c.if-n-lt0.false, simp (to_z-of_z, c.ranges.n, c.ranges.rise) at c.if-n-rise.false)
