-- `call_state::peak_formed` meets its contract. Assumes nothing.
use Rattle.std.specs.Prelude.{◌≡◌}
use Rattle.whole.specs.Plain.{refl, true, false, true≢false, ℤ, pos, negsuc, lt_z, non_neg, ltb-true, arith}
use mir.Syntax.{w64}
use mir.Val.{to_z}
use mir.Facts.{to_z-of_z, to_z_pos}
use Rattle.paper.specs.Records.{peak_formed}
use Rattle.call_state.proofs.peak_formed.Goals as goal

below : (x : ℤ) → lt_z x (pos 0) ≡ true → non_neg x ≡ false
below (pos n) e = absurd (omega (arith, ltb-true n 0 e))
below (negsuc n) e = refl

above : (x : ℤ) → lt_z x (pos 0) ≡ false → non_neg x ≡ true
above (pos n) e = refl
above (negsuc n) e = absurd (true≢false e)

pub returns-then-peak-lt0 : goal.returns-then-peak-lt0
unfolding peak_formed
returns-then-peak-lt0 c = rw (below c.args.peak (rw (to_z-of_z c.ranges.peak) at c.if-peak-lt0.true))

pub returns-then-step-lt0 : goal.returns-then-step-lt0
unfolding peak_formed
returns-then-step-lt0 c =
    let p = above c.args.peak (rw (to_z-of_z c.ranges.peak) at c.if-peak-lt0.false) in
    rw (p, below c.args.step (rw (to_z-of_z c.ranges.step) at c.if-step-lt0.true))

pub returns : goal.returns
unfolding peak_formed
returns c =
    let p = above c.args.peak (rw (to_z-of_z c.ranges.peak) at c.if-peak-lt0.false) in
    let s = above c.args.step (rw (to_z-of_z c.ranges.step) at c.if-step-lt0.false) in
    let n : to_z w64 c.args.count ≡ pos c.args.count = to_z_pos w64 (omega arith) in
    rw (p, s, c.within-reached.ensures, c.within-counted.ensures, to_z-of_z c.ranges.volt, to_z-of_z c.ranges.peak, to_z-of_z c.ranges.step, n)
