-- `step_conduct::opening` meets its contract. Assumes nothing.
use Rattle.std.specs.Prelude.{◌<◌, ◌^◌, ◌≡◌}
use Rattle.whole.specs.Plain.{refl, sym, true, true≢false, ℤ, pos, negsuc, mag, lt_z, eq-eqb, ne_eqb, arith, nat}
use mir.Facts.{to_z-of_z}
use Rattle.whole.specs.Index.{index}
use Rattle.step_conduct.specs.Conducted.{opening_of}
use Rattle.step_conduct.proofs.opening.Goals as goal

above : (x : ℤ) → lt_z (pos 0) x ≡ true → x ≡ pos (nat x)
above (pos n) e = refl
above (negsuc n) e = absurd (true≢false (sym e))

below : (x : ℤ) → lt_z (pos 0) x ≡ true → mag x < 2 ^ 63 → nat x < 2 ^ 63
below (pos n) e h = h
below (negsuc n) e h = absurd (true≢false (sym e))

pub returns-then-r-ne-SW : goal.returns-then-r-ne-SW
unfolding opening_of
returns-then-r-ne-SW c = rw (ne_eqb _ 5 c.if-r-ne-SW.true)

pub overflow_cast-result : goal.overflow_cast-result
overflow_cast-result c = index c.args.latch _ c.ranges.latch.sfits (above c.args.latch (rw (to_z-of_z c.ranges.latch) at c.if-latch-gt0.true))

pub overflow_add-result : goal.overflow_add-result
overflow_add-result c = record { fits = rw (to_z-of_z c.ranges.latch) (omega (arith, below c.args.latch (rw (to_z-of_z c.ranges.latch) at c.if-latch-gt0.true) c.ranges.latch.sfits)) }

pub returns-then-latch-gt0 : goal.returns-then-latch-gt0
unfolding opening_of
returns-then-latch-gt0 c = rw (eq-eqb _ 5 c.if-r-ne-SW.false, rw (to_z-of_z c.ranges.latch) at c.if-latch-gt0.true, to_z-of_z c.ranges.latch)

pub returns-else-latch-gt0 : goal.returns-else-latch-gt0
unfolding opening_of
returns-else-latch-gt0 c = rw (eq-eqb _ 5 c.if-r-ne-SW.false, rw (to_z-of_z c.ranges.latch) at c.if-latch-gt0.false)
