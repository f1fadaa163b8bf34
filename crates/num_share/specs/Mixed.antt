-- A value between two others by the sign of what lies between them, and what keeps it within a word. Assumes nothing.
use Rattle.std.specs.Prelude.{◌+◌, ◌*◌, ◌-◌, ◌/◌, ◌≤◌, ◌<◌, ◌≡◌, ◌+ℤ◌, ◌-ℤ◌, ◌*ℤ◌}
use Rattle.whole.specs.Plain.{ℕ, zero, suc, true, false, true≢false}
use Rattle.whole.specs.Plain.{ltb-true, ℤ, pos, negsuc, neg_ℤ, nat_abs, lt_z, add-zero, add-div_right, arith}
use Rattle.std.proofs.Math.Nat.{div-eq_of_lt}
use Rattle.std.proofs.Common.{add-one}
use Rattle.whole.specs.Int.{abs_sub_le}
use Rattle.whole.specs.Mixing.{floor_quot, mixed}
use Rattle.paper.specs.Limits as Limits

-- a weight of the step length
pub record Shared (step weight : ℕ) : Type 0 where
  pub long : 0 < step
  pub short : step ≤ Limits.step_length_end
  pub part : weight ≤ step

-- two sent values
pub record Mixable (newer older : ℤ) : Type 0 where
  pub newer_end : nat_abs newer ≤ Limits.history_end
  pub older_end : nat_abs older ≤ Limits.history_end

pub gap_end : {a b : ℤ} → Mixable a b → nat_abs (b -ℤ a) ≤ 2 * Limits.history_end
gap_end {a} {b} m = abs_sub_le b a {m = Limits.history_end} {n = Limits.history_end} m.older_end m.newer_end

pub over : (d w : ℕ) (a b : ℤ) → lt_z (b -ℤ a) (pos 0) ≡ false → a +ℤ pos ((nat_abs (b -ℤ a) * w + 0) / d) ≡ mixed d w a b
unfolding mixed floor_quot
over d w a b = by (b -ℤ a)
  where
    by : (x : ℤ) → lt_z x (pos 0) ≡ false → a +ℤ pos ((nat_abs x * w + 0) / d) ≡ a +ℤ floor_quot (x *ℤ pos w) d
    by (pos n) h = rw (add-zero (n * w))
    by (negsuc n) h = absurd (true≢false h)

-- rounded up, with a minus
floor_down : (m d : ℕ) → 0 < d → floor_quot (neg_ℤ (pos m)) d ≡ neg_ℤ (pos ((m + (d - 1)) / d))
unfolding floor_quot
floor_down zero d h = rw (div-eq_of_lt {n = 0} {m = d} h, div-eq_of_lt {n = 0 + (d - 1)} {m = d} (omega arith))
floor_down (suc j) d h =
    let e : suc j + (d - 1) ≡ j + d = omega arith in
    rw (e, add-div_right j h, add-one (j / d))

pub under : (d w : ℕ) (a b : ℤ) → 0 < d → lt_z (b -ℤ a) (pos 0) ≡ true → a -ℤ pos ((nat_abs (b -ℤ a) * w + (d - 1)) / d) ≡ mixed d w a b
unfolding mixed
under d w a b p = by (b -ℤ a)
  where
    by : (x : ℤ) → lt_z x (pos 0) ≡ true → a -ℤ pos ((nat_abs x * w + (d - 1)) / d) ≡ a +ℤ floor_quot (x *ℤ pos w) d
    by (pos n) h = absurd (omega (arith, ltb-true n 0 h))
    by (negsuc n) h = rw (floor_down (suc n * w) d p)
