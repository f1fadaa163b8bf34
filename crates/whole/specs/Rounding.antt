-- Quotients: to the nearest, halves up; toward zero. Assumes nothing.
use Rattle.std.specs.Prelude.{◌+◌, ◌*◌, ◌-◌, ◌<◌, ◌≤◌, ◌^◌, ◌/◌, ◌%◌, ◌≡◌, ◌*ℤ◌}
use Rattle.whole.specs.Plain.{ℕ, zero, suc, refl, sym, ap, ◌∙◌, true}
use Rattle.whole.specs.Plain.{false≢true, ℤ, pos, negsuc, neg_ℤ, nat_abs, mag, lt_z, quot_z, ltb-true}
use Rattle.whole.specs.Plain.{div-eq_of_lt-le, div-add-mod', div-le_of_le-mul, div-mul-le_self, lt-div-mul-add}
use Rattle.whole.specs.Plain.{mul-le-mul_right, mul-le-mul_left, mod-lt, arith}
use Rattle.std.proofs.Math.Nat as NatL
use Rattle.std.specs.Int.{w64}
use Rattle.std.proofs.Common.{SFits, of_z}
use Rattle.whole.specs.Int.{abs_neg, abs_mul}
use Rattle.whole.specs.Size.{∣◌∣≤◌}

-- a / b to the nearest, halves up
unfoldable pub nearest : ℕ → ℕ → ℕ
nearest a b = (2 * a + b) / (2 * b)

-- a / b is from r - 1/2 on and below r + 1/2, and no other r is so
pub nearest_low : (a b : ℕ) → 2 * nearest a b * b ≤ 2 * a + b
unfolding nearest
nearest_low a b = omega (arith, div-mul-le_self (2 * a + b) (2 * b))

pub nearest_high : (a b : ℕ) → 0 < b → 2 * a < 2 * nearest a b * b + b
unfolding nearest
nearest_high a b h = let g : 0 < 2 * b = omega arith in omega (arith, lt-div-mul-add {a = 2 * a + b} g)

pub nearest_unique : (a b r : ℕ) → 2 * r * b ≤ 2 * a + b → 2 * a < 2 * r * b + b → nearest a b ≡ r
unfolding nearest
nearest_unique a b r lo hi = div-eq_of_lt-le (2 * b) (omega arith) (omega arith)

-- a quotient of at most top rounds to at most top
pub nearest_most : (a b top : ℕ) → 0 < b → a ≤ top * b → nearest a b ≤ top
nearest_most a b top h l = by_contra (λ (g : top < nearest a b). omega (arith, mul-le-mul_right b g, nearest_low a b))
  where
    by_contra : (top < nearest a b → ⊥) → nearest a b ≤ top
    by_contra f = omega (arith, f)

-- by the rest, without doubling
pub nearest_down : (a b : ℕ) → 0 < b → a % b < b - a % b → a / b ≡ nearest a b
nearest_down a b h t = sym (nearest_unique a b (a / b) (omega (arith, div-add-mod' a b)) (omega (arith, div-add-mod' a b)))

pub nearest_up : (a b : ℕ) → 0 < b → b - a % b ≤ a % b → a / b + 1 ≡ nearest a b
nearest_up a b h t = sym (nearest_unique a b (a / b + 1) (omega (arith, div-add-mod' a b)) (omega (arith, div-add-mod' a b, mod-lt a h)))

-- the quotient is at most half of a where the rest is half of b or more
pub quotient_half : (a b : ℕ) → 0 < b → b - a % b ≤ a % b → 2 * (a / b) ≤ a
quotient_half a b h t =
    let two : 2 ≤ b = omega (arith, mod-lt a h) in
    omega (arith, mul-le-mul_right (a / b) two, div-mul-le_self a b)

-- ---- toward zero
pub quot_abs : (x : ℤ) (d : ℕ) → nat_abs (quot_z x (pos d)) ≡ nat_abs x / d
quot_abs (pos n) d = refl
quot_abs (negsuc n) d = abs_neg (pos (suc n / d))

neg_fits : (k n : ℕ) → k ≤ suc n → n < 2 ^ 63 → SFits w64 (neg_ℤ (pos k))
neg_fits zero n h l = record { sfits = omega arith }
neg_fits (suc k) n h l = record { sfits = omega arith }

pub quot_fits : (x : ℤ) (d : ℕ) → mag x < 2 ^ 63 → SFits w64 (quot_z x (pos d))
quot_fits (pos n) d h = record { sfits = NatL.lt_of_le_of_lt (NatL.div-le_self n d) h }
quot_fits (negsuc n) d h = neg_fits (suc n / d) n (NatL.div-le_self (suc n) d) h

-- a part n / d of x, with n at most d, is no larger than x
pub part_size : {x : ℤ} {m : ℕ} (n d : ℕ) → n ≤ d → ∣ x ∣≤ m → ∣ quot_z (x *ℤ pos n) (pos d) ∣≤ m
part_size {x} {m} n d h p =
    let e : nat_abs (quot_z (x *ℤ pos n) (pos d)) ≡ nat_abs x * n / d = quot_abs (x *ℤ pos n) d ∙ ap (λ (k : ℕ). k / d) (abs_mul x (pos n)) in
    let g : nat_abs x * n ≤ d * nat_abs x = omega (arith, mul-le-mul_left (nat_abs x) h) in
    record { size = omega (arith, div-le_of_le-mul d g, p.size) }

-- the same of a divisor that a test has found to be over 0
pub over_zero : (b : ℤ) → lt_z (pos 0) b ≡ true → 0 < of_z w64 b
over_zero (pos d) e = ltb-true 0 d e
over_zero (negsuc d) e = absurd (false≢true e)

pub quot_fits_over : (x b : ℤ) → lt_z (pos 0) b ≡ true → mag x < 2 ^ 63 → SFits w64 (quot_z x b)
quot_fits_over x (pos d) e h = quot_fits x d h
quot_fits_over x (negsuc d) e h = absurd (false≢true e)
