-- A whole number by its floor and rest of 2^32: x = high x * 2^32 + low x with 0 ≤ low x < 2^32. Assumes nothing.
use Rattle.std.specs.Prelude.{◌+◌, ◌*◌, ◌-◌, ◌<◌, ◌^◌, ◌/◌, ◌%◌, ◌≡◌, ◌+ℤ◌, ◌*ℤ◌}
use Rattle.whole.specs.Plain.{ℕ, suc, refl, ap, ◌∙◌, ℤ, pos, negsuc, neg_ℤ}
use Rattle.whole.specs.Plain.{shr_z, mag_shr, lt_of_le_of_lt, arith}
use Rattle.std.specs.Int.Bits.{bit_and}
use Rattle.std.proofs.lemmas.Nat.{and_mask}
use Rattle.std.specs.Int.{w64}
use Rattle.std.proofs.Common.{SFits, to_z, of_z}
use Rattle.std.proofs.Math.Facts.{to_z_pos}
use Rattle.whole.specs.Int.{subℕ_lt}

abbrev pub high : ℤ → ℤ
high x = shr_z x (2 ^ 32)

abbrev pub low : ℤ → ℕ
low (pos a) = a % 2 ^ 32
low (negsuc a) = 2 ^ 32 - 1 - a % 2 ^ 32

minus_suc : (k n : ℕ) → k ≡ suc n → neg_ℤ (pos k) ≡ negsuc n
minus_suc k n e = rw e

high_times : (n : ℕ) → negsuc (n / 2 ^ 32) *ℤ pos (2 ^ 32) ≡ negsuc (n / 2 ^ 32 * 2 ^ 32 + (2 ^ 32 - 1))
high_times n = minus_suc (suc (n / 2 ^ 32) * 2 ^ 32) _ (omega arith)

pub high_low : (x : ℤ) → x ≡ high x *ℤ pos (2 ^ 32) +ℤ pos (low x)
high_low (pos n) = ap pos (omega arith)
high_low (negsuc n) =
    let r = 2 ^ 32 - 1 - n % 2 ^ 32 in
    let k = suc (n / 2 ^ 32 * 2 ^ 32 + (2 ^ 32 - 1)) in
    rw (high_times n, subℕ_lt r k (omega arith)) (ap negsuc (omega arith))

pub low_lt : (x : ℤ) → low x < 2 ^ 32
low_lt (pos n) = omega arith
low_lt (negsuc n) = omega arith

-- ---- as code has them: a shift, and a mask of the bits
pub high_fits : (x : ℤ) → SFits w64 x → SFits w64 (high x)
high_fits x f = record { sfits = lt_of_le_of_lt (mag_shr x (2 ^ 32)) f.sfits }

low_of_bits : (x : ℤ) → SFits w64 x → of_z w64 x % 2 ^ 32 ≡ low x
low_of_bits (pos a) f = refl
low_of_bits (negsuc a) f = omega arith

pub low_bits : (x : ℤ) → SFits w64 x → to_z w64 (bit_and (of_z w64 x) (2 ^ 32 - 1)) ≡ pos (low x)
low_bits x f = ap (to_z w64) (and_mask (of_z w64 x) 32 ∙ low_of_bits x f) ∙ to_z_pos w64 (omega (arith, low_lt x))
