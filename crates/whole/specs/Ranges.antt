-- Whether |x| ≤ m: by the sign of m - |x|, and for many words at once by the sign of all these taken together. Assumes nothing.
use Rattle.std.specs.Prelude.{◌-◌, ◌<◌, ◌≤◌, ◌^◌, ◌≡◌, ◌&&◌, ◌+ℤ◌, ◌-ℤ◌}
use Rattle.whole.specs.Plain.{ℕ, zero, suc, refl, sym, ap, ◌∙◌, Bool, true, false}
use Rattle.whole.specs.Plain.{true≢false, T, leb, ltb, eqb, leb-zero, leb-suc-zero, eqb-suc-zero, ℤ, pos, negsuc}
use Rattle.whole.specs.Plain.{nat_abs, sub_ℕ, mag, le_z, lt_z, non_neg, ltb-true, ltb-false, lt-ltb}
use Rattle.whole.specs.Plain.{le-ltb, lt-leb, le-leb, eqb-true, eqb-false, ne_eqb, arith, up_to}
use Rattle.std.specs.Int.Bits.{bit_or, or_add_and}
use Rattle.std.proofs.lemmas.Nat.{or_lt, or_comm, and_le_r}
use Rattle.std.specs.Int.{w64}
use Rattle.std.proofs.Common.{SFits, to_z, of_z}
use Rattle.whole.specs.Int.{subℕ_lt, subℕ_ge}

-- what is left of m over |x|
abbrev pub room_of : ℤ → ℤ → ℤ
room_of m x = m -ℤ pos (nat_abs x)

pos_sub : (k n : ℕ) → pos k -ℤ pos n ≡ sub_ℕ k n
pos_sub k zero = ap pos (omega arith) ∙ sym (subℕ_ge k 0 (omega arith))
pos_sub k (suc n) = refl

pub room_neg : (m x : ℤ) → lt_z x (pos 0) ≡ true → m +ℤ x ≡ room_of m x
room_neg m (pos n) e = absurd (omega (arith, ltb-true n 0 e))
room_neg m (negsuc n) e = refl

pub room_pos : (m x : ℤ) → lt_z x (pos 0) ≡ false → m -ℤ x ≡ room_of m x
room_pos m (pos n) e = refl
room_pos m (negsuc n) e = absurd (true≢false e)

-- by the test n ≤ k: what is left is k - n, or short of 0 by n - k
module _ (k n : ℕ) where
  room_fits_at : k < 2 ^ 63 → n ≤ 2 ^ 63 → SFits w64 (sub_ℕ k n)
  room_fits_at h l = elim (ltb k n) as (λ t. ltb k n ≡ t → SFits w64 (sub_ℕ k n)) [
    | true ↦ λ e. let q : k < n = ltb-true k n e in rw (subℕ_lt k n q) (record { sfits = omega arith })
    | false ↦ λ e. let q : n ≤ k = ltb-false k n e in rw (subℕ_ge k n q) (record { sfits = omega arith })
  ] refl

  room_sign_at : le_z (pos 0) (sub_ℕ k n) ≡ leb n k
  room_sign_at = elim (ltb k n) as (λ t. ltb k n ≡ t → le_z (pos 0) (sub_ℕ k n) ≡ leb n k) [
    | true ↦ λ e. let q : k < n = ltb-true k n e in rw (subℕ_lt k n q, lt-leb n k q)
    | false ↦ λ e. let q : n ≤ k = ltb-false k n e in rw (subℕ_ge k n q, le-leb n k q) (leb-zero (k - n))
  ] refl

abs_most : (x : ℤ) → mag x < 2 ^ 63 → nat_abs x ≤ 2 ^ 63
abs_most (pos n) h = omega arith
abs_most (negsuc n) h = omega arith

pub room_fits : (m x : ℤ) → T (non_neg m) → SFits w64 m → SFits w64 x → SFits w64 (room_of m x)
room_fits (pos k) x t f g = rw (pos_sub k (nat_abs x)) (room_fits_at k (nat_abs x) f.sfits (abs_most x g.sfits))
room_fits (negsuc _) x t f g = elim t [ ]

-- one word: m - |x| is no negative number
pub room_sign : (m x : ℤ) → T (non_neg m) → le_z (pos 0) (room_of m x) ≡ up_to (nat_abs m) x
unfolding up_to
room_sign (pos k) x t = rw (pos_sub k (nat_abs x)) (room_sign_at k (nat_abs x))
room_sign (negsuc _) x t = elim t [ ]

-- ---- the sign of a word is its highest bit
pub sign_bit : (n : ℕ) → le_z (pos 0) (to_z w64 n) ≡ ltb n (2 ^ 63)
sign_bit n = elim (ltb n (2 ^ 63)) as (λ t. ltb n (2 ^ 63) ≡ t → le_z (pos 0) (to_z w64 n) ≡ ltb n (2 ^ 63)) [ true ↦ λ e. rw e (leb-zero n) | false ↦ λ e. rw e ] refl

or_above : (a b : ℕ) → a ≤ bit_or a b
or_above a b = omega (arith, or_add_and a b, and_le_r a b)

-- and two words taken together have it where either has
pub or_sign : (a b : ℕ) → ltb (bit_or a b) (2 ^ 63) ≡ (ltb a (2 ^ 63) && ltb b (2 ^ 63))
or_sign a b = by_test (ltb a (2 ^ 63)) (ltb b (2 ^ 63)) refl refl
  where
    by_test : (s t : Bool) → ltb a (2 ^ 63) ≡ s → ltb b (2 ^ 63) ≡ t → ltb (bit_or a b) (2 ^ 63) ≡ (s && t)
    by_test true true e f = lt-ltb (bit_or a b) (2 ^ 63) (or_lt 63 a b (ltb-true a (2 ^ 63) e) (ltb-true b (2 ^ 63) f))
    by_test true false e f = le-ltb (bit_or a b) (2 ^ 63) (omega (arith, ltb-false b (2 ^ 63) f, or_above b a, or_comm a b))
    by_test false t e f = le-ltb (bit_or a b) (2 ^ 63) (omega (arith, ltb-false a (2 ^ 63) e, or_above a b))

-- ---- and a word is zero where it has no bit
pub no_bit : (x : ℤ) → mag x < 2 ^ 63 → eqb (of_z w64 x) 0 ≡ up_to 0 x
unfolding up_to
no_bit (pos zero) f = refl
no_bit (pos (suc n)) f = eqb-suc-zero n ∙ sym (leb-suc-zero n)
no_bit (negsuc n) f = ne_eqb (2 ^ 64 - suc n) 0 (λ q. omega (arith, f)) ∙ sym (leb-suc-zero n)

pub or_zero : (a b : ℕ) → eqb (bit_or a b) 0 ≡ (eqb a 0 && eqb b 0)
or_zero a b = by_test (eqb a 0) (eqb b 0) refl refl
  where
    by_test : (s t : Bool) → eqb a 0 ≡ s → eqb b 0 ≡ t → eqb (bit_or a b) 0 ≡ (s && t)
    by_test true true e f = rw (eqb-true a 0 e, eqb-true b 0 f)
    by_test true false e f = ne_eqb (bit_or a b) 0 (λ q. eqb-false b 0 f (omega (arith, or_above b a, or_comm a b)))
    by_test false t e f = ne_eqb (bit_or a b) 0 (λ q. eqb-false a 0 e (omega (arith, or_above a b)))
