-- A small number as a signed word, and its negation. Assumes nothing.
use Rattle.std.specs.Prelude.{◌-◌, ◌≤◌, ◌≡◌, ◌∷◌, ◌-ℤ◌, ◌&&◌}
use Rattle.whole.specs.Plain.{ℕ, Bool, ◌∙◌, sym, ap, true, false, List, [], eqb, eqb-true, ne_eqb, ℕ_discrete, ℤ, pos, neg_ℤ, +ℤ_idl, get_or, length, take, drop, take-length, refl}
use Rattle.whole.specs.Plain.{arith}
use Rattle.std.specs.Int.{w64}
use Rattle.std.specs.List.{starts_with}
use Rattle.std.proofs.Common.{SFits, to_z, of_z, to_z-of_z}
use Rattle.whole.specs.Reads.{read_small}
use Rattle.whole.specs.Int.{fits64, abs_neg}
use Rattle.text_words.specs.Numbers.{held_end, plain_of, as_negative, read_number, with_minus}

pub small : (n : ℕ) → n ≤ held_end → to_z w64 n ≡ pos n
small n h = read_small n (omega arith)

pub small_fits : (n : ℕ) → n ≤ held_end → SFits w64 (pos n)
small_fits n h = fits64 (pos n) (omega arith)

negated : (n : ℕ) → n ≤ held_end → pos 0 -ℤ to_z w64 n ≡ neg_ℤ (pos n)
negated n h = ap (λ (x : ℤ). pos 0 -ℤ x) (small n h) ∙ +ℤ_idl (neg_ℤ (pos n))

pub negated_fits : (n : ℕ) → n ≤ held_end → SFits w64 (pos 0 -ℤ to_z w64 n)
negated_fits n h = rw (negated n h) (fits64 (neg_ℤ (pos n)) (rw (abs_neg (pos n)) (omega arith)))

pub negated_is : (n : ℕ) → n ≤ held_end → to_z w64 (of_z w64 (pos 0 -ℤ to_z w64 n)) ≡ neg_ℤ (pos n)
negated_is n h = to_z-of_z (negated_fits n h) ∙ negated n h

-- the first byte of a field by `starts_with`
pub starts_minus : (s : List ℕ) → starts_with eqb s (45 ∷ []) ≡ eqb (get_or s 0 0) 45
starts_minus [] = refl
starts_minus (b ∷ s) = elim (ℕ_discrete b 45) [ yes q ↦ rw q | no n ↦ rw (ne_eqb b 45 n, ne_eqb 45 b (λ (e : 45 ≡ b). n (sym e))) ]

-- a field that begins with a minus
pub minus_read : (signed : Bool) (s : List ℕ) → (signed && eqb (get_or s 0 0) 45) ≡ true → as_negative (plain_of false (take (length s - 1) (drop 1 s))) ≡ read_number signed s
minus_read true [] e = let c : ◌≡◌ {A = ℕ} 0 1 = cc in absurd (omega arith)
minus_read true (b ∷ t) e = let k : length (b ∷ t) - 1 ≡ length t = omega arith in let q : b ≡ 45 = eqb-true b 45 e in rw (q, k, take-length t) (with_minus t)
minus_read false s e = let c : ◌≡◌ {A = ℕ} 0 1 = cc in absurd (omega arith)
