-- A field's number and its spelling: "a minus stands only before a nonzero peak". Assumes nothing.
use Rattle.std.specs.Prelude.{◌^◌, ◌≤◌, ◌<◌, ◌≡◌, ◌&&◌, ◌||◌, ◌∷◌}
use Rattle.whole.specs.Plain.{ℕ, suc, refl, Bool, true, false, not}
use Rattle.whole.specs.Plain.{List, [], ltb, eqb, ℤ, pos, negsuc, nat_abs, non_neg}
use Rattle.whole.specs.Plain.{length, lt-ltb, arith, Words, every}
use Rattle.whole.specs.Folds.{and_left, and_right, both, every_weaken}
use Rattle.paper.specs.Rows.{Field, signed}
use Rattle.paper.specs.Text.{MINUS, digit, decimal}
use Rattle.laws_spelling.specs.Digits.{spell_nat, spell_decimal, digit_range, spell_length}

unfoldable pub spell : ℤ → List ℕ
spell (pos n) = spell_nat n
spell (negsuc n) = MINUS ∷ spell_nat (suc n)

-- a number that the field may have in the text: any, where it is signed, and else one that is not negative
unfoldable pub speakable : Field → ℤ → Bool
speakable f x = non_neg x || signed f

unfoldable pub all_speakable : List Field → Words → Bool
all_speakable [] [] = true
all_speakable [] (x ∷ w) = false
all_speakable (f ∷ fs) [] = false
all_speakable (f ∷ fs) (x ∷ w) = speakable f x && all_speakable fs w

-- ---- no tab and no LF stands in a number

-- bytes over LF and TAB
abbrev pub plain : List ℕ → Bool
plain s = every (λ b. ltb 10 b) s

digits_plain : (s : List ℕ) → every digit s ≡ true → plain s ≡ true
digits_plain s e = every_weaken digit (λ b. ltb 10 b) s (λ b d. let r = digit_range b d in lt-ltb 10 b (omega arith)) e

decimal_plain : (s : List ℕ) → decimal s ≡ true → plain s ≡ true
unfolding decimal every
decimal_plain [] e = refl
decimal_plain (b ∷ []) e = digits_plain (b ∷ []) (both e refl)
decimal_plain (b ∷ (c ∷ t)) e =
    let p = and_left (digit b && not (eqb b 48)) (every digit (c ∷ t)) e in
    digits_plain (b ∷ (c ∷ t)) (both (and_left (digit b) (not (eqb b 48)) p) (and_right (digit b && not (eqb b 48)) (every digit (c ∷ t)) e))

pub spell_plain : (x : ℤ) → plain (spell x) ≡ true
unfolding spell every
spell_plain (pos n) = decimal_plain (spell_nat n) (spell_decimal n)
spell_plain (negsuc n) = decimal_plain (spell_nat (suc n)) (spell_decimal (suc n))

-- ---- how long a spelling is

pub spell_size : (k : ℕ) (x : ℤ) → nat_abs x < 10 ^ suc k → length (spell x) ≤ suc (suc k)
unfolding spell
spell_size k (pos n) h = omega (arith, spell_length k n h)
spell_size k (negsuc n) h = omega (arith, spell_length k (suc n) h)
