-- A field's number and its spelling: "a minus stands only before a nonzero peak". Assumes nothing.
use Rattle.std.specs.Prelude.{◌^◌, ◌≤◌, ◌<◌, ◌≡◌, ◌&&◌, ◌||◌, ◌∷◌}
use Rattle.whole.specs.Plain.{ℕ, zero, suc, refl, sym, ap, ◌∙◌, true, false, not}
use Rattle.whole.specs.Plain.{or-true, true≢false, List, [], map, eqb, ℤ, pos, negsuc, neg_ℤ, nat_abs, non_neg}
use Rattle.whole.specs.Plain.{get_or, eqb-true, ne_eqb, dec_lt, arith, Words, every}
use Rattle.whole.specs.Folds.{and_left, and_right, both}
use Rattle.paper.specs.Rows.{Field, signed}
use Rattle.paper.specs.Text.{MINUS, digit, decimal, decimal_of, negative, spelt, all_spelt, number_of, numbers_of}
use Rattle.paper.specs.Listing.{shown}
use Rattle.laws_spelling.specs.Digits.{spell_nat, spell_digit, spell_value, spell_decimal, decimal_spell, digit_range, Leading, spell_leading, leading_decimal, shown_nat_lem}
use Rattle.laws_spelling.specs.Numbers.{spell, speakable, all_speakable}

-- ---- from the number

no_minus : (b : ℕ) → digit b ≡ true → eqb b MINUS ≡ false
no_minus b e = let r = digit_range b e in ne_eqb b MINUS (λ q. omega arith)

decimal_number : (s : List ℕ) → decimal s ≡ true → number_of s ≡ pos (decimal_of s)
unfolding number_of decimal
decimal_number [] e = absurd (true≢false (sym e))
decimal_number (b ∷ []) e = rw (no_minus b e)
decimal_number (b ∷ (c ∷ t)) e =
    rw (no_minus b (and_left (digit b) (not (eqb b 48)) (and_left (digit b && not (eqb b 48)) (every digit (c ∷ t)) e)))

minus_number : (t : List ℕ) → number_of (MINUS ∷ t) ≡ neg_ℤ (pos (decimal_of t))
unfolding number_of
minus_number t = refl

pub spell_number : (x : ℤ) → number_of (spell x) ≡ x
unfolding spell
spell_number (pos n) = decimal_number (spell_nat n) (spell_decimal n) ∙ ap pos (spell_value n)
spell_number (negsuc n) = minus_number (spell_nat (suc n)) ∙ ap (λ (k : ℕ). neg_ℤ (pos k)) (spell_value (suc n))

-- a minus before a number over 0
minus_leading : (t : List ℕ) → Leading t → negative (MINUS ∷ t) ≡ true
unfolding negative
minus_leading t l = rw (leading_decimal t l) (ap (λ (s : List ℕ). not (eqb (get_or s 0 48) 48)) l.is ∙ ap not l.nonzero)

pub spell_spelt : (f : Field) (x : ℤ) → speakable f x ≡ true → spelt f (spell x) ≡ true
unfolding spelt spell speakable
spell_spelt f (pos n) e = rw (spell_decimal n)
spell_spelt f (negsuc n) e = rw (e, minus_leading (spell_nat (suc n)) (spell_leading (suc n) (omega arith)), or-true)

-- ---- from the spelling

record Spoken (f : Field) (s : List ℕ) : Type 0 where
  may : speakable f (number_of s) ≡ true
  is : spell (number_of s) ≡ s

decimal_spoken : (f : Field) (s : List ℕ) → decimal s ≡ true → Spoken f s
unfolding speakable spell
decimal_spoken f s e = record {
  may = ap (λ (x : ℤ). non_neg x || signed f) (decimal_number s e);
  is = ap spell (decimal_number s e) ∙ decimal_spell s e;
}

-- a number over 0, taken with a minus
minus_spell : (n : ℕ) → 1 ≤ n → spell (neg_ℤ (pos n)) ≡ MINUS ∷ spell_nat n
unfolding spell
minus_spell zero h = absurd (omega arith)
minus_spell (suc n) h = refl

over_zero : (t : List ℕ) → decimal t ≡ true → not (eqb (get_or t 0 48) 48) ≡ true → 1 ≤ decimal_of t
over_zero t e f =
    let zero-spell : decimal_of t ≡ 0 → t ≡ 48 ∷ [] = λ q. sym (decimal_spell t e) ∙ ap spell_nat q ∙ spell_digit 0 (omega arith) in
    elim (dec_lt 0 (decimal_of t)) [ yes h ↦ h | no h ↦ absurd (true≢false (sym f ∙ ap (λ (s : List ℕ). not (eqb (get_or s 0 48) 48)) (zero-spell (omega arith)))) ]

negative_spoken : (f : Field) (s : List ℕ) → signed f ≡ true → negative s ≡ true → Spoken f s
unfolding negative speakable
negative_spoken f [] g e = absurd (true≢false (sym e))
negative_spoken f (b ∷ t) g e =
    let p = and_left (eqb b MINUS && decimal t) (not (eqb (get_or t 0 48) 48)) e in
    let m : b ≡ MINUS = eqb-true b MINUS (and_left (eqb b MINUS) (decimal t) p) in
    let d : decimal t ≡ true = and_right (eqb b MINUS) (decimal t) p in
    let o = over_zero t d (and_right (eqb b MINUS && decimal t) (not (eqb (get_or t 0 48) 48)) e) in
    rw m (record { may = rw (g, or-true); is = ap spell (minus_number t) ∙ minus_spell (decimal_of t) o ∙ ap (λ (s : List ℕ). MINUS ∷ s) (decimal_spell t d) })

spelt_spoken : (f : Field) (s : List ℕ) → spelt f s ≡ true → Spoken f s
unfolding spelt
spelt_spoken f s e =
    elim (decimal s) as (λ b. decimal s ≡ b → b || (signed f && negative s) ≡ true → Spoken f s)
    [ true ↦ λ d e. decimal_spoken f s d | false ↦ λ d e. negative_spoken f s (and_left (signed f) (negative s) e) (and_right (signed f) (negative s) e) ] refl e

-- ---- a line's numbers

pub record AllSpoken (fs : List Field) (ss : List (List ℕ)) : Type 0 where
  pub may : all_speakable fs (numbers_of ss) ≡ true
  pub is : map spell (numbers_of ss) ≡ ss

pub all_spoken : (fs : List Field) (ss : List (List ℕ)) → all_spelt fs ss ≡ true → AllSpoken fs ss
unfolding all_spelt all_speakable numbers_of
all_spoken [] [] e = record { may = refl; is = refl }
all_spoken [] (s ∷ ss) e = absurd (true≢false (sym e))
all_spoken (f ∷ fs) [] e = absurd (true≢false (sym e))
all_spoken (f ∷ fs) (s ∷ ss) e =
    let a = spelt_spoken f s (and_left (spelt f s) (all_spelt fs ss) e) in
    let b = all_spoken fs ss (and_right (spelt f s) (all_spelt fs ss) e) in
    record { may = both a.may b.may; is = rw (a.is, b.is) }

pub all_spelt_lem : (fs : List Field) (w : Words) → all_speakable fs w ≡ true → all_spelt fs (map spell w) ≡ true
unfolding all_spelt all_speakable
all_spelt_lem [] [] e = refl
all_spelt_lem [] (x ∷ w) e = absurd (true≢false (sym e))
all_spelt_lem (f ∷ fs) [] e = absurd (true≢false (sym e))
all_spelt_lem (f ∷ fs) (x ∷ w) e =
    both (spell_spelt f x (and_left (speakable f x) (all_speakable fs w) e)) (all_spelt_lem fs w (and_right (speakable f x) (all_speakable fs w) e))

pub numbers_spelt : (w : Words) → numbers_of (map spell w) ≡ w
unfolding numbers_of
numbers_spelt [] = refl
numbers_spelt (x ∷ w) = rw (spell_number x, numbers_spelt w)

-- ---- a listing's numbers are spelt alike

pub shown_spelt : (x : ℤ) → nat_abs x < 10 ^ 20 → shown x ≡ spell x
unfolding shown spell
shown_spelt (pos n) h = shown_nat_lem n h
shown_spelt (negsuc n) h = ap (λ (s : List ℕ). MINUS ∷ s) (shown_nat_lem (suc n) h)
