-- The rows of a network record are lines that a text can say, in few bytes. Assumes nothing.
use Rattle.std.specs.Prelude.{◌≤◌, ◌<◌, ◌≡◌, ◌&&◌, ◌||◌, ◌∷◌}
use Rattle.whole.specs.Plain.{ℕ, suc, refl, sym, ap, ◌∙◌, Bool, true, false, or-true, true≢false}
use Rattle.whole.specs.Plain.{List, [], map, tail, leb, ltb, ℤ, pos, negsuc, nat_abs, le_z, lt_z, non_neg, length}
use Rattle.whole.specs.Plain.{get_or, length-map, leb-true, le-leb, lt-ltb, arith, Words, z, word, between, every}
use Rattle.whole.specs.Folds.{and_left, and_right, both, every_at, every_map, every_weaken}
use Rattle.paper.specs.Limits as Limits
use Rattle.paper.specs.Rows.{unknown, Row, Field, Kind, bytes, kinds, no_kind, word_of, fields_of, kind, signed}
use Rattle.paper.specs.Text.{TAB}
use Rattle.laws_facts.specs.Fields.{no_field, InRange, in_range_lem, tail_word}
use Rattle.laws_facts.specs.Sound.{kind_is_lem}
use Rattle.laws_facts.specs.Passing.{Taken}
use Rattle.laws_facts.specs.Layout.{arity_most}
use Rattle.laws_spelling.specs.Numbers.{spell, speakable, all_speakable, spell_size}
use Rattle.laws_spelling.specs.Pieces.{join, join_first}
use Rattle.laws_spelling.specs.Lines.{of_kind, Sayable, spell_line}

-- ---- a number in its field's range can be said

low_sign : (low x : ℤ) → lt_z low z ≡ false → le_z low x ≡ true → non_neg x ≡ true
low_sign low (pos n) e h = refl
low_sign (pos a) (negsuc n) e h = absurd (true≢false (sym h))
low_sign (negsuc a) (negsuc n) e h = absurd (true≢false e)

speak_one : (f : Field) (x : ℤ) → between f.low f.high x ≡ true → speakable f x ≡ true
unfolding speakable between
speak_one f x e =
    elim (signed f) as (λ b. signed f ≡ b → non_neg x || b ≡ true)
    [ true ↦ λ q. or-true (non_neg x) | false ↦ λ q. rw (low_sign f.low x q (and_left (le_z f.low x) (le_z x f.high) e)) ] refl

abbrev InFields : List Field → Words → Type 0
InFields fs w = (i : ℕ) → i < length fs → between (get_or fs i no_field).low (get_or fs i no_field).high (word w i) ≡ true

speak_all : (fs : List Field) (w : Words) → length w ≡ length fs → InFields fs w → all_speakable fs w ≡ true
unfolding all_speakable
speak_all [] [] e h = refl
speak_all [] (x ∷ w) e h = absurd (omega arith)
speak_all (f ∷ fs) [] e h = absurd (omega arith)
speak_all (f ∷ fs) (x ∷ w) e h = both (speak_one f x (h 0 (omega arith))) (speak_all fs w (omega arith) (λ i k. h (suc i) (omega arith)))

-- ---- a row without faults can be said, where it has no word too many

arity_some : (k : ℕ) → k < no_kind → 1 ≤ length (fields_of k)
unfolding fields_of kinds every
arity_some k h = leb-true 1 _ (every_at (λ (x : Kind). leb 1 (length x.fields)) kinds unknown k refl h)

words_of : (r : Row) → word r 0 ≡ pos (kind r) → 1 ≤ length (tail r) → r ≡ pos (kind r) ∷ tail r
words_of [] e h = absurd (omega arith)
words_of (x ∷ r) e h = ap (λ (y : ℤ). y ∷ r) e

tail_most : (r : Row) (n : ℕ) → length r ≤ suc n → length (tail r) ≤ n
tail_most [] n h = omega arith
tail_most (x ∷ r) n h = omega arith

module _ (first : Bool) (head : Row) (before : List Row) (r : Row) (t : Taken first head before r) (few : length r ≤ suc (length (fields_of (kind r)))) where
  range : InRange r
  range = in_range_lem head r t.clean.node t.clean.value

  long : length (tail r) ≡ length (fields_of (kind r))
  long = omega (arith, range.there, tail_most r (length (fields_of (kind r))) few)

  held : InFields (fields_of (kind r)) (tail r)
  held i h = rw tail_word (range.holds i h)

  pub sayable : Sayable r
  sayable = record {
    whole = words_of r (kind_is_lem r t.known) (omega (arith, range.there, arity_some (kind r) t.known));
    known = t.known;
    numbers = speak_all (fields_of (kind r)) (tail r) long held;
  }

-- ---- how long its line is

-- no field's ends are past 2·10^15
abbrev small : Field → Bool
small f = leb (nat_abs f.low) Limits.injection_end && leb (nat_abs f.high) Limits.injection_end

fields_small : (k : ℕ) → every small (fields_of k) ≡ true
unfolding fields_of kinds every
fields_small k = of_kind (λ (x : Kind). every small x.fields) kinds k refl refl

ends_size : (low high x : ℤ) (m : ℕ) → nat_abs low ≤ m → nat_abs high ≤ m → le_z low x ≡ true → le_z x high ≡ true → nat_abs x ≤ m
ends_size low (pos b) (pos n) m h k e f = let l = leb-true n b f in omega arith
ends_size low (negsuc b) (pos n) m h k e f = absurd (true≢false (sym f))
ends_size (pos a) high (negsuc n) m h k e f = absurd (true≢false (sym e))
ends_size (negsuc a) high (negsuc n) m h k e f = let l = leb-true n a e in omega arith

-- a word that no field's end is below
abbrev pub small_word : ℤ → Bool
small_word x = leb (nat_abs x) Limits.injection_end

abbrev pub small_row : Row → Bool
small_row r = every small_word (tail r)

number_small : (f : Field) (x : ℤ) → small f ≡ true → between f.low f.high x ≡ true → small_word x ≡ true
unfolding between
number_small f x s e =
    let a = leb-true (nat_abs f.low) Limits.injection_end (and_left (leb (nat_abs f.low) Limits.injection_end) (leb (nat_abs f.high) Limits.injection_end) s) in
    let b = leb-true (nat_abs f.high) Limits.injection_end (and_right (leb (nat_abs f.low) Limits.injection_end) (leb (nat_abs f.high) Limits.injection_end) s) in
    le-leb (nat_abs x) Limits.injection_end
    (ends_size f.low f.high x Limits.injection_end a b (and_left (le_z f.low x) (le_z x f.high) e) (and_right (le_z f.low x) (le_z x f.high) e))

numbers_small : (fs : List Field) (w : Words) → length w ≡ length fs → every small fs ≡ true → InFields fs w → every small_word w ≡ true
unfolding every
numbers_small fs [] e s h = refl
numbers_small [] (x ∷ w) e s h = absurd (omega arith)
numbers_small (f ∷ fs) (x ∷ w) e s h =
    both (number_small f x (and_left (small f) (every small fs) s) (h 0 (omega arith)))
    (numbers_small fs w (omega arith) (and_right (small f) (every small fs) s) (λ i k. h (suc i) (omega arith)))

-- a sign and 16 digits at most
number_short : (x : ℤ) → small_word x ≡ true → ltb (length (spell x)) 18 ≡ true
number_short x e =
    let h = leb-true (nat_abs x) Limits.injection_end e in
    let l = spell_size 15 x (omega arith) in
    lt-ltb (length (spell x)) 18 (omega arith)

word_short : (k : ℕ) → length (word_of k) ≤ 5
unfolding word_of kinds bytes every
word_short k = leb-true (length (word_of k)) 5 (of_kind (λ (x : Kind). leb (length x.spelt) 5) kinds k refl refl)

module _ (first : Bool) (head : Row) (before : List Row) (r : Row) (t : Taken first head before r) (few : length r ≤ suc (length (fields_of (kind r)))) where
  pub row_small : small_row r ≡ true
  row_small = numbers_small (fields_of (kind r)) (tail r) (long first head before r t few) (fields_small (kind r)) (held first head before r t few)

  -- a word of 5 bytes and 5 fields of 18 with their tabs
  pub line_short : ltb (length (spell_line r)) 96 ≡ true
  unfolding spell_line
  line_short =
      let p : every (λ s. ltb (length s) 18) (map spell (tail r)) ≡ true = every_map (λ s. ltb (length s) 18) spell (tail r) ∙ every_weaken small_word (λ x. ltb (length (spell x)) 18) (tail r) number_short row_small in
      let l = join_first TAB 18 (word_of (kind r)) (map spell (tail r)) p in
      let n : length (map spell (tail r)) ≡ length (fields_of (kind r)) = length-map (tail r) spell ∙ long first head before r t few in
      lt-ltb (length (join TAB (word_of (kind r) ∷ map spell (tail r)))) 96 (omega (arith, word_short (kind r), arity_most (kind r)))
