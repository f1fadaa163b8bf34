-- A line and the row that it says: "a line's word, fields or spelling". Assumes nothing.
use Rattle.std.specs.Prelude.{◌≤◌, ◌<◌, ◌≡◌, ◌∷◌}
use Rattle.whole.specs.Plain.{ℕ, zero, suc, refl, ap, Bool, true, not}
use Rattle.whole.specs.Plain.{List, [], map, tail, eqb, ltb, pos, get_or}
use Rattle.whole.specs.Plain.{ne_eqb, ltb-true, arith, Words, every}
use Rattle.whole.specs.Folds.{and_left, and_right, both, every_weaken}
use Rattle.paper.specs.Rows.{Row, Kind, bytes, kinds, unknown, no_kind, word_of, fields_of, kind}
use Rattle.paper.specs.Text.{TAB, LF, split}
use Rattle.laws_spelling.specs.Numbers.{spell, all_speakable, plain, spell_plain}
use Rattle.laws_spelling.specs.Pieces.{join, free, split_join, join_free}

-- ---- the word of a kind

-- what every kind passes, and what stands for none
pub of_kind : (p : Kind → Bool) (l : List Kind) (k : ℕ) → every p l ≡ true → p unknown ≡ true → p (get_or l k unknown) ≡ true
unfolding every
of_kind p [] k e f = f
of_kind p (a ∷ l) zero e f = and_left (p a) (every p l) e
of_kind p (a ∷ l) (suc k) e f = of_kind p l k (and_right (p a) (every p l) e) f

pub word_plain : (k : ℕ) → plain (word_of k) ≡ true
unfolding word_of kinds bytes every
word_plain k = of_kind (λ (x : Kind). plain x.spelt) kinds k refl refl

-- ---- a row that a line can say

pub record Sayable (r : Row) : Type 0 where
  pub whole : r ≡ pos (kind r) ∷ tail r
  pub known : kind r < no_kind
  pub numbers : all_speakable (fields_of (kind r)) (tail r) ≡ true

unfoldable pub spell_line : Row → List ℕ
spell_line r = join TAB (word_of (kind r) ∷ map spell (tail r))

free_of : (at : ℕ) → at ≤ 10 → (s : List ℕ) → plain s ≡ true → free at s ≡ true
free_of at h s e = every_weaken (λ b. ltb 10 b) (λ b. not (eqb b at)) s (λ b l. let k = ltb-true 10 b l in ap not (ne_eqb b at (λ q. omega arith))) e

numbers_free : (at : ℕ) → at ≤ 10 → (w : Words) → every (free at) (map spell w) ≡ true
unfolding every
numbers_free at h [] = refl
numbers_free at h (x ∷ w) = both (free_of at h (spell x) (spell_plain x)) (numbers_free at h w)

pieces_free : (at : ℕ) → at ≤ 10 → (k : ℕ) (w : Words) → every (free at) (word_of k ∷ map spell w) ≡ true
unfolding every
pieces_free at h k w = both (free_of at h (word_of k) (word_plain k)) (numbers_free at h w)

pub line_pieces : (r : Row) → split TAB (spell_line r) ≡ word_of (kind r) ∷ map spell (tail r)
unfolding spell_line
line_pieces r = split_join TAB (word_of (kind r) ∷ map spell (tail r)) (omega arith) (pieces_free TAB (omega arith) (kind r) (tail r))

-- no LF stands in it
pub line_free : (r : Row) → free LF (spell_line r) ≡ true
unfolding spell_line
line_free r = join_free TAB LF (word_of (kind r) ∷ map spell (tail r)) (λ q. omega arith) (pieces_free LF (omega arith) (kind r) (tail r))
