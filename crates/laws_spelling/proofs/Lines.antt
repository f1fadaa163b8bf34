-- A line and the row that it says: "a line's word, fields or spelling". Assumes nothing.
use Rattle.std.specs.Prelude.{◌+◌, ◌≤◌, ◌<◌, ◌≡◌, ◌&&◌, ◌∷◌}
use Rattle.whole.specs.Plain.{ℕ, zero, suc, refl, sym, ap, ◌∙◌, Bool, true, false, cond, not}
use Rattle.whole.specs.Plain.{bool_beq, true≢false, List, [], map, tail, eqb, length, get_or, eqb-true}
use Rattle.whole.specs.Plain.{eqb-false, ne_eqb, not-true, zero-add, arith, every, same_bytes, numbers}
use Rattle.whole.specs.Folds.{length_numbers, and_left, and_right, both, every_at, get_d_numbers}
use Rattle.paper.specs.Rows.{Row, Kind, bytes, kinds, unknown, no_kind, word_of, fields_of, kind, is_study}
use Rattle.paper.specs.Text.{TAB, split, all_spelt, place_of, line_kind, formed, row_of}
use Rattle.laws_spelling.specs.Numbers.{spell}
use Rattle.laws_spelling.proofs.Numbers.{all_spoken, all_spelt_lem, numbers_spelt}
use Rattle.paper.proofs.Kept.{either}
use Rattle.laws_spelling.specs.Pieces.{join, split_some, join_split}
use Rattle.laws_spelling.specs.Lines.{Sayable, spell_line, line_pieces}

-- each word is found in its own place
word_places : every (λ k. eqb (place_of 0 kinds (word_of k)) k) (numbers 0 no_kind) ≡ true
unfolding word_of kinds bytes place_of same_bytes every numbers
word_places = refl

word_place : (k : ℕ) → k < no_kind → place_of 0 kinds (word_of k) ≡ k
unfolding numbers
word_place k h = eqb-true _ k (rw (get_d_numbers 0 no_kind k 0 h, zero-add) at (every_at (λ k. eqb (place_of 0 kinds (word_of k)) k) (numbers 0 no_kind) 0 k word_places (rw (length_numbers 0 no_kind) h)))

same_bytes_lem : (l m : List ℕ) → same_bytes l m ≡ true → l ≡ m
unfolding same_bytes
same_bytes_lem [] [] e = refl
same_bytes_lem [] (y ∷ m) e = absurd (true≢false (sym e))
same_bytes_lem (x ∷ l) [] e = absurd (true≢false (sym e))
same_bytes_lem (x ∷ l) (y ∷ m) e = rw (eqb-true x y (and_left (eqb x y) (same_bytes l m) e), same_bytes_lem l m (and_right (eqb x y) (same_bytes l m) e))

place_least : (n : ℕ) (ks : List Kind) (w : List ℕ) → n + length ks ≤ no_kind → n ≤ place_of n ks w
unfolding place_of
place_least n [] w h = omega arith
place_least n (k ∷ ks) w h = either (λ (p : ℕ). n ≤ p) (same_bytes k.spelt w) _ _ (omega arith) (omega (arith, place_least (suc n) ks w (omega arith)))

-- what is found in place i is the word that stands there
place_word : (n : ℕ) (ks : List Kind) (w : List ℕ) (i : ℕ) → n + length ks ≤ no_kind → i < length ks → place_of n ks w ≡ n + i → (get_or ks i unknown).spelt ≡ w
unfolding place_of
place_word n [] w i h k e = absurd (omega arith)
place_word n (x ∷ ks) w zero h k e =
    elim (same_bytes x.spelt w) as (λ b. same_bytes x.spelt w ≡ b → cond b n (place_of (suc n) ks w) ≡ n + 0 → x.spelt ≡ w)
    [ true ↦ λ s q. same_bytes_lem x.spelt w s | false ↦ λ s q. absurd (omega (arith, place_least (suc n) ks w (omega arith))) ] refl e
place_word n (x ∷ ks) w (suc i) h k e =
    elim (same_bytes x.spelt w) as (λ b. cond b n (place_of (suc n) ks w) ≡ n + suc i → (get_or ks i unknown).spelt ≡ w)
    [ true ↦ λ q. absurd (omega arith) | false ↦ λ q. place_word (suc n) ks w i (omega arith) (omega arith) (omega arith) ] e

place_most : (n : ℕ) (ks : List Kind) (w : List ℕ) → n + length ks ≤ no_kind → place_of n ks w ≤ no_kind
unfolding place_of
place_most n [] w h = omega arith
place_most n (k ∷ ks) w h = either (λ (p : ℕ). p ≤ no_kind) (same_bytes k.spelt w) _ _ (omega arith) (place_most (suc n) ks w (omega arith))

-- ---- from the row to the line

line_kind_lem : (r : Row) → Sayable r → line_kind (spell_line r) ≡ kind r
unfolding line_kind
line_kind_lem r s = ap (λ (ps : List (List ℕ)). place_of 0 kinds (get_or ps 0 [])) (line_pieces r) ∙ word_place (kind r) s.known

line_numbers : (r : Row) → tail (split TAB (spell_line r)) ≡ map spell (tail r)
line_numbers r = ap tail (line_pieces r)

-- the line says the row
pub line_row : (r : Row) → Sayable r → row_of (spell_line r) ≡ r
unfolding row_of
line_row r s = rw (line_kind_lem r s, line_numbers r, numbers_spelt (tail r)) (sym s.whole)

pub line_formed : (f : Bool) (r : Row) → Sayable r → bool_beq f (is_study r) ≡ true → formed f (spell_line r) ≡ true
unfolding formed
line_formed f r s e =
    rw (line_kind_lem r s, line_numbers r)
    (both (both (ap not (ne_eqb (kind r) no_kind (λ q. omega (arith, s.known)))) e) (all_spelt_lem (fields_of (kind r)) (tail r) s.numbers))

-- ---- from the line to the row

pub record Said (f : Bool) (line : List ℕ) : Type 0 where
  pub row : Sayable (row_of line)
  pub first : bool_beq f (is_study (row_of line)) ≡ true
  pub is : line ≡ spell_line (row_of line)

some_pieces : (ps : List (List ℕ)) → 0 < length ps → ps ≡ get_or ps 0 [] ∷ tail ps
some_pieces [] h = absurd (omega arith)
some_pieces (p ∷ ps) h = refl

pub formed_said : (f : Bool) (line : List ℕ) → formed f line ≡ true → Said f line
unfolding formed row_of line_kind spell_line word_of
formed_said f line e =
    let w = get_or (split TAB line) 0 [] in
    let ps = tail (split TAB line) in
    let k = place_of 0 kinds w in
    let p = and_left (not (eqb k no_kind) && bool_beq f (eqb k 0)) (all_spelt (fields_of k) ps) e in
    let u = eqb-false k no_kind (not-true (eqb k no_kind) (and_left (not (eqb k no_kind)) (bool_beq f (eqb k 0)) p)) in
    let known : k < no_kind = omega (arith, place_most 0 kinds w (omega arith)) in
    let spoken = all_spoken (fields_of k) ps (and_right (not (eqb k no_kind) && bool_beq f (eqb k 0)) (all_spelt (fields_of k) ps) e) in
    let word : (get_or kinds k unknown).spelt ≡ w = place_word 0 kinds w k (omega arith) (omega arith) (omega arith) in
    record {
      row = record { whole = refl; known = known; numbers = spoken.may };
      first = and_right (not (eqb k no_kind)) (bool_beq f (eqb k 0)) p;
      is = sym (join_split TAB line) ∙ ap (join TAB) (some_pieces (split TAB line) (split_some TAB line) ∙ rw (word, spoken.is));
    }
