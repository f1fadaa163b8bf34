-- A line that is well formed, and the row that is read of it. Assumes nothing.
use Rattle.std.specs.Prelude.{◌-◌, ◌≤◌, ◌<◌, ◌≡◌, ◌∷◌, ◌++◌}
use Rattle.whole.specs.Plain.{ℕ, zero, suc, refl, sym, ◌∙◌, ap, subst, Bool, true, false, not}
use Rattle.whole.specs.Plain.{bool_beq, false≢true, List, [], tail, map, eqb, pos, get_or, length, length-map}
use Rattle.whole.specs.Plain.{replicate, get_or-eq_default, take_at, eqb-false, not-true, arith, Words, z, word}
use Rattle.whole.specs.Plain.{empty, filled}
use Rattle.whole.specs.Folds.{and_left, and_right, map_append}
use Rattle.whole.specs.Filled.{length_filled, get_d_filled}
use Rattle.paper.specs.Rows.{Row, Field, kind, fields_of, no_kind, is_study}
use Rattle.paper.specs.Classes.{kind_count}
use Rattle.paper.specs.Faults.{line_fault, row_fault}
use Rattle.paper.specs.Text.{TAB, split, all_spelt, spelt, number_of, numbers_of, line_kind, row_of}
use Rattle.paper.specs.Network.{Table, row_of_words}
use Rattle.text_kinds.specs.Fields.{fields_few}
use Rattle.text_faults.specs.declared.Seen.{Seen}
use Rattle.text_faults.specs.Seen.{seen_fault, seen_after}
use Rattle.text_faults.specs.Stands.{Stands, fault_is, row_line_fault}
use Rattle.text_faults.specs.After.{stands_after}
use Rattle.text_words.specs.Numbers.{cap_z}
use Rattle.text_line.specs.Lines.{capped, kinds_most}
use Rattle.text_study.specs.Held.{held_row, held_kind, held_length, held_fault, held_same, cap_z_zero}
use Rattle.text_study.specs.Texts.{spelled}

-- ---- lists

map_zeros : (n : ℕ) → map cap_z (replicate n z) ≡ replicate n z
map_zeros zero = refl
map_zeros (suc n) = rw cap_z_zero (ap (λ (r : Words). z ∷ r) (map_zeros n))

capped_map : (ps : List (List ℕ)) → capped ps ≡ map cap_z (numbers_of ps)
unfolding capped numbers_of
capped_map [] = refl
capped_map (p ∷ ps) = ap (λ (r : Words). cap_z (number_of p) ∷ r) (capped_map ps)

numbers_length : (fs : List Field) (ps : List (List ℕ)) → all_spelt fs ps ≡ true → length (numbers_of ps) ≡ length fs
unfolding all_spelt numbers_of
numbers_length [] [] e = refl
numbers_length [] (p ∷ ps) e = absurd (false≢true e)
numbers_length (f ∷ fs) [] e = absurd (false≢true e)
numbers_length (f ∷ fs) (p ∷ ps) e = ap suc (numbers_length fs ps (and_right (spelt f p) (all_spelt fs ps) e))

-- ---- a line that is well formed

line_most : (line : List ℕ) → line_kind line ≤ 10
unfolding line_kind
line_most line = kinds_most (get_or (split TAB line) 0 [])

pub beq_eq : (a b : Bool) → bool_beq a b ≡ true → a ≡ b
beq_eq true true e = refl
beq_eq true false e = sym e
beq_eq false true e = e
beq_eq false false e = refl

module _ (line : List ℕ) (ok : spelled line ≡ true) where
  -- its row's eight words
  abbrev true_words : Words
  true_words = filled 8 z (row_of line)

  pub known : line_kind line < 10
  known =
      let n : eqb (line_kind line) no_kind ≡ false = not-true _ (and_left (not (eqb (line_kind line) no_kind)) (all_spelt (fields_of (line_kind line)) (tail (split TAB line))) ok) in
      let m : line_kind line ≡ no_kind → ⊥ = eqb-false (line_kind line) no_kind n in
      omega (arith, line_most line, kind_count)

  some : length (numbers_of (tail (split TAB line))) ≡ length (fields_of (line_kind line))
  some = numbers_length (fields_of (line_kind line)) (tail (split TAB line)) (and_right (not (eqb (line_kind line) no_kind)) (all_spelt (fields_of (line_kind line)) (tail (split TAB line))) ok)

  pub row_length : length (row_of line) ≡ suc (length (fields_of (line_kind line)))
  unfolding row_of
  row_length = ap suc some

  pub row_short : length (row_of line) ≤ 8
  row_short = omega (arith, row_length, fields_few (line_kind line) known)

  true_kind : kind true_words ≡ line_kind line
  unfolding filled row_of
  true_kind = refl

  true_length : length true_words ≡ 8
  true_length = length_filled 8 z (row_of line) row_short

  none : (j : ℕ) → length (fields_of (kind true_words)) ≤ j → word true_words (suc j) ≡ z
  none j h = get_d_filled 8 z (row_of line) (suc j) ∙ get_or-eq_default (row_of line) z (omega (arith, row_length, ap (λ (k : ℕ). length (fields_of k)) true_kind))

  row_back : row_of_words true_words ≡ row_of line
  unfolding row_of_words filled
  row_back = take_at (row_of line) (replicate (8 - length (row_of line)) z) (suc (length (fields_of (kind true_words)))) (row_length ∙ ap (λ (k : ℕ). suc (length (fields_of k))) (sym true_kind))

  -- what the reader holds of it
  pub held_words : held_row true_words ≡ filled 8 z (pos (line_kind line) ∷ capped (tail (split TAB line)))
  unfolding held_row filled row_of
  held_words =
      let ps = tail (split TAB line) in
      let x = pos (line_kind line) in
      let m = 8 - suc (length (numbers_of ps)) in
      let e : m ≡ 8 - suc (length (capped ps)) = rw (capped_map ps, length-map) in
      ap (λ (l : Words). x ∷ l) (map_append cap_z (numbers_of ps) (replicate m z) ∙ ap (λ (l : Words). map cap_z (numbers_of ps) ++ l) (map_zeros m))
      ∙ ap (λ (l : Words). x ∷ (l ++ replicate m z)) (sym (capped_map ps))
      ∙ ap (λ (j : ℕ). x ∷ (capped ps ++ replicate j z)) e

  few_true : 6 ≤ length true_words
  few_true = omega (arith, true_length)

  known_true : kind true_words < 10
  known_true = rw true_kind known

  pub few_held : 6 ≤ length (held_row true_words)
  few_held = omega (arith, held_length true_words, true_length)

  pub kind_held : kind (held_row true_words) ≡ line_kind line
  kind_held = held_kind true_words ∙ true_kind

  pub known_held : kind (held_row true_words) < 10
  known_held = rw kind_held known

  chain : (head : Row) (before : List Row) → line_fault head before (row_of_words (held_row true_words)) ≡ line_fault head before (row_of line)
  chain head before =
      row_line_fault (held_row true_words) few_held known_held head before
      ∙ held_fault true_words few_true known_true none head before
      ∙ sym (row_line_fault true_words few_true known_true head before)
      ∙ ap (line_fault head before) row_back

  module _ (s : Seen) (t : Table) (h : Stands s t) (place : bool_beq (empty t) (eqb (line_kind line) 0) ≡ true) where
    first : empty t ≡ is_study (held_row true_words)
    first = beq_eq (empty t) (eqb (line_kind line) 0) place ∙ ap (λ (k : ℕ). eqb k 0) (sym kind_held)

    -- the fault that is found is the line's
    pub found : seen_fault s (held_row true_words) ≡ row_fault t (row_of line)
    unfolding row_fault
    found = fault_is s (held_row true_words) few_held known_held t h first ∙ chain (get_or t 0 []) (tail t)

    module _ (right : seen_fault s (held_row true_words) ≡ 0) where
      -- and without one the row is read as it is
      pub as_it_is : held_row true_words ≡ true_words
      unfolding row_fault
      as_it_is =
          held_same true_words few_true known_true none (get_or t 0 []) (tail t)
          (sym (row_line_fault true_words few_true known_true (get_or t 0 []) (tail t)) ∙ ap (line_fault (get_or t 0 []) (tail t)) row_back ∙ sym found ∙ right)

      pub still_stands : Stands (seen_after s (held_row true_words)) (t ++ (row_of line ∷ []))
      still_stands =
          subst (λ (r : Row). Stands (seen_after s (held_row true_words)) (t ++ (r ∷ []))) (ap row_of_words as_it_is ∙ row_back)
          (stands_after s (held_row true_words) few_held known_held t h first right)
