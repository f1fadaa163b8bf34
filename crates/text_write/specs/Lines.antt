-- The lines of a network record, from the record's own words. Assumes nothing.
use Rattle.std.specs.Prelude.{◌+◌, ◌*◌, ◌<◌, ◌≤◌, ◌≡◌, ◌∷◌}
use Rattle.whole.specs.Plain.{ℕ, zero, suc, refl, ap, ◌∙◌, List, [], tail, get_or, length, ℤ}
use Rattle.whole.specs.Plain.{take, drop, drop-drop, take-take, drop-cons, drop_of_length-le, arith, Words, z, nat}
use Rattle.std.proofs.Common.{add-one}
use Rattle.paper.specs.Rows.{Row, kinds, word_of, fields_of, kind}
use Rattle.paper.specs.Network.{row_of_words, rows_of, count_of_rows, table_of}
use Rattle.paper.specs.Areas.{net_of, net_on}
use Rattle.paper.specs.Listing.{line_of}
use Rattle.paper.specs.Writing.{row_line, text_of}
use Rattle.laws_facts.specs.Layout.{arity_most, length_rows}
use Rattle.laws_facts.specs.Nets.{net_in, row_at}
use Rattle.list_digits.specs.Puts.{Parts}

-- ---- a row's fields stand behind its kind

row_read : (n : ℕ) (w : Words) (i : ℕ) → i < n → get_or (rows_of n w) i [] ≡ row_of_words (take 8 (drop (8 * i) w))
unfolding rows_of
row_read zero w i h = absurd (omega arith)
row_read (suc n) w zero h = refl
row_read (suc n) w (suc i) h =
    let e : 8 + 8 * i ≡ 8 * suc i = omega arith in
    row_read n (drop 8 w) i (omega arith) ∙ ap (λ (v : Words). row_of_words (take 8 v)) (drop-drop (8 * i) 8 w ∙ ap (λ (k : ℕ). drop k w) e)

tail_read : (w : Words) → tail (row_of_words (take 8 w)) ≡ take (length (fields_of (kind (row_of_words (take 8 w))))) (drop 1 w)
unfolding row_of_words fields_of kinds
tail_read [] = refl
tail_read (x ∷ w) = take-take (length (fields_of (kind (x ∷ w)))) 7 w (omega (arith, arity_most (kind (x ∷ w))))

module _ (net : Words) where
  pub row_fields : (i : ℕ) → i < length (net_in net).rows → tail (row_at (net_in net) i) ≡ take (length (fields_of (kind (row_at (net_in net) i)))) (drop (9 + 8 * i) net)
  unfolding net_of net_on table_of
  row_fields i h =
      let v = drop (8 * i) (drop 8 net) in
      let e : 8 + (8 * i + 1) ≡ 9 + 8 * i = omega arith in
      let d : drop 1 v ≡ drop (9 + 8 * i) net = drop-drop 1 (8 * i) (drop 8 net) ∙ drop-drop (8 * i + 1) 8 net ∙ ap (λ (k : ℕ). drop k net) e in
      rw (row_read (nat (count_of_rows net)) (drop 8 net) i (omega (arith, length_rows (nat (count_of_rows net)) (drop 8 net)))) (rw d at (tail_read v))

  pub row_line_lem : (i : ℕ) → i < length (net_in net).rows → {k n : ℕ} → k ≡ kind (row_at (net_in net) i) → n ≡ length (fields_of k)
      → line_of (word_of k) (take n (drop (9 + 8 * i) net)) ≡ row_line (row_at (net_in net) i)
  unfolding row_line
  row_line_lem i h e f = rw (f, e, row_fields i h)

  pub study_parts : Parts (text_of (table_of net)) (line_of (word_of 0) (take 3 net)) (text_of (net_in net).rows)
  unfolding net_of net_on table_of text_of row_line
  study_parts = record { is = refl }

-- ---- line by line

pub rows_next : (rows : List Row) (i : ℕ) → i < length rows → Parts (text_of (drop i rows)) (row_line (get_or rows i [])) (text_of (drop (i + 1) rows))
unfolding text_of
rows_next rows i h = record { is = rw (add-one, drop-cons rows i [] h) }

pub rows_end : (rows : List Row) (i : ℕ) → length rows ≤ i → text_of (drop i rows) ≡ []
unfolding text_of
rows_end rows i h = rw (drop_of_length-le rows h)
