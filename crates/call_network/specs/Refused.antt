-- The other way: a record that passes refusal 8 passes each test of the judgement, so one that fails a test is refused. Assumes nothing.
use Rattle.std.specs.Prelude.{◌+◌, ◌-◌, ◌*◌, ◌≤◌, ◌<◌, ◌≡◌, ◌&&◌, ◌∷◌}
use Rattle.whole.specs.Plain.{ℕ, suc, refl, sym, ap, ◌∙◌, true, false, bool_beq}
use Rattle.whole.specs.Plain.{true≢false, [], leb, eqb, ℤ, pos, lt_z, length, get_or, take, drop}
use Rattle.whole.specs.Plain.{length-take, length-drop, get_or-take, get_or-drop, le-ltb, eqb-true}
use Rattle.whole.specs.Plain.{ne_eqb, arith, Words, z, word, nat, up_to, empty}
use Rattle.whole.specs.Folds.{and_right, both, every_if}
use Rattle.paper.specs.Limits as Limits
use Rattle.paper.specs.Rows.{Row, fields_of, kind, no_kind, is_study}
use Rattle.paper.specs.Faults.{row_fault}
use Rattle.paper.specs.Network.{Table, sound, row_of_words, table_of, is_network}
use Rattle.laws_facts.specs.Passing.{passes_at}
use Rattle.laws_facts.specs.Layout.{recorded}
use Rattle.laws_facts.specs.Nets as Nets
use Rattle.laws_facts.proofs.Nets.{net_sound}
use Rattle.text_faults.specs.declared.Seen.{Seen}
use Rattle.text_faults.specs.Seen.{seen_fault, nothing_seen}
use Rattle.text_faults.specs.Stands.{Stands, stands_none}
use Rattle.call_network.specs.Judged.{words_of, study_words, spare_zero, good_row, blank}
use Rattle.call_network.specs.Replayed.{word_zero, fault_none, table_at, table_long, words_long, words_at}
use Rattle.call_network.specs.Laws.{never, Sized, good_if, study_row, rows_are, not_empty}

kind_head : (w : Words) → kind w ≡ kind (word w 0 ∷ [])
kind_head [] = refl
kind_head (x ∷ w) = refl

-- no fault in a sound row
sound_fault : (t : Table) (r : Row) → sound t r ≡ true → row_fault t r ≡ 0
unfolding sound
sound_fault t r e = eqb-true (row_fault t r) 0 (and_right (leb (suc (kind r)) no_kind && bool_beq (empty t) (is_study r)) (eqb (row_fault t r) 0) e)

module _ (net : Words) where
  pub negative_refused : lt_z (word net 3) (pos 0) ≡ true → false ≡ is_network net
  negative_refused e = sym (never (is_network net) (λ q. true≢false (sym (rw (recorded net q).few.is_nat at e) ∙ le-ltb (nat (word net 3)) 0 (omega arith))))

  pub more_refused : Limits.row_end < nat (word net 3) → false ≡ is_network net
  more_refused e = sym (never (is_network net) (λ q. omega (arith, (recorded net q).few.most)))

module _ (net : Words) (rows : ℕ) (z₀ : Sized net rows) where
  -- ---- the tests that a record passes

  module _ (e : is_network net ≡ true) where
    rows_long : length (Nets.net_in net).rows ≡ rows
    rows_long = Nets.row_count net e ∙ rows_are net rows z₀

    blank_passes : blank net rows ≡ true
    unfolding blank
    blank_passes =
        both
        (every_if (up_to 0) (take 4 (drop 4 net)) z
        (λ i h.
        let l : length (take 4 (drop 4 net)) ≡ 4 = rw (length-take, length-drop) (omega (arith, z₀.long)) in
        word_zero _ (get_or-take 4 (drop 4 net) i z (omega arith) ∙ get_or-drop 4 net i z ∙ Nets.head_zero net e (4 + i) (omega arith) (omega arith))))
        (every_if (up_to 0) (drop (8 + 8 * rows) net) z
        (λ i h. word_zero _ (get_or-drop (8 + 8 * rows) net i z ∙ Nets.after_rows net e (8 + 8 * rows + i) (omega (arith, rows_long)))))

    study_passes : seen_fault nothing_seen (study_words net) ≡ 0
    unfolding table_of
    study_passes =
        let s : sound [] (z ∷ take 3 net) ≡ true = passes_at (table_of net) 0 (recorded net e).pass (omega arith) in
        fault_none (study_words net) refl (omega arith) nothing_seen [] stands_none refl (rw (study_row net rows z₀) (sound_fault [] (z ∷ take 3 net) s))

    module _ (i : ℕ) (h : i < rows) where
      abbrev w : Words
      w = words_of net i

      row : Row
      row = Nets.row_at (Nets.net_in net) i

      at_row : i < length (Nets.net_in net).rows
      at_row = omega (arith, rows_long)

      -- a word of the row is that of the record
      same_word : (j : ℕ) → j < 8 → word w j ≡ word row j
      unfolding row
      same_word j k = words_at net i j k ∙ sym (Nets.row_word net e i j at_row k)

      same_kind : kind w ≡ kind row
      same_kind = kind_head w ∙ ap (λ (x : ℤ). kind (x ∷ [])) (same_word 0 (omega arith)) ∙ sym (kind_head row)

      kinds : (1 ≤ kind w) × (kind w ≤ 9)
      unfolding row
      kinds =
          let s = (net_sound net e).row i at_row in
          (omega (arith, same_kind, s.kind_least), omega (arith, same_kind, s.kind_most))

      -- a word past the kind's fields
      spare : (j : ℕ) → length (fields_of (kind w)) < j → j < 8 → word w j ≡ z
      unfolding row
      spare j l k =
          let q : length (fields_of (kind row)) ≡ length (fields_of (kind w)) = ap (λ (n : ℕ). length (fields_of n)) (sym same_kind) in
          same_word j k ∙ Nets.row_beyond net e i j at_row (omega arith)

      spare_passes : spare_zero w ≡ true
      unfolding spare_zero
      spare_passes =
          let m = suc (length (fields_of (kind w))) in
          let long : length w ≡ 8 = words_long net i (omega (arith, rows_are net rows z₀)) (omega (arith, rows_are net rows z₀, z₀.few)) z₀.long in
          every_if (up_to 0) (drop m w) z (λ j h. word_zero _ (get_or-drop m w j z ∙ spare (m + j) (omega arith) (let l : j < length w - m = rw (← length-drop m w) h in omega arith)))

      fault_passes : (s : Seen) → Stands s (take (suc i) (table_of net)) → seen_fault s w ≡ 0
      fault_passes s st =
          let n = rows_are net rows z₀ in
          let t = take (suc i) (table_of net) in
          let g : sound t (get_or (table_of net) (suc i) []) ≡ true = passes_at (table_of net) (suc i) (recorded net e).pass (omega (arith, table_long net)) in
          let u : sound t (row_of_words w) ≡ true = rw (table_at net i (omega arith)) at g in
          fault_none w (words_long net i (omega arith) (omega (arith, z₀.few)) z₀.long) (omega (arith, kinds.1)) s t st
          (not_empty net rows z₀ i ∙ sym (ne_eqb (kind w) 0 (λ q. omega (arith, kinds.0)))) (sound_fault t (row_of_words w) u)

      good_passes : (s : Seen) → Stands s (take (suc i) (table_of net)) → good_row s w ≡ true
      good_passes s st = good_if s w (record { least = kinds.0; most = kinds.1; spare = spare_passes; fault = fault_passes s st })

  -- ---- so one that fails a test is refused

  pub blank_refused : blank net rows ≡ false → false ≡ is_network net
  blank_refused b = sym (never (is_network net) (λ e. true≢false (sym (blank_passes e) ∙ b)))

  pub study_refused : (seen_fault nothing_seen (study_words net) ≡ 0 → ⊥) → false ≡ is_network net
  study_refused f = sym (never (is_network net) (λ e. f (study_passes e)))

  pub row_refused : (s : Seen) (i : ℕ) → i < rows → Stands s (take (suc i) (table_of net)) → good_row s (words_of net i) ≡ false → false ≡ is_network net
  row_refused s i h st g = sym (never (is_network net) (λ e. true≢false (sym (good_passes e i h s st) ∙ g)))
