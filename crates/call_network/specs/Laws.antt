-- The judgement is refusal 8's, both ways. Assumes nothing.
use Rattle.std.specs.Prelude.{◌+◌, ◌*◌, ◌-◌, ◌/◌, ◌%◌, ◌≤◌, ◌<◌, ◌≡◌, ◌&&◌, ◌∷◌, ◌++◌}
use Rattle.whole.specs.Plain.{ℕ, suc, refl, sym, ap, ◌∙◌, Bool, true, false}
use Rattle.whole.specs.Plain.{[], leb, eqb, pos, negsuc, length, take, drop, length-take, length-drop}
use Rattle.whole.specs.Plain.{length-append, get_or-append, get_or-eq_default, take_all, get_or-take, get_or-drop}
use Rattle.whole.specs.Plain.{get_or_at, length-take-le, ext_get_or, leb-true, le-leb, eqb-true, eq-eqb, ne_eqb, dec_lt}
use Rattle.whole.specs.Plain.{ℕ_discrete, arith, Words, z, word, nat, between, every, up_to, same, same_words, empty}
use Rattle.whole.specs.Plain.{fold}
use Rattle.std.proofs.Common.{add-one}
use Rattle.whole.specs.Folds.{and_left, and_right, both, every_at}
use Rattle.whole.specs.Filled.{get_d_filled, length_filled}
use Rattle.paper.specs.Limits as Limits
use Rattle.paper.specs.Rows.{Row, fields_of, kind, is_study}
use Rattle.paper.specs.Network.{passes, laid, network_of, row_of_words, count_of_rows, table_of, is_network}
use Rattle.laws_facts.specs.Layout as Layout
use Rattle.text_faults.specs.declared.Seen.{Seen}
use Rattle.text_faults.specs.Seen.{seen_fault, seen_after, nothing_seen}
use Rattle.text_faults.specs.Stands.{Stands, stands_none}
use Rattle.text_faults.specs.After.{stands_after}
use Rattle.call_network.specs.Judged.{words_of, study_words, spare_zero, known_row, good_row, blank}
use Rattle.call_network.specs.Replayed.{zero_word, passes_more, sound_row, row_back, table_at, table_long, table_next, words_long, words_at}

-- what cannot be so is false
pub never : (b : Bool) → (b ≡ true → ⊥) → b ≡ false
never true h = absurd (h refl)
never false h = refl

same_refl : (w : Words) → same_words w w ≡ true
unfolding same_words same
same_refl [] = refl
same_refl (pos a ∷ w) = both (eq-eqb a a refl) (same_refl w)
same_refl (negsuc a ∷ w) = both (eq-eqb a a refl) (same_refl w)

-- a row that the reader could have written
pub record Good (s : Seen) (w : Words) : Type 0 where
  pub least : 1 ≤ kind w
  pub most : kind w ≤ 9
  pub spare : spare_zero w ≡ true
  pub fault : seen_fault s w ≡ 0

pub good : (s : Seen) (w : Words) → good_row s w ≡ true → Good s w
unfolding good_row
good s w g =
    let ks = and_left (known_row w && spare_zero w) (eqb (seen_fault s w) 0) g in
    let k = and_left (known_row w) (spare_zero w) ks in
    record {
      least = leb-true 1 (kind w) (and_left (leb 1 (kind w)) (leb (kind w) 9) k);
      most = leb-true (kind w) 9 (and_right (leb 1 (kind w)) (leb (kind w) 9) k);
      spare = and_right (known_row w) (spare_zero w) ks;
      fault = eqb-true (seen_fault s w) 0 (and_right (known_row w && spare_zero w) (eqb (seen_fault s w) 0) g);
    }

pub good_if : (s : Seen) (w : Words) → Good s w → good_row s w ≡ true
unfolding good_row
good_if s w q = both (both (both (le-leb 1 (kind w) q.least) (le-leb (kind w) 9 q.most)) q.spare) (eq-eqb (seen_fault s w) 0 q.fault)

-- so far: the study's row and i rows pass, and have no word too many
pub record Replayed (net : Words) (i : ℕ) (s : Seen) : Type 0 where
  pub stands : Stands s (take (suc i) (table_of net))
  pub pass : passes (take (suc i) (table_of net)) ≡ true
  pub known : (k : ℕ) → k < i → kind (words_of net k) < 10
  pub spare : (k : ℕ) → k < i → spare_zero (words_of net k) ≡ true

-- a record of the right length, with a number of rows that it has room for
pub record Sized (net : Words) (rows : ℕ) : Type 0 where
  pub long : length net ≡ Limits.network_words
  pub count : word net 3 ≡ pos rows
  pub few : rows ≤ Limits.row_end

module _ (net : Words) (rows : ℕ) (z₀ : Sized net rows) where
  pub rows_are : nat (word net 3) ≡ rows
  rows_are = ap nat z₀.count

  -- ---- the study's row

  pub study_row : row_of_words (study_words net) ≡ z ∷ take 3 net
  unfolding row_of_words fields_of Rattle.paper.specs.Rows.kinds
  study_row = ap (λ (l : Words). z ∷ l) (sym (three net (omega (arith, z₀.long))))
    where
      three : (l : Words) → 3 ≤ length l → take 3 l ≡ word l 0 ∷ word l 1 ∷ word l 2 ∷ []
      three (a ∷ b ∷ c ∷ l) h = refl
      three (a ∷ b ∷ []) h = absurd (omega arith)
      three (a ∷ []) h = absurd (omega arith)
      three [] h = absurd (omega arith)

  first_row : take 1 (table_of net) ≡ row_of_words (study_words net) ∷ []
  unfolding table_of
  first_row = ap (λ (r : Row). r ∷ []) (sym study_row)

  pub study_first : seen_fault nothing_seen (study_words net) ≡ 0 → Replayed net 0 (seen_after nothing_seen (study_words net))
  unfolding passes fold
  study_first f =
      let w = study_words net in
      record {
        stands = rw first_row (stands_after nothing_seen w (omega arith) (omega arith) [] stands_none refl f);
        pass = rw first_row (passes_more [] (row_of_words w) refl (sound_row w refl (omega arith) nothing_seen [] stands_none refl f));
        known = λ k h. absurd (omega arith);
        spare = λ k h. absurd (omega arith);
      }

  -- ---- the next row

  pub not_empty : (i : ℕ) → empty (take (suc i) (table_of net)) ≡ false
  unfolding table_of
  not_empty i = refl

  module _ (s : Seen) (i : ℕ) (h : i < rows) (g : good_row s (words_of net i) ≡ true) where
    abbrev w : Words
    w = words_of net i

    q : Good s w
    q = good s w g

    long : length w ≡ 8
    long = words_long net i (omega (arith, rows_are)) (omega (arith, rows_are, z₀.few)) z₀.long

    pub replayed_next : Replayed net i s → Replayed net (i + 1) (seen_after s w)
    replayed_next r =
        let t = take (suc i) (table_of net) in
        let e : empty t ≡ is_study w = not_empty i ∙ sym (ne_eqb (kind w) 0 (λ e. omega (arith, q.least))) in
        let n = table_next net i (omega (arith, rows_are)) in
        rw (add-one i)
        (record {
          stands = rw n (stands_after s w (omega (arith, long)) (omega (arith, q.most)) t r.stands e q.fault);
          pass = rw n (passes_more t (row_of_words w) r.pass (sound_row w long (omega (arith, q.most)) s t r.stands e q.fault));
          known = λ k u. elim (ℕ_discrete k i) [ yes v ↦ rw v (omega (arith, q.most)) | no q ↦ r.known k (omega arith) ];
          spare = λ k u. elim (ℕ_discrete k i) [ yes v ↦ rw v q.spare | no q ↦ r.spare k (omega arith) ];
        })

  -- ---- all rows

  module _ (s : Seen) (b : blank net rows ≡ true) (r : Replayed net rows s) where
    rows_long : length (Layout.rows_in net) ≡ rows
    unfolding table_of
    rows_long = Layout.length_rows (nat (count_of_rows net)) (drop 8 net) ∙ rows_are

    head_blank : (k : ℕ) → 4 ≤ k → k < 8 → word net k ≡ z
    unfolding blank
    head_blank k l h =
        let e : 4 + (k - 4) ≡ k = omega arith in
        let u : length (take 4 (drop 4 net)) ≡ 4 = rw (length-take, length-drop) (omega (arith, z₀.long)) in
        let v : word (take 4 (drop 4 net)) (k - 4) ≡ word net k = get_or-take 4 (drop 4 net) (k - 4) z (omega arith) ∙ get_or-drop 4 net (k - 4) z ∙ ap (word net) e in
        sym v ∙ zero_word _ (every_at (up_to 0) (take 4 (drop 4 net)) z (k - 4) (and_left (every (up_to 0) (take 4 (drop 4 net))) (every (up_to 0) (drop (8 + 8 * rows) net)) b) (omega (arith, u)))

    rest_blank : (k : ℕ) → 8 + 8 * rows ≤ k → k < length net → word net k ≡ z
    unfolding blank
    rest_blank k l h =
        let m = 8 + 8 * rows in
        let e : m + (k - m) ≡ k = omega arith in
        let v : word (drop m net) (k - m) ≡ word net k = get_or-drop m net (k - m) z ∙ ap (word net) e in
        sym v ∙ zero_word _ (every_at (up_to 0) (drop m net) z (k - m) (and_right (every (up_to 0) (take 4 (drop 4 net))) (every (up_to 0) (drop m net)) b) (rw length-drop (omega arith)))

    head_same : (k : ℕ) → k < 8 → word net k ≡ word (network_of (table_of net)) k
    head_same k h =
        let front = take 3 net ++ (pos (length (Layout.rows_in net)) ∷ []) in
        let long : length (take 3 net) ≡ 3 = length-take-le 3 net (omega (arith, z₀.long)) in
        let here : word net k ≡ word front k = elim (dec_lt k 3) [
          | yes u ↦ sym (get_or-append (take 3 net) (pos (length (Layout.rows_in net)) ∷ []) z k (omega arith) ∙ get_or-take 3 net k z u)
          | no u ↦ elim (dec_lt 3 k) [
            | yes v ↦ head_blank k (omega arith) h ∙ sym (get_or-eq_default front z (rw length-append (omega arith)))
            | no v ↦ let e : k ≡ 3 = omega arith in rw e (z₀.count ∙ ap pos (sym rows_long) ∙ sym (get_or_at (take 3 net) (pos (length (Layout.rows_in net))) [] z 3 long))
          ]
        ] in
        here ∙ sym (Layout.out_head net k h ∙ get_d_filled 8 z front k)

    row_same : (i j : ℕ) → i < rows → j < 8 → word net (8 + 8 * i + j) ≡ word (laid (Layout.rows_in net)) (8 * i + j)
    unfolding table_of
    row_same i j h k =
        let w = words_of net i in
        let known = r.known i h in
        sym (words_at net i j k)
        ∙ sym (row_back w (words_long net i (omega (arith, rows_are)) (omega (arith, rows_are, z₀.few)) z₀.long) known (r.spare i h) j k)
        ∙ ap (λ (l : Words). word l j) (sym (table_at net i (omega (arith, rows_are))))
        ∙ sym (Layout.laid_word (Layout.rows_in net) (Layout.rows_in_short net) i j (omega (arith, rows_long)) k)

    rest_same : (k : ℕ) → 8 ≤ k → k < length net → word net k ≡ word (network_of (table_of net)) k
    rest_same k l h =
        let e : k ≡ 8 + (k - 8) = omega arith in
        let here : word net k ≡ word (laid (Layout.rows_in net)) (k - 8) = elim (dec_lt (k - 8) (8 * rows)) [
          | yes u ↦
              let a : k ≡ 8 + 8 * ((k - 8) / 8) + (k - 8) % 8 = omega arith in
              let c : 8 * ((k - 8) / 8) + (k - 8) % 8 ≡ k - 8 = omega arith in
              ap (word net) a ∙ row_same ((k - 8) / 8) ((k - 8) % 8) (omega arith) (omega arith) ∙ ap (word (laid (Layout.rows_in net))) c
          | no u ↦ rest_blank k (omega arith) h
              ∙ sym (get_or-eq_default (laid (Layout.rows_in net)) z (omega (arith, Layout.length_laid (Layout.rows_in net) (Layout.rows_in_short net), rows_long)))
        ] in
        here ∙ sym (ap (word (network_of (table_of net))) e ∙ Layout.out_after net (k - 8))

    out_long : length (network_of (table_of net)) ≡ Limits.network_words
    out_long =
        ap length (Layout.laid_out net)
        ∙ length_filled Limits.network_words z (Layout.head_of net ++ laid (Layout.rows_in net))
        (rw length-append (omega (arith, Layout.head_long net, Layout.length_laid (Layout.rows_in net) (Layout.rows_in_short net), rows_long, z₀.few)))

    written : net ≡ network_of (table_of net)
    written = ext_get_or z net (network_of (table_of net)) (z₀.long ∙ sym out_long) (λ k h. elim (dec_lt k 8) [ yes u ↦ head_same k u | no u ↦ rest_same k (omega arith) h ])

    -- a record whose rows pass and whose other words are 0 is one that the reader could write
    pub judged_true : true ≡ is_network net
    unfolding is_network between
    judged_true =
        let c : between z (pos Limits.row_end) (count_of_rows net) ≡ true = rw z₀.count (both (le-leb 0 rows (omega arith)) (le-leb rows Limits.row_end z₀.few)) in
        sym (both (both c (rw (take_all (suc rows) (table_of net) (omega (arith, table_long net, rows_are))) at r.pass)) (ap (same_words net) (sym written) ∙ same_refl net))
