-- A record's rows, replayed one by one. Assumes nothing.
use Rattle.std.specs.Prelude.{◌+◌, ◌-◌, ◌*◌, ◌≤◌, ◌<◌, ◌≡◌, ◌∷◌, ◌++◌}
use Rattle.std.specs.Simd.{first_chunks}
use Rattle.whole.specs.Plain.{ℕ, zero, suc, refl, sym, ap, ◌∙◌, true, false}
use Rattle.whole.specs.Plain.{bool_beq, [], append_assoc, append-nil, lit≤, ℤ, pos, negsuc, length}
use Rattle.whole.specs.Plain.{get_or, take, drop, length-take, length-drop, get_or-eq_default, take-suc, drop-drop}
use Rattle.whole.specs.Plain.{get_or-take, get_or-drop, leb-true, eq-eqb, le-leb, dec_lt, arith, Words, z}
use Rattle.whole.specs.Plain.{word, nat, up_to, empty, fold}
use Rattle.whole.specs.Folds.{both, every_at, fold_append}
use Rattle.paper.specs.Rows.{Row, kinds, fields_of, kind, no_kind, is_study}
use Rattle.paper.specs.Classes.{kind_count}
use Rattle.paper.specs.Faults.{row_fault}
use Rattle.paper.specs.Network.{Table, Replay, replayed, passes, sound, row_of_words, rows_of, table_of}
use Rattle.laws_facts.specs.Layout.{length_rows}
use Rattle.text_kinds.specs.Fields.{each}
use Rattle.text_faults.specs.declared.Seen.{Seen}
use Rattle.text_faults.specs.Seen.{seen_fault}
use Rattle.text_faults.specs.Stands.{Stands, row_kind, fault_is}
use Rattle.call_network.specs.Judged.{words_of, rows_in, spare_zero}

-- ---- zero words

pub zero_word : (x : ℤ) → up_to 0 x ≡ true → x ≡ z
unfolding up_to
zero_word (pos n) e = ap pos (let h : n ≤ 0 = leb-true n 0 e in omega arith)
zero_word (negsuc n) e = let h : suc n ≤ 0 = leb-true (suc n) 0 e in absurd (omega arith)

pub word_zero : (x : ℤ) → x ≡ z → up_to 0 x ≡ true
unfolding up_to
word_zero x e = rw e

-- ---- one more row of a table that passes

seen_all : (s : Replay) (t : Table) → (fold replayed s t).seen ≡ s.seen ++ t
unfolding fold replayed
seen_all s [] = sym (append-nil s.seen)
seen_all s (r ∷ t) = seen_all (replayed s r) t ∙ append_assoc s.seen (r ∷ []) t

pub passes_more : (t : Table) (r : Row) → passes t ≡ true → sound t r ≡ true → passes (t ++ (r ∷ [])) ≡ true
unfolding passes fold replayed
passes_more t r p s = ap (λ (x : Replay). x.ok) (fold_append replayed start t (r ∷ [])) ∙ both p (rw (seen_all start t) s)
  where
    start : Replay
    start = record { ok = true; seen = [] }

-- ---- a row by its words

module _ (w : Words) (long : length w ≡ 8) (k : kind w < 10) where
  few : 6 ≤ length w
  few = omega (arith, long)

  pub sound_row : (s : Seen) (t : Table) → Stands s t → empty t ≡ is_study w → seen_fault s w ≡ 0 → sound t (row_of_words w) ≡ true
  unfolding sound
  sound_row s t h e f =
      let q : kind (row_of_words w) ≡ kind w = row_kind w few k in
      both (both (le-leb (suc (kind (row_of_words w))) no_kind (omega (arith, kind_count))) (rw (q, e) (elim (is_study w) as (λ b. bool_beq b b ≡ true) [ true ↦ refl | false ↦ refl ]))) (eq-eqb (row_fault t (row_of_words w)) 0 (sym (fault_is s w few k t h e) ∙ f))

  pub fault_none : (s : Seen) (t : Table) → Stands s t → empty t ≡ is_study w → row_fault t (row_of_words w) ≡ 0 → seen_fault s w ≡ 0
  fault_none s t h e f = fault_is s w few k t h e ∙ f

  -- the words after those of its kind
  spare_word : spare_zero w ≡ true → (j : ℕ) → length (fields_of (kind w)) < j → j < 8 → word w j ≡ z
  unfolding spare_zero
  spare_word e j l h =
      let m = suc (length (fields_of (kind w))) in
      let q : m + (j - m) ≡ j = omega arith in
      let v : word (drop m w) (j - m) ≡ word w j = get_or-drop m w (j - m) z ∙ ap (word w) q in
      sym v ∙ zero_word _ (every_at (up_to 0) (drop m w) z (j - m) e (rw length-drop (omega (arith, long))))

  -- the row has the words of its kind, and the others are 0
  pub row_back : spare_zero w ≡ true → (j : ℕ) → j < 8 → word (row_of_words w) j ≡ word w j
  unfolding row_of_words
  row_back e j h =
      let f = length (fields_of (kind w)) in
      elim (dec_lt j (suc f))
      [ yes u ↦ get_or-take (suc f) w j z u | no u ↦ get_or-eq_default (take (suc f) w) z (rw length-take (omega arith)) ∙ sym (spare_word e j (omega arith) h) ]

pub arity_least : (k : ℕ) → k < 10 → 3 ≤ length (fields_of k)
unfolding fields_of kinds
arity_least = each (λ k. 3 ≤ length (fields_of k)) (lit≤ tt) (lit≤ tt) (lit≤ tt) (lit≤ tt) (lit≤ tt) (lit≤ tt) (lit≤ tt) (lit≤ tt) (lit≤ tt) (lit≤ tt)

-- ---- words in eights

chunk_count : (n k : ℕ) (l : Words) → length (first_chunks n k l) ≡ k
chunk_count n zero l = refl
chunk_count n (suc k) l = ap suc (chunk_count n k (drop n l))

chunk_at : (n k : ℕ) (l : Words) (i : ℕ) (d : Words) → i < k → get_or (first_chunks n k l) i d ≡ take n (drop (n * i) l)
chunk_at n zero l i d h = absurd (omega arith)
chunk_at n (suc k) l zero d h = let e : n * 0 ≡ 0 = omega arith in rw e
chunk_at n (suc k) l (suc i) d h =
    let e : n + n * i ≡ n * suc i = omega arith in
    chunk_at n k (drop n l) i d (omega arith) ∙ ap (take n) (drop-drop (n * i) n l ∙ ap (λ (m : ℕ). drop m l) e)

-- ---- the record's table, row by row

rows_at : (n : ℕ) (w : Words) (i : ℕ) → i < n → get_or (rows_of n w) i [] ≡ row_of_words (take 8 (drop (8 * i) w))
unfolding rows_of
rows_at zero w i h = absurd (omega arith)
rows_at (suc n) w zero h = refl
rows_at (suc n) w (suc i) h =
    let e : 8 + 8 * i ≡ 8 * suc i = omega arith in
    rows_at n (drop 8 w) i (omega arith) ∙ ap (λ (l : Words). row_of_words (take 8 l)) (drop-drop (8 * i) 8 w ∙ ap (λ (m : ℕ). drop m w) e)

module _ (net : Words) where
  abbrev n : ℕ
  n = nat (word net 3)

  pub table_at : (i : ℕ) → i < n → get_or (table_of net) (suc i) [] ≡ row_of_words (words_of net i)
  unfolding table_of
  table_at i h = rows_at n (drop 8 net) i h ∙ ap (λ (l : Words). row_of_words (take 8 l)) (drop-drop (8 * i) 8 net)

  pub table_long : length (table_of net) ≡ suc n
  unfolding table_of
  table_long = ap suc (length_rows n (drop 8 net))

  pub table_next : (i : ℕ) → i < n → take (suc (suc i)) (table_of net) ≡ take (suc i) (table_of net) ++ (row_of_words (words_of net i) ∷ [])
  table_next i h = take-suc (table_of net) (suc i) [] (omega (arith, table_long)) ∙ ap (λ (r : Row). take (suc i) (table_of net) ++ (r ∷ [])) (table_at i h)

  pub words_long : (i : ℕ) → i < n → n ≤ 80 → length net ≡ 1024 → length (words_of net i) ≡ 8
  words_long i h m l = rw (length-take, length-drop) (omega arith)

  pub words_at : (i j : ℕ) → j < 8 → word (words_of net i) j ≡ word net (8 + 8 * i + j)
  words_at i j h = get_or-take 8 (drop (8 + 8 * i) net) j z h ∙ get_or-drop (8 + 8 * i) net j z

  pub rows_count : (rows : ℕ) → rows ≤ 80 → length (rows_in net rows) ≡ rows
  rows_count rows h = rw length-take (omega (arith, chunk_count 8 127 (drop 8 net)))

  -- a row's eight words, as the loop meets them
  pub row_words : (rows i : ℕ) (d : Words) → rows ≤ 80 → i < rows → get_or (rows_in net rows) i d ≡ words_of net i
  row_words rows i d l h =
      get_or-take rows (first_chunks 8 127 (drop 8 net)) i d h
      ∙ chunk_at 8 127 (drop 8 net) i d (omega arith)
      ∙ ap (take 8) (drop-drop (8 * i) 8 net)
