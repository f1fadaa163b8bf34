-- Where a network record that passes has its rows: the words of row i stand from word 8 + 8·i on, and all other words are 0. Assumes nothing.
use Rattle.std.specs.Prelude.{◌+◌, ◌*◌, ◌-◌, ◌≤◌, ◌<◌, ◌≡◌, ◌&&◌, ◌∷◌, ◌++◌}
use Rattle.whole.specs.Plain.{ℕ, zero, suc, refl, sym, ap, ◌∙◌, true, true≢false}
use Rattle.whole.specs.Plain.{List, [], tail, lit≤, ℤ, pos, negsuc, length, get_or, take, drop, length-append}
use Rattle.whole.specs.Plain.{length-take, get_or-append, get_or-eq_default, get_or-take, get_or-append-add, eqb-true}
use Rattle.whole.specs.Plain.{arith, Words, z, word, nat, between, same, same_words, filled}
use Rattle.whole.specs.Folds.{and_left, and_right}
use Rattle.whole.specs.Filled.{length_filled, get_d_filled}
use Rattle.paper.specs.Limits as Limits
use Rattle.paper.specs.Rows.{Row, kinds, fields_of, kind}
use Rattle.paper.specs.Network.{laid, network_of, row_of_words, rows_of, count_of_rows, table_of, passes, is_network}
use Rattle.laws_facts.specs.Fields.{Within, within}

-- ---- lists

pub same_eq : (x y : ℤ) → same x y ≡ true → x ≡ y
unfolding same
same_eq (pos a) (pos b) e = ap pos (eqb-true a b e)
same_eq (pos a) (negsuc b) e = absurd (true≢false (sym e))
same_eq (negsuc a) (pos b) e = absurd (true≢false (sym e))
same_eq (negsuc a) (negsuc b) e = ap negsuc (eqb-true a b e)

pub same_words_eq : (l m : Words) → same_words l m ≡ true → l ≡ m
unfolding same_words
same_words_eq [] [] e = refl
same_words_eq [] (y ∷ m) e = absurd (true≢false (sym e))
same_words_eq (x ∷ l) [] e = absurd (true≢false (sym e))
same_words_eq (x ∷ l) (y ∷ m) e = rw (same_eq x y (and_left (same x y) (same_words l m) e), same_words_eq l m (and_right (same x y) (same_words l m) e))

-- ---- rows laid one after another

pub arity_most : (k : ℕ) → length (fields_of k) ≤ 5
unfolding fields_of kinds
arity_most zero = lit≤ tt
arity_most (suc zero) = lit≤ tt
arity_most (suc (suc zero)) = lit≤ tt
arity_most (suc (suc (suc zero))) = lit≤ tt
arity_most (suc (suc (suc (suc zero)))) = lit≤ tt
arity_most (suc (suc (suc (suc (suc zero))))) = lit≤ tt
arity_most (suc (suc (suc (suc (suc (suc zero)))))) = lit≤ tt
arity_most (suc (suc (suc (suc (suc (suc (suc zero))))))) = lit≤ tt
arity_most (suc (suc (suc (suc (suc (suc (suc (suc zero)))))))) = lit≤ tt
arity_most (suc (suc (suc (suc (suc (suc (suc (suc (suc zero))))))))) = lit≤ tt
arity_most (suc (suc (suc (suc (suc (suc (suc (suc (suc (suc k)))))))))) = lit≤ tt

-- no row is longer than its eight words
pub Short : List Row → Type 0
Short rows = (i : ℕ) → i < length rows → length (get_or rows i []) ≤ 8

module _ (r : Row) (rows : List Row) (s : Short (r ∷ rows)) where
  short_head : length (filled 8 z r) ≡ 8
  unfolding Short
  short_head = length_filled 8 z r (s 0 (omega arith))

  short_tail : Short rows
  unfolding Short
  short_tail i h = s (suc i) (omega arith)

pub length_laid : (rows : List Row) → Short rows → length (laid rows) ≡ 8 * length rows
unfolding laid
length_laid [] s = refl
length_laid (r ∷ rows) s =
    omega (arith, length-append (filled 8 z r) (laid rows), short_head r rows s, length_laid rows (short_tail r rows s))

pub laid_word : (rows : List Row) → Short rows → (i j : ℕ) → i < length rows → j < 8 → word (laid rows) (8 * i + j) ≡ word (get_or rows i []) j
unfolding laid
laid_word [] s i j h k = absurd (omega arith)
laid_word (r ∷ rows) s zero j h k =
    let e : 8 * 0 + j ≡ j = omega arith in
    rw e (get_or-append (filled 8 z r) (laid rows) z j (omega (arith, short_head r rows s)) ∙ get_d_filled 8 z r j)
laid_word (r ∷ rows) s (suc i) j h k =
    let e : 8 * suc i + j ≡ length (filled 8 z r) + (8 * i + j) = omega (arith, short_head r rows s) in
    rw e (get_or-append-add (filled 8 z r) (laid rows) (8 * i + j) z ∙ laid_word rows (short_tail r rows s) i j (omega arith) k)

-- ---- rows read back

pub length_rows : (n : ℕ) (w : Words) → length (rows_of n w) ≡ n
unfolding rows_of
length_rows zero w = refl
length_rows (suc n) w = ap suc (length_rows n (drop 8 w))

row_short : (w : Words) → length (row_of_words w) ≤ 8
unfolding row_of_words
row_short w = rw length-take (omega (arith, arity_most (kind w)))

pub rows_short : (n : ℕ) (w : Words) → Short (rows_of n w)
unfolding rows_of Short
rows_short zero w i h = absurd (omega arith)
rows_short (suc n) w zero h = row_short (take 8 w)
rows_short (suc n) w (suc i) h = rows_short n (drop 8 w) i (omega arith)

-- a row read back has the words of its kind's fields and no more
abbrev pub room_of : Row → ℕ
room_of r = suc (length (fields_of (kind r)))

row_room : (w : Words) → length (row_of_words w) ≤ room_of (row_of_words w)
unfolding row_of_words
row_room [] = omega arith
row_room (x ∷ w) = rw length-take (omega arith)

pub rows_room : (n : ℕ) (w : Words) (i : ℕ) → i < n → length (get_or (rows_of n w) i []) ≤ room_of (get_or (rows_of n w) i [])
unfolding rows_of
rows_room zero w i h = absurd (omega arith)
rows_room (suc n) w zero h = row_room (take 8 w)
rows_room (suc n) w (suc i) h = rows_room n (drop 8 w) i (omega arith)

-- ---- the record

abbrev pub rows_in : Words → List Row
rows_in net = tail (table_of net)

module _ (net : Words) where
  -- its eight head words
  abbrev pub head_of : Words
  head_of = filled 8 z (take 3 net ++ (pos (length (rows_in net)) ∷ []))

  pub head_long : length head_of ≡ 8
  head_long =
      length_filled 8 z (take 3 net ++ (pos (length (rows_in net)) ∷ []))
      (rw (length-append (take 3 net) (pos (length (rows_in net)) ∷ []), length-take) (omega arith))

  pub rows_in_short : Short (rows_in net)
  unfolding table_of
  rows_in_short = rows_short (nat (count_of_rows net)) (drop 8 net)

  pub laid_out : network_of (table_of net) ≡ filled Limits.network_words z (head_of ++ laid (rows_in net))
  unfolding network_of table_of
  laid_out = refl

  -- words of the head, of the rows, and after them
  pub out_head : (k : ℕ) → k < 8 → word (network_of (table_of net)) k ≡ word head_of k
  out_head k h = rw laid_out (get_d_filled Limits.network_words z (head_of ++ laid (rows_in net)) k ∙ get_or-append head_of (laid (rows_in net)) z k (omega (arith, head_long)))

  pub out_after : (k : ℕ) → word (network_of (table_of net)) (8 + k) ≡ word (laid (rows_in net)) k
  out_after k =
      let e : 8 + k ≡ length head_of + k = omega (arith, head_long) in
      rw laid_out (get_d_filled Limits.network_words z (head_of ++ laid (rows_in net)) (8 + k) ∙ ap (word (head_of ++ laid (rows_in net))) e ∙ get_or-append-add head_of (laid (rows_in net)) k z)

-- what refusal 8 tests
pub record Recorded (net : Words) : Type 0 where
  pub few : Within 0 Limits.row_end (count_of_rows net)
  pub pass : passes (table_of net) ≡ true
  pub written : net ≡ network_of (table_of net)

pub recorded : (net : Words) → is_network net ≡ true → Recorded net
unfolding is_network
recorded net e =
    let b = between z (pos Limits.row_end) (count_of_rows net) in
    let p = passes (table_of net) in
    let s = same_words net (network_of (table_of net)) in
    let f = and_left (b && p) s e in
    record { few = within 0 Limits.row_end (count_of_rows net) (and_left b p f); pass = and_right b p f; written = same_words_eq net (network_of (table_of net)) (and_right (b && p) s e) }

module _ (net : Words) (e : is_network net ≡ true) where
  rec : Recorded net
  rec = recorded net e

  pub row_count : length (rows_in net) ≡ nat (word net 3)
  unfolding table_of
  row_count = length_rows (nat (count_of_rows net)) (drop 8 net)

  pub row_count_word : word net 3 ≡ pos (length (rows_in net))
  row_count_word = rec.few.is_nat ∙ ap pos (sym row_count)

  pub row_count_most : length (rows_in net) ≤ Limits.row_end
  row_count_most = omega (arith, row_count, rec.few.most)

  pub network_length : length net ≡ Limits.network_words
  network_length =
      ap length rec.written ∙ ap length (laid_out net)
      ∙ length_filled Limits.network_words z (head_of net ++ laid (rows_in net))
      (rw length-append (omega (arith, head_long net, length_laid (rows_in net) (rows_in_short net), row_count_most)))

  -- the words of a row; those that its kind does not have are 0 in both
  pub row_word : (i j : ℕ) → i < length (rows_in net) → j < 8 → word (get_or (rows_in net) i []) j ≡ word net (8 + 8 * i + j)
  row_word i j h k =
      let a : 8 + 8 * i + j ≡ 8 + (8 * i + j) = omega arith in
      sym (laid_word (rows_in net) (rows_in_short net) i j h k) ∙ sym (out_after net (8 * i + j)) ∙ ap (word (network_of (table_of net))) (sym a) ∙ ap (λ (w : Words). word w (8 + 8 * i + j)) (sym rec.written)

  -- a row is no longer than its kind has it
  pub row_room_in : (i : ℕ) → i < length (rows_in net) → length (get_or (rows_in net) i []) ≤ room_of (get_or (rows_in net) i [])
  unfolding table_of
  row_room_in i h = rows_room (nat (count_of_rows net)) (drop 8 net) i (omega (arith, row_count))

  -- those after the last row
  pub after_rows : (k : ℕ) → 8 + 8 * length (rows_in net) ≤ k → word net k ≡ z
  after_rows k h =
      let a : k ≡ 8 + (k - 8) = omega arith in
      ap (λ (w : Words). word w k) rec.written ∙ ap (word (network_of (table_of net))) a ∙ out_after net (k - 8)
      ∙ get_or-eq_default (laid (rows_in net)) z (omega (arith, length_laid (rows_in net) (rows_in_short net)))

  -- the head's last four
  pub head_zero : (k : ℕ) → 4 ≤ k → k < 8 → word net k ≡ z
  head_zero k l h =
      let w = take 3 net ++ (pos (length (rows_in net)) ∷ []) in
      let n : length w ≤ k = rw (length-append (take 3 net) (pos (length (rows_in net)) ∷ []), length-take) (omega arith) in
      ap (λ (w : Words). word w k) rec.written ∙ out_head net k h ∙ get_d_filled 8 z w k ∙ get_or-eq_default w z n

  -- the study's words
  pub head_word : (j : ℕ) → j < 3 → word (get_or (table_of net) 0 []) (suc j) ≡ word net j
  unfolding table_of
  head_word j h = get_or-take 3 net j z h
