-- The paper's test of a row's fields is the loop's, and what a row that passes it has. Assumes nothing.
use Rattle.std.specs.Prelude.{◌+◌, ◌-◌, ◌<◌, ◌≤◌, ◌≡◌, ◌∷◌}
use Rattle.whole.specs.Plain.{ℕ, zero, suc, refl, Bool, true, false, not, [], tail, eqb}
use Rattle.whole.specs.Plain.{leb, ltb, ℤ, pos, negsuc, nat_abs, length, drop, eqb-true, eqb-false, leb-true, not-false}
use Rattle.whole.specs.Plain.{zero-add, arith, Words, word, between, count}
use Rattle.std.proofs.Math.Nat.{sub-zero}
use Rattle.whole.specs.Folds.{and_left, and_right, or_left, or_right}
use Rattle.paper.specs.Rows.{bytes, kinds, fields_of}
use Rattle.paper.specs.Faults.{outside}
use Rattle.text_kinds.specs.Table.{names_of, low, high, any_outside, outside_from, in_range, any_before, any_after}

-- ---- a law for each kind

pub each : (P : ℕ → Type 0) → P 0 → P 1 → P 2 → P 3 → P 4 → P 5 → P 6 → P 7 → P 8 → P 9 → (k : ℕ) → k < 10 → P k
each P a b c d e f g h i j zero l = a
each P a b c d e f g h i j (suc zero) l = b
each P a b c d e f g h i j (suc (suc zero)) l = c
each P a b c d e f g h i j (suc (suc (suc zero))) l = d
each P a b c d e f g h i j (suc (suc (suc (suc zero)))) l = e
each P a b c d e f g h i j (suc (suc (suc (suc (suc zero))))) l = f
each P a b c d e f g h i j (suc (suc (suc (suc (suc (suc zero)))))) l = g
each P a b c d e f g h i j (suc (suc (suc (suc (suc (suc (suc zero))))))) l = h
each P a b c d e f g h i j (suc (suc (suc (suc (suc (suc (suc (suc zero)))))))) l = i
each P a b c d e f g h i j (suc (suc (suc (suc (suc (suc (suc (suc (suc zero))))))))) l = j
each P a b c d e f g h i j (suc (suc (suc (suc (suc (suc (suc (suc (suc (suc k)))))))))) l = absurd (omega arith)

pub names_few : (k : ℕ) → k < 10 → names_of k ≤ length (fields_of k)
unfolding names_of fields_of kinds bytes count
names_few = each (λ k. names_of k ≤ length (fields_of k)) (omega arith) (omega arith) (omega arith) (omega arith) (omega arith) (omega arith) (omega arith) (omega arith) (omega arith) (omega arith)

pub fields_few : (k : ℕ) → k < 10 → length (fields_of k) ≤ 5
unfolding fields_of kinds bytes
fields_few = each (λ k. length (fields_of k) ≤ 5) (omega arith) (omega arith) (omega arith) (omega arith) (omega arith) (omega arith) (omega arith) (omega arith) (omega arith) (omega arith)

-- ---- the paper's test of a row's fields

-- the words after the first, of which there are at least five
pub five : (w : Words) → 6 ≤ length w → tail w ≡ word w 1 ∷ word w 2 ∷ word w 3 ∷ word w 4 ∷ word w 5 ∷ drop 6 w
five [] h = absurd (omega arith)
five (x ∷ w) h = go w (omega arith)
  where
    go : (w : Words) → 5 ≤ length w → w ≡ word w 0 ∷ word w 1 ∷ word w 2 ∷ word w 3 ∷ word w 4 ∷ drop 5 w
    go (a ∷ b ∷ c ∷ d ∷ e ∷ w) h = refl
    go (a ∷ b ∷ c ∷ d ∷ []) h = absurd (omega arith)
    go (a ∷ b ∷ c ∷ []) h = absurd (omega arith)
    go (a ∷ b ∷ []) h = absurd (omega arith)
    go (a ∷ []) h = absurd (omega arith)
    go [] h = absurd (omega arith)

-- a field that names a node, and one that does not
module _ (w : Words) (h : 6 ≤ length w) where
  pub outside_names : (k : ℕ) → k < 10 → outside_from k 0 (names_of k) w ≡ outside true (fields_of k) (tail w)
  unfolding names_of fields_of kinds bytes count outside_from any_outside outside low high
  outside_names = rw (five w h) (each (λ k. outside_from k 0 (names_of k) w ≡ outside true (fields_of k) (word w 1 ∷ word w 2 ∷ word w 3 ∷ word w 4 ∷ word w 5 ∷ drop 6 w)) refl refl refl refl refl refl refl refl refl refl)

  pub outside_values : (k : ℕ) → k < 10 → outside_from k (names_of k) (length (fields_of k)) w ≡ outside false (fields_of k) (tail w)
  unfolding names_of fields_of kinds bytes count outside_from any_outside outside low high
  outside_values = rw (five w h) (each (λ k. outside_from k (names_of k) (length (fields_of k)) w ≡ outside false (fields_of k) (word w 1 ∷ word w 2 ∷ word w 3 ∷ word w 4 ∷ word w 5 ∷ drop 6 w)) refl refl refl refl refl refl refl refl refl refl)

-- which the first field out of its range tells: it names a node, or, where those are in their ranges, it is one of the others
pub names_out : (k : ℕ) → k < 10 → (w : Words) → outside_from k 0 (names_of k) w ≡ ltb (in_range k w) (names_of k)
unfolding outside_from in_range
names_out k h w = rw sub-zero (simp zero-add at (any_before k 0 (names_of k) (length (fields_of k)) w (names_few k h)))

pub values_out : (k : ℕ) → k < 10 → (w : Words) → outside_from k 0 (names_of k) w ≡ false → outside_from k (names_of k) (length (fields_of k)) w ≡ ltb (in_range k w) (length (fields_of k))
unfolding outside_from in_range
values_out k h w e = simp zero-add at (any_after k 0 (names_of k) (length (fields_of k)) w (names_few k h) (rw sub-zero at e))

-- ---- what a row has whose fields pass

any_at : (k i n : ℕ) (w : Words) → any_outside k i n w ≡ false → (j : ℕ) → i ≤ j → j < i + n → between (low k j) (high k j) (word w (suc j)) ≡ true
unfolding any_outside
any_at k i zero w e j l h = absurd (omega arith)
any_at k i (suc n) w e j l h = by_test (eqb j i) refl (any_at k (suc i) n w (or_right (not (between (low k i) (high k i) (word w (suc i)))) (any_outside k (suc i) n w) e) j)
  where
    by_test : (t : Bool) → eqb j i ≡ t → (suc i ≤ j → j < suc i + n → between (low k j) (high k j) (word w (suc j)) ≡ true) → between (low k j) (high k j) (word w (suc j)) ≡ true
    by_test true f ih = rw (eqb-true j i f) (not-false _ (or_left (not (between (low k i) (high k i) (word w (suc i)))) (any_outside k (suc i) n w) e))
    by_test false f ih = let d : j ≡ i → ⊥ = eqb-false j i f in ih (omega arith) (omega arith)

pub field_in : (k i e : ℕ) (w : Words) → outside_from k i e w ≡ false → (j : ℕ) → i ≤ j → j < e → between (low k j) (high k j) (word w (suc j)) ≡ true
unfolding outside_from
field_in k i e w f j l h = any_at k i (e - i) w f j l (omega arith)

pub in_range_lem : (l h : ℕ) (x : ℤ) → between (pos l) (pos h) x ≡ true → (x ≡ pos (nat_abs x)) × ((l ≤ nat_abs x) × (nat_abs x ≤ h))
unfolding between
in_range_lem l h (pos n) e = (refl, (leb-true l n (and_left (leb l n) (leb n h) e), leb-true n h (and_right (leb l n) (leb n h) e)))
in_range_lem l h (negsuc n) e = let c : ◌≡◌ {A = ℕ} 0 1 = cc in absurd (omega arith)
