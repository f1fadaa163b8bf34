-- Counts and sums over the first i of a list: they grow with i, and stay where each one more was tested. Assumes nothing.
use Rattle.std.specs.Prelude.{◌+◌, ◌≤◌, ◌<◌, ◌≡◌, ◌&&◌, ◌∷◌}
use Rattle.whole.specs.Plain.{ℕ, zero, suc, refl, Bool, true, false, cond, List, []}
use Rattle.whole.specs.Plain.{leb, ltb, ℤ, +ℤ_idl, +ℤ_idr, length, get_or, take, take-length, leb-false}
use Rattle.whole.specs.Plain.{ltb-false, arith, z, count, sum, total}
use Rattle.std.proofs.Math.Numerals.{add-one}
use Rattle.whole.specs.Folds.{count_next, sum_next, none_if}
use Rattle.whole.specs.Written.{total_none}

module _ {A : Type 0} (d : A) where
  pub sum_grows : (f : A → ℕ) (l : List A) (i j : ℕ) → i ≤ j → sum f (take i l) ≤ sum f (take j l)
  unfolding sum
  sum_grows f l zero j h = omega arith
  sum_grows f [] (suc i) zero h = absurd (omega arith)
  sum_grows f [] (suc i) (suc j) h = omega arith
  sum_grows f (a ∷ l) (suc i) zero h = absurd (omega arith)
  sum_grows f (a ∷ l) (suc i) (suc j) h = omega (arith, sum_grows f l i j (omega arith))

  -- what one place adds stands before every later place
  pub sum_below : (f : A → ℕ) (l : List A) (i j : ℕ) → i < j → i < length l → sum f (take i l) + f (get_or l i d) ≤ sum f (take j l)
  sum_below f l i j h k = omega (arith, sum_next f l i d k, sum_grows f l (i + 1) j (omega arith))

  pub sum_within : (f : A → ℕ) (l : List A) (i : ℕ) → i < length l → sum f (take i l) + f (get_or l i d) ≤ sum f l
  sum_within f l i h = rw (take-length l) at (sum_below f l i (length l) h h)

  more_fits : (b : Bool) (c e : ℕ) → c ≤ e → (b && leb e c) ≡ false → c + cond b 1 0 ≤ e
  more_fits true c e h q = omega (arith, leb-false e c q)
  more_fits false c e h q = omega arith

  -- a count that was tested before each one more
  pub count_room : (p : A → Bool) (e : ℕ) (l : List A) → ((i : ℕ) → i < length l → (p (get_or l i d) && leb e (count p (take i l))) ≡ false) → (i : ℕ) → i ≤ length l → count p (take i l) ≤ e
  unfolding count
  count_room p e l h zero k = omega arith
  count_room p e l h (suc i) k =
      rw (← add-one i) (omega (arith, count_next p l i d (omega arith), more_fits (p (get_or l i d)) (count p (take i l)) e (count_room p e l h i (omega arith)) (h i (omega arith))))

  pub sum_room : (f : A → ℕ) (e : ℕ) (l : List A) → ((i : ℕ) → i < length l → ltb e (sum f (take i l) + f (get_or l i d)) ≡ false) → (i : ℕ) → i ≤ length l → sum f (take i l) ≤ e
  unfolding sum
  sum_room f e l h zero k = omega arith
  sum_room f e l h (suc i) k = rw (← add-one i) (omega (arith, sum_next f l i d (omega arith), ltb-false e (sum f (take i l) + f (get_or l i d)) (h i (omega arith))))

  -- where each passes exactly one of two tests
  pub count_parts : (p q : A → Bool) (l : List A) → ((i : ℕ) → i < length l → cond (p (get_or l i d)) 1 0 + cond (q (get_or l i d)) 1 0 ≡ 1) → count p l + count q l ≡ length l
  unfolding count
  count_parts p q [] h = refl
  count_parts p q (a ∷ l) h = omega (arith, h 0 (omega arith), count_parts p q l (λ i k. h (suc i) (omega arith)))

  -- a total whose terms but one are left out
  pub total_alone : (p : A → Bool) (f : A → ℤ) (l : List A) (i : ℕ) → i < length l → p (get_or l i d) ≡ true
      → ((j : ℕ) → j < length l → (i ≡ j → ⊥) → p (get_or l j d) ≡ false) → total (λ a. cond (p a) (f a) z) l ≡ f (get_or l i d)
  unfolding total
  total_alone p f [] i h e n = absurd (omega arith)
  total_alone p f (a ∷ l) zero h e n = rw (e, total_none p f l (none_if p l d (λ j k. n (suc j) (omega arith) (λ q. omega arith)))) (+ℤ_idr (f a))
  total_alone p f (a ∷ l) (suc i) h e n =
      rw (n 0 (omega arith) (λ q. omega arith), total_alone p f l i (omega arith) e (λ j k u. n (suc j) (omega arith) (λ q. u (omega arith)))) (+ℤ_idl (f (get_or l i d)))
