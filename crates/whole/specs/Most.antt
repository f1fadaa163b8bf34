-- The largest of some numbers, as a fold of `max`. Assumes nothing.
use Rattle.std.specs.Prelude.{◌≤◌, ◌<◌, ◌∷◌}
use Rattle.whole.specs.Plain.{ℕ, zero, suc, max, List, [], length, get_or, arith, fold}

module _ {A : Type 0} (f : A → ℕ) where
  abbrev pub most : ℕ → List A → ℕ
  most n l = fold (λ n a. max n (f a)) n l

  pub most_first : (n : ℕ) (l : List A) → n ≤ most n l
  unfolding fold
  most_first n [] = omega arith
  most_first n (a ∷ l) = omega (arith, most_first (max n (f a)) l)

  -- none is larger
  pub most_at : (n : ℕ) (l : List A) (d : A) (i : ℕ) → i < length l → f (get_or l i d) ≤ most n l
  unfolding fold
  most_at n [] d i h = absurd (omega arith)
  most_at n (a ∷ l) d zero h = omega (arith, most_first (max n (f a)) l)
  most_at n (a ∷ l) d (suc i) h = most_at (max n (f a)) l d i (omega arith)

  -- and it is no larger than what none passes
  pub most_least : (n m : ℕ) (l : List A) (d : A) → n ≤ m → ((i : ℕ) → i < length l → f (get_or l i d) ≤ m) → most n l ≤ m
  unfolding fold
  most_least n m [] d h k = h
  most_least n m (a ∷ l) d h k =
      let e : f a ≤ m = k 0 (omega arith) in
      most_least (max n (f a)) m l d (omega arith) (λ i q. k (suc i) (omega arith))
