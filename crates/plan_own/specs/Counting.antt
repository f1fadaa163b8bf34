-- Each number belongs to one area: those of area a and those of the areas past it are those from a on. Assumes nothing.
use Rattle.std.specs.Prelude.{◌+◌, ◌≤◌, ◌<◌, ◌≡◌, ◌&&◌, ◌∷◌}
use Rattle.whole.specs.Plain.{ℕ, refl, Bool, true, false, cond, List, [], leb, eqb}
use Rattle.whole.specs.Plain.{eq-eqb, ne_eqb, le-leb, lt-leb, dec_lt, arith, count}
use Rattle.whole.specs.Folds.{and_left}
use Rattle.whole.specs.Written.{count_imply}

module _ {A : Type 0} (p : A → Bool) (owner : A → ℕ) where
  unfoldable pub count_from : ℕ → List A → ℕ
  count_from a l = count (λ x. p x && leb a (owner x)) l

  unfoldable pub count_of : ℕ → List A → ℕ
  count_of a l = count (λ x. p x && eqb (owner x) a) l

  one : (b : Bool) (a n : ℕ) → cond (b && leb a n) 1 0 ≡ cond (b && eqb n a) 1 0 + cond (b && leb (a + 1) n) 1 0
  one false a n = omega arith
  one true a n = go (dec_lt n a) (dec_lt a n)
    where
      go : Dec (n < a) → Dec (a < n) → cond (leb a n) 1 0 ≡ cond (eqb n a) 1 0 + cond (leb (a + 1) n) 1 0
      go (yes h) u = rw (lt-leb a n h, ne_eqb n a (λ e. omega arith), lt-leb (a + 1) n (omega arith))
      go (no h) (yes k) = rw (le-leb a n (omega arith), ne_eqb n a (λ e. omega arith), le-leb (a + 1) n (omega arith))
      go (no h) (no k) = rw (le-leb a n (omega arith), eq-eqb n a (omega arith), lt-leb (a + 1) n (omega arith))

  pub count_all : (a : ℕ) (l : List A) → count_from a l ≤ count p l
  unfolding count_from
  count_all a l = count_imply (λ x. p x && leb a (owner x)) p l (λ x e. and_left (p x) (leb a (owner x)) e)

  pub count_from_lem : (a : ℕ) (l : List A) → count_from a l ≡ count_of a l + count_from (a + 1) l
  unfolding count_from count_of count
  count_from_lem a [] = refl
  count_from_lem a (x ∷ l) = omega (arith, one (p x) a (owner x), count_from_lem a l)
