-- The first place of a list that passes a test: none, or the least. Assumes nothing.
use Rattle.std.specs.Prelude.{◌+◌, ◌<◌, ◌≡◌, ◌∷◌}
use Rattle.whole.specs.Plain.{ℕ, zero, suc, refl, ◌∙◌, Bool, true, false, cond, List, []}
use Rattle.whole.specs.Plain.{length, get_or, arith}

module _ {A : Type 0} where
  -- the place, from 1, of the first that passes, the list's first being in place suc i; 0 where none does
  unfoldable pub place : (A → Bool) → ℕ → List A → ℕ
  place p i [] = 0
  place p i (x ∷ l) = let r = place p (suc i) l in cond (p x) (suc i) r

  -- n is the first place, from 0, that passes
  pub record Least (p : A → Bool) (d : A) (l : List A) (n : ℕ) : Type 0 where
    pub inside : n < length l
    pub hit : p (get_or l n d) ≡ true
    pub before : (m : ℕ) → m < n → p (get_or l m d) ≡ false

  pub place_none : (p : A → Bool) (d : A) (i : ℕ) (l : List A) → place p i l ≡ 0 → (m : ℕ) → m < length l → p (get_or l m d) ≡ false
  unfolding place
  place_none p d i [] e m h = absurd (omega arith)
  place_none p d i (x ∷ l) e m h = go (p x) refl e m h (place_none p d (suc i) l)
    where
      go : (b : Bool) → p x ≡ b → cond b (suc i) (place p (suc i) l) ≡ 0 → (m : ℕ) → m < length (x ∷ l)
          → (place p (suc i) l ≡ 0 → (m : ℕ) → m < length l → p (get_or l m d) ≡ false) → p (get_or (x ∷ l) m d) ≡ false
      go true q e m h ih = absurd (omega (arith, e))
      go false q e zero h ih = q
      go false q e (suc m) h ih = ih e m (omega arith)

  pub none_place : (p : A → Bool) (d : A) (i : ℕ) (l : List A) → ((m : ℕ) → m < length l → p (get_or l m d) ≡ false) → place p i l ≡ 0
  unfolding place
  none_place p d i [] h = refl
  none_place p d i (x ∷ l) h = rw (h 0 (omega arith)) (none_place p d (suc i) l (λ m q. h (suc m) (omega arith)))

  pub least_place : (p : A → Bool) (d : A) (i : ℕ) (l : List A) (n : ℕ) → Least p d l n → place p i l ≡ suc (i + n)
  unfolding place
  least_place p d i [] n f = absurd (omega (arith, f.inside))
  least_place p d i (x ∷ l) zero f = rw f.hit (omega arith)
  least_place p d i (x ∷ l) (suc n) f =
      rw (f.before 0 (omega arith))
      (least_place p d (suc i) l n (record { inside = omega (arith, f.inside); hit = f.hit; before = λ m q. f.before (suc m) (omega arith) }) ∙ omega arith)

  -- where the first is no 0, it is the least
  pub place_least : (p : A → Bool) (d : A) (i : ℕ) (l : List A) (n : ℕ) → place p i l ≡ suc n → (m : ℕ) × (n ≡ i + m) × Least p d l m
  unfolding place
  place_least p d i [] n e = absurd (omega arith)
  place_least p d i (x ∷ l) n e = go (p x) refl e (place_least p d (suc i) l n)
    where
      next : p x ≡ false → (m : ℕ) × (n ≡ suc i + m) × Least p d l m → (m : ℕ) × (n ≡ i + m) × Least p d (x ∷ l) m
      next q r = (suc r.0, omega (arith, r.1), record { inside = omega (arith, r.2.inside); hit = r.2.hit; before = before })
        where
          before : (m : ℕ) → m < suc r.0 → p (get_or (x ∷ l) m d) ≡ false
          before zero h = q
          before (suc m) h = r.2.before m (omega arith)

      go : (b : Bool) → p x ≡ b → cond b (suc i) (place p (suc i) l) ≡ suc n → (place p (suc i) l ≡ suc n → (m : ℕ) × (n ≡ suc i + m) × Least p d l m)
          → (m : ℕ) × (n ≡ i + m) × Least p d (x ∷ l) m
      go true q e ih = (0, omega arith, record { inside = omega arith; hit = q; before = λ m h. absurd (omega arith) })
      go false q e ih = next q (ih e)
