-- A table as the list of what a function gives at each place: a constant table of the code is one, by computation. Assumes nothing.
use Rattle.std.specs.Prelude.{◌+◌, ◌<◌, ◌≡◌, ◌∷◌}
use Rattle.whole.specs.Plain.{ℕ, zero, suc, ap, ◌∙◌, List, [], get_or, arith}

module _ {A : Type 0} where
  -- f at i, i + 1, .. : n entries
  unfoldable pub entries : ℕ → ℕ → (ℕ → A) → List A
  entries i zero f = []
  entries i (suc n) f = f i ∷ entries (suc i) n f

  unfoldable pub table : ℕ → (ℕ → A) → List A
  unfolding entries
  table n f = entries 0 n f

  entries_at : (i n : ℕ) (f : ℕ → A) (d : A) (j : ℕ) → j < n → get_or (entries i n f) j d ≡ f (i + j)
  unfolding entries
  entries_at i zero f d j h = absurd (omega arith)
  entries_at i (suc n) f d zero h = let e : i ≡ i + 0 = omega arith in ap f e
  entries_at i (suc n) f d (suc j) h =
      let e : suc i + j ≡ i + suc j = omega arith in
      entries_at (suc i) n f d j (omega arith) ∙ ap f e

  pub table_at : (n : ℕ) (f : ℕ → A) (d : A) (j : ℕ) → j < n → get_or (table n f) j d ≡ f j
  unfolding table entries
  table_at n f d j h = let e : 0 + j ≡ j = omega arith in entries_at 0 n f d j h ∙ ap f e
