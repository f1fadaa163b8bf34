-- What holds after a fold: where each turn keeps it, and where one turn brings it about. Assumes nothing.
use Rattle.std.specs.Prelude.{◌≡◌, ◌≢◌, ◌⊎◌, ◌∷◌}
use Rattle.whole.specs.Plain.{ℕ, refl, sym, inl, inr, List, [], Mem-not_nil, Mem-cases_cons}
use Rattle.whole.specs.Plain.{ℕ_discrete, fold}
use Rattle.whole.specs.Members.{Among, top, below}

module _ {A B : Type 0} (f : B → A → B) (P : B → Type 0) where
  pub fold_keep : (l : List A) → ((b : B) (a : A) → Among a l → P b → P (f b a)) → (b : B) → P b → P (fold f b l)
  unfolding fold
  fold_keep [] h b p = p
  fold_keep (a ∷ l) h b p = fold_keep l (λ c x m q. h c x (below m) q) (f b a) (h b a (top refl) p)

  -- I is what every turn finds
  pub fold_reach : (I : B → Type 0) → ((b : B) (a : A) → I b → I (f b a)) → (l : List A) {x : A} → Among x l → ((b : B) (a : A) → Among a l → P b → P (f b a)) → ((b : B) → I b → P (f b x))
      → (b : B) → I b → P (fold f b l)
  unfolding fold
  fold_reach I stay [] m keep reach b i = absurd (Mem-not_nil m)
  fold_reach I stay (a ∷ l) {x} m keep reach b i = go (Mem-cases_cons m) (λ q. fold_reach I stay l q (λ c y n p. keep c y (below n) p) reach (f b a) (stay b a i))
    where
      go : (x ≡ a) ⊎ Among x l → (Among x l → P (fold f (f b a) l)) → P (fold f (f b a) l)
      go (inl e) later = fold_keep l (λ c y n p. keep c y (below n) p) (f b a) (rw e at (reach b i))
      go (inr q) later = later q

-- the same, where each turn before the first of x leaves what that one finds
module _ {B : Type 0} (f : B → ℕ → B) (P I : B → Type 0) (x : ℕ) where
  pub fold_first : (l : List ℕ) → Among x l → ((b : B) (a : ℕ) → Among a l → a ≢ x → I b → I (f b a)) → ((b : B) (a : ℕ) → Among a l → P b → P (f b a)) → ((b : B) → I b → P (f b x))
      → (b : B) → I b → P (fold f b l)
  unfolding fold
  fold_first [] m stay keep reach b i = absurd (Mem-not_nil m)
  fold_first (a ∷ l) m stay keep reach b i =
      go (ℕ_discrete a x) (Mem-cases_cons m) (λ q n. fold_first l q (λ c y p. stay c y (below p)) (λ c y p. keep c y (below p)) reach (f b a) (stay b a (top refl) n i))
    where
      go : Dec (a ≡ x) → (x ≡ a) ⊎ Among x l → (Among x l → a ≢ x → P (fold f (f b a) l)) → P (fold f (f b a) l)
      go (yes e) q later = fold_keep f P l (λ c y n p. keep c y (below n) p) (f b a) (rw e (reach b i))
      go (no n) (inl e) later = absurd (n (sym e))
      go (no n) (inr q) later = later q n
