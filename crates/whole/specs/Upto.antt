-- A list that has f k at each place k below n: what a loop that writes place by place has done so far. Assumes nothing.
use Rattle.std.specs.Prelude.{◌+◌, ◌<◌, ◌≡◌, ◌∷◌}
use Rattle.whole.specs.Plain.{ℕ, zero, suc, refl, ◌∙◌, List, [], length, get_or, set}
use Rattle.whole.specs.Plain.{get_or-set_same, get_or-set_other, ℕ_discrete, arith}

module _ {A : Type 0} where
  pub record Upto (d : A) (f : ℕ → A) (n : ℕ) (l : List A) : Type 0 where
    pub at : (k : ℕ) → k < n → get_or l k d ≡ f k

  pub upto_none : (d : A) (f : ℕ → A) (l : List A) → Upto d f 0 l
  upto_none d f l = record { at = λ k h. absurd (omega arith) }

  pub upto_next : (d : A) (f : ℕ → A) (n : ℕ) (l : List A) (x : A) → n < length l → x ≡ f n → Upto d f n l → Upto d f (n + 1) (set l n x)
  upto_next d f n l x h e u = record { at = place }
    where
      place : (k : ℕ) → k < n + 1 → get_or (set l n x) k d ≡ f k
      place k q = elim (ℕ_discrete k n) [ yes p ↦ rw p (get_or-set_same l n x d h ∙ e) | no p ↦ get_or-set_other l n k x d p ∙ u.at k (omega arith) ]

  -- within a list, what stands past its end does not matter
  pub any_default : (l : List A) (n : ℕ) (d e : A) → n < length l → get_or l n d ≡ get_or l n e
  any_default [] n d e h = absurd (omega arith)
  any_default (x ∷ l) zero d e h = refl
  any_default (x ∷ l) (suc n) d e h = any_default l n d e (omega arith)
