-- Sums of whole numbers over a list: of append, of map, one more place. Assumes nothing.
use Rattle.std.specs.Prelude.{◌+◌, ◌<◌, ◌≡◌, ◌∷◌, ◌++◌, ◌+ℤ◌}
use Rattle.whole.specs.Plain.{ℕ, refl, sym, ap, List, [], map, ℤ, +ℤ_assoc}
use Rattle.whole.specs.Plain.{+ℤ_idl, +ℤ_idr, length, get_or, take, take-suc, z, total}
use Rattle.std.proofs.Common.{add-one}

module _ {A : Type 0} where
  pub total_append : (f : A → ℤ) (l m : List A) → total f (l ++ m) ≡ total f l +ℤ total f m
  unfolding total
  total_append f [] m = sym (+ℤ_idl (total f m))
  total_append f (a ∷ l) m = rw (total_append f l m) (sym (+ℤ_assoc (f a) (total f l) (total f m)))

  pub total_cong : (f g : A → ℤ) (l : List A) → ((a : A) → f a ≡ g a) → total f l ≡ total g l
  unfolding total
  total_cong f g [] h = refl
  total_cong f g (a ∷ l) h = rw (h a, total_cong f g l h)

  pub total_zero : (f : A → ℤ) (l : List A) → ((a : A) → f a ≡ z) → total f l ≡ z
  unfolding total
  total_zero f [] h = refl
  total_zero f (a ∷ l) h = rw (h a, total_zero f l h)

  total_one : (f : A → ℤ) (s : ℤ) (a : A) → s +ℤ total f (a ∷ []) ≡ s +ℤ f a
  unfolding total
  total_one f s a = ap (λ (x : ℤ). s +ℤ x) (+ℤ_idr (f a))

  pub total_next : (f : A → ℤ) (l : List A) (i : ℕ) (d : A) → i < length l → total f (take (i + 1) l) ≡ total f (take i l) +ℤ f (get_or l i d)
  total_next f l i d h = rw (add-one i, take-suc l i d, total_append) (total_one f (total f (take i l)) (get_or l i d))

pub total_map : {A B : Type 0} (g : B → ℤ) (f : A → B) (l : List A) → total g (map f l) ≡ total (λ a. g (f a)) l
unfolding total
total_map g f [] = refl
total_map g f (a ∷ l) = rw (total_map g f l)
