-- What stands in a list: in a list of numbers, in what is kept, in a map; the first that passes. Assumes nothing.
use Rattle.std.specs.Prelude.{◌+◌, ◌≤◌, ◌<◌, ◌≡◌, ◌⊎◌, ◌∷◌}
use Rattle.whole.specs.Plain.{ℕ, zero, suc, refl, sym, ap, ◌∙◌, inl, inr, Bool, true}
use Rattle.whole.specs.Plain.{false, cond, true≢false, List, [], map, Mem, Mem-head}
use Rattle.whole.specs.Plain.{Mem-tail, Mem-cases_cons, Mem-not_nil, length, get_or, ℕ_discrete}
use Rattle.whole.specs.Plain.{arith, keep, numbers, first}

abbrev pub Among : {A : Type 0} → A → List A → Type 0
Among a l = Mem a l

pub top : {A : Type 0} {a b : A} {l : List A} → a ≡ b → Among a (b ∷ l)
top e = Mem-head e

pub below : {A : Type 0} {a b : A} {l : List A} → Among a l → Among a (b ∷ l)
below i = Mem-tail i

module _ {A : Type 0} where
  pub among_at : (l : List A) (i : ℕ) (d : A) → i < length l → Among (get_or l i d) l
  among_at [] i d h = absurd (omega arith)
  among_at (a ∷ l) zero d h = top refl
  among_at (a ∷ l) (suc i) d h = below (among_at l i d (omega arith))

  -- what is kept stood there and passes, and back
  pub record Kept (p : A → Bool) (l : List A) (a : A) : Type 0 where
    pub among : Among a l
    pub passes : p a ≡ true

  pub among_keep : (p : A → Bool) (l : List A) {a : A} → Among a l → p a ≡ true → Among a (keep p l)
  unfolding keep
  among_keep p [] i e = absurd (Mem-not_nil i)
  among_keep p (b ∷ l) {a} i e = go (p b) refl (Mem-cases_cons i) (λ j. among_keep p l j e)
    where
      go : (t : Bool) → p b ≡ t → (a ≡ b) ⊎ Among a l → (Among a l → Among a (keep p l)) → Among a (cond t (b ∷ keep p l) (keep p l))
      go true f (inl q) more = top q
      go true f (inr j) more = below (more j)
      go false f (inl q) more = absurd (true≢false (sym e ∙ ap p q ∙ f))
      go false f (inr j) more = more j

  pub keep_among : (p : A → Bool) (l : List A) {a : A} → Among a (keep p l) → Kept p l a
  unfolding keep
  keep_among p [] i = absurd (Mem-not_nil i)
  keep_among p (b ∷ l) {a} i = go (p b) refl i (λ j. keep_among p l j)
    where
      deeper : Kept p l a → Kept p (b ∷ l) a
      deeper k = record { among = below k.among; passes = k.passes }

      head : p b ≡ true → (a ≡ b) ⊎ Among a (keep p l) → (Among a (keep p l) → Kept p l a) → Kept p (b ∷ l) a
      head f (inl q) more = record { among = top q; passes = ap p q ∙ f }
      head f (inr j) more = deeper (more j)

      go : (t : Bool) → p b ≡ t → Among a (cond t (b ∷ keep p l) (keep p l)) → (Among a (keep p l) → Kept p l a) → Kept p (b ∷ l) a
      go true f j more = head f (Mem-cases_cons j) more
      go false f j more = deeper (more j)

-- what holds of each
unfoldable pub All : {A : Type 0} → (A → Type 0) → List A → Type 0
All P [] = Unit {0}
All P (a ∷ l) = P a × All P l

pub all_among : {A : Type 0} (P : A → Type 0) (l : List A) → All P l → {a : A} → Among a l → P a
unfolding All
all_among P [] ps i = absurd (Mem-not_nil i)
all_among P (b ∷ l) ps {a} i = go (Mem-cases_cons i) (λ j. all_among P l ps.1 j)
  where
    go : (a ≡ b) ⊎ Among a l → (Among a l → P a) → P a
    go (inl e) more = rw e ps.0
    go (inr j) more = more j

module _ {A B : Type 0} where
  pub among_map : (f : A → B) (l : List A) {a : A} → Among a l → Among (f a) (map f l)
  among_map f [] i = absurd (Mem-not_nil i)
  among_map f (b ∷ l) {a} i = go (Mem-cases_cons i) (λ j. among_map f l j)
    where
      go : (a ≡ b) ⊎ Among a l → (Among a l → Among (f a) (map f l)) → Among (f a) (f b ∷ map f l)
      go (inl q) more = top (ap f q)
      go (inr j) more = below (more j)

  -- what an element of a map was
  pub record Came (f : A → B) (l : List A) (b : B) : Type 0 where
    pub source : A
    pub among : Among source l
    pub gives : b ≡ f source

  pub map_among : (f : A → B) (l : List A) {b : B} → Among b (map f l) → Came f l b
  map_among f [] i = absurd (Mem-not_nil i)
  map_among f (a ∷ l) {b} i = go (Mem-cases_cons i) (λ j. map_among f l j)
    where
      go : (b ≡ f a) ⊎ Among b (map f l) → (Among b (map f l) → Came f l b) → Came f (a ∷ l) b
      go (inl q) more = record { source = a; among = top refl; gives = q }
      go (inr j) more = let c = more j in record { source = c.source; among = below c.among; gives = c.gives }

-- ---- i, i + 1, ..
pub among_numbers : (i n : ℕ) {x : ℕ} → i ≤ x → x < i + n → Among x (numbers i n)
unfolding numbers
among_numbers i zero h k = absurd (omega arith)
among_numbers i (suc n) {x} h k = elim (ℕ_discrete x i) as (λ _. (suc i ≤ x → x < suc i + n → Among x (numbers (suc i) n)) → Among x (i ∷ numbers (suc i) n)) [
  | yes q ↦ λ more. top q
  | no q ↦ λ more. below (more (omega arith) (omega arith))
] (λ u v. among_numbers (suc i) n u v)

pub numbers_among : (i n : ℕ) {x : ℕ} → Among x (numbers i n) → (i ≤ x) × (x < i + n)
unfolding numbers
numbers_among i zero a = absurd (Mem-not_nil a)
numbers_among i (suc n) {x} a = go (Mem-cases_cons a) (λ j. numbers_among (suc i) n j)
  where
    go : (x ≡ i) ⊎ Among x (numbers (suc i) n) → (Among x (numbers (suc i) n) → (suc i ≤ x) × (x < suc i + n)) → (i ≤ x) × (x < i + suc n)
    go (inl q) more = omega arith
    go (inr j) more = let b = more j in omega arith

-- ---- the first that passes
pub first_among : (p : ℕ → Bool) (l : List ℕ) {n : ℕ} → first p l ≡ suc n → Among (suc n) l × (p (suc n) ≡ true)
unfolding first
first_among p [] e = absurd (omega arith)
first_among p (m ∷ l) {n} e = elim (p m) as (λ t. p m ≡ t → cond t m (first p l) ≡ suc n → (first p l ≡ suc n → Among (suc n) l × (p (suc n) ≡ true)) → Among (suc n) (m ∷ l) × (p (suc n) ≡ true)) [
  | true ↦ λ f q more. (top (sym q), rw (← q) f)
  | false ↦ λ f q more. let r = more q in (below r.0, r.1)
] refl e (λ f. first_among p l f)
