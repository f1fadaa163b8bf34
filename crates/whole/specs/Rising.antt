-- Rising lists of numbers, in which the first that passes a test is the lowest that does. Assumes nothing.
use Rattle.std.specs.Prelude.{◌≤◌, ◌<◌, ◌≡◌, ◌⊎◌, ◌∷◌}
use Rattle.whole.specs.Plain.{ℕ, zero, suc, refl, sym, inl, inr, Bool, true, false, cond}
use Rattle.whole.specs.Plain.{List, [], Mem-cases_cons, Mem-not_nil, arith, keep, numbers, first}
use Rattle.whole.specs.Members.{Among, top, below}

-- each is over b, and over the one before it
abbrev pub Rising : ℕ → List ℕ → Type 0
Rising b [] = Unit {0}
Rising b (x ∷ l) = (b < x) × Rising x l

pub rising_from : (b c : ℕ) (l : List ℕ) → c ≤ b → Rising b l → Rising c l
rising_from b c [] h r = tt
rising_from b c (x ∷ l) h r = (omega (arith, r.0), r.1)

pub rising_numbers : (i n : ℕ) → Rising i (numbers (suc i) n)
unfolding numbers
rising_numbers i zero = tt
rising_numbers i (suc n) = (omega arith, rising_numbers (suc i) n)

pub rising_keep : (p : ℕ → Bool) (b : ℕ) (l : List ℕ) → Rising b l → Rising b (keep p l)
unfolding keep
rising_keep p b [] r = tt
rising_keep p b (x ∷ l) r = elim (p x) as (λ t. Rising x (keep p l) → Rising b (cond t (x ∷ keep p l) (keep p l))) [
  | true ↦ λ q. (r.0, q)
  | false ↦ λ q. rising_from x b (keep p l) (omega (arith, r.0)) q
] (rising_keep p x l r.1)

pub rising_over : (b : ℕ) (l : List ℕ) {x : ℕ} → Rising b l → Among x l → b < x
rising_over b [] r i = absurd (Mem-not_nil i)
rising_over b (y ∷ l) {x} r i = go (Mem-cases_cons i) (λ j. rising_over y l r.1 j)
  where
    go : (x ≡ y) ⊎ Among x l → (Among x l → y < x) → b < x
    go (inl e) more = omega (arith, r.0)
    go (inr j) more = omega (arith, r.0, more j)

-- n stands in the list, passes, and none lower does
pub record Lowest (p : ℕ → Bool) (l : List ℕ) (n : ℕ) : Type 0 where
  pub among : Among n l
  pub passes : p n ≡ true
  pub none : (m : ℕ) → Among m l → m < n → p m ≡ false

pub lowest_first : (p : ℕ → Bool) (b : ℕ) (l : List ℕ) {n : ℕ} → Rising b l → Lowest p l n → first p l ≡ n
unfolding first
lowest_first p b [] r w = absurd (Mem-not_nil w.among)
lowest_first p b (x ∷ l) {n} r w = go (Mem-cases_cons w.among) (λ v. lowest_first p x l r.1 v)
  where
    go : (n ≡ x) ⊎ Among n l → (Lowest p l n → first p l ≡ n) → cond (p x) x (first p l) ≡ n
    go (inl e) more = rw (← e, w.passes)
    go (inr j) more =
        rw (w.none x (top refl) (rising_over x l r.1 j))
        (more (record { among = j; passes = w.passes; none = λ m i h. w.none m (below i) h }))

pub first_lowest : (p : ℕ → Bool) (b : ℕ) (l : List ℕ) {n : ℕ} → Rising b l → first p l ≡ suc n → Lowest p l (suc n)
unfolding first
first_lowest p b [] r e = absurd (omega arith)
first_lowest p b (x ∷ l) {n} r e = go (p x) refl e (λ q. first_lowest p x l r.1 q)
  where
    lower : x ≡ suc n → (m : ℕ) → (m ≡ x) ⊎ Among m l → m < suc n → ⊥
    lower q m (inl i) h = omega arith
    lower q m (inr i) h = let o = rising_over x l r.1 i in omega arith

    passed : p x ≡ false → ((m : ℕ) → Among m l → m < suc n → p m ≡ false) → (m : ℕ) → (m ≡ x) ⊎ Among m l → m < suc n → p m ≡ false
    passed f more m (inl i) h = rw i f
    passed f more m (inr i) h = more m i h

    go : (t : Bool) → p x ≡ t → cond t x (first p l) ≡ suc n → (first p l ≡ suc n → Lowest p l (suc n)) → Lowest p (x ∷ l) (suc n)
    go true f q more = record { among = top (sym q); passes = rw (← q) f; none = λ m i h. absurd (lower q m (Mem-cases_cons i) h) }
    go false f q more = let w = more q in record { among = below w.among; passes = w.passes; none = λ m i h. passed f w.none m (Mem-cases_cons i) h }
