-- What a leg finds in a visit: a node of its own that is not reached, beside one that is. Assumes nothing.
use Rattle.std.specs.Prelude.{◌≤◌, ◌≡◌, ◌⊎◌}
use Rattle.whole.specs.Plain.{ℕ, refl, sym, ap, ◌∙◌, inl, inr, Bool, true, false, cond, false≢true, List, eqb}
use Rattle.whole.specs.Plain.{get_or, set, get_or-set_other, eqb-true, eq-eqb, arith}
use Rattle.paper.specs.Legs.{Leg}
use Rattle.paper.specs.Floating.{conducting}
use Rattle.step_floating.specs.Search.{seen, reaches, meets, finds}

pub record Found (l : Leg) (m : List ℕ) (x : ℕ) : Type 0 where
  pub conducts : conducting l ≡ true
  pub unreached : get_or m x 0 ≡ x
  pub ends : ((x ≡ l.far) × (get_or m l.near 0 ≡ 0)) ⊎ ((x ≡ l.near) × (get_or m l.far 0 ≡ 0))

pub found_end : {l : Leg} {m : List ℕ} {x e : ℕ} → l.near ≤ e → l.far ≤ e → Found l m x → x ≤ e
found_end near far f = elim f.ends [ inl q ↦ omega arith | inr q ↦ omega arith ]

module _ (l : Leg) (m : List ℕ) where
  found : ((n : ℕ) → (get_or m n 0 ≡ 0) ⊎ (get_or m n 0 ≡ n)) → {x : ℕ} → reaches l m ≡ x → (x ≡ 0 → ⊥) → Found l m x
  unfolding reaches
  found own {x} e some = go (conducting l) refl (seen m l.near) refl (seen m l.far) refl e
    where
      named : {n : ℕ} → get_or m n 0 ≡ x → (x ≡ n) × (get_or m x 0 ≡ x)
      named {n} q = elim (own n) [ inl z ↦ absurd (some (sym q ∙ z)) | inr z ↦ (sym q ∙ z, ap (λ (k : ℕ). get_or m k 0) (sym q ∙ z) ∙ q) ]

      go : (c : Bool) → conducting l ≡ c → (a : Bool) → seen m l.near ≡ a → (b : Bool) → seen m l.far ≡ b
          → cond c (cond a (get_or m l.far 0) (cond b (get_or m l.near 0) 0)) 0 ≡ x → Found l m x
      go true c true a b f q = let k = named q in record { conducts = c; unreached = k.1; ends = inl (k.0, eqb-true (get_or m l.near 0) 0 a) }
      go true c false a true b q = let k = named q in record { conducts = c; unreached = k.1; ends = inr (k.0, eqb-true (get_or m l.far 0) 0 b) }
      go true c false a false b q = absurd (some (sym q))
      go false c a p b f q = absurd (some (sym q))

  -- a leg that conducts and reaches nothing
  pub reaches_not : reaches l m ≡ 0 → conducting l ≡ true → seen m l.near ≡ seen m l.far
  unfolding reaches
  reaches_not e c = go (seen m l.near) refl (seen m l.far) refl (rw c at e)
    where
      go : (a : Bool) → seen m l.near ≡ a → (b : Bool) → seen m l.far ≡ b → cond a (get_or m l.far 0) (cond b (get_or m l.near 0) 0) ≡ 0 → a ≡ b
      go true p true q z = refl
      go true p false q z = sym (sym q ∙ eq-eqb (get_or m l.far 0) 0 z)
      go false p true q z = sym p ∙ eq-eqb (get_or m l.near 0) 0 z
      go false p false q z = refl

-- ---- the legs of a visit
module _ (l : Leg) (n : ℕ) where
  meets_near : l.near ≡ n → meets l n ≡ true
  unfolding meets
  meets_near e = rw (eq-eqb l.near n e) (elim (eqb n 0) as (λ b. cond b true true ≡ true) [ true ↦ refl | false ↦ refl ])

  meets_far : l.far ≡ n → meets l n ≡ true
  unfolding meets
  meets_far e = rw (eq-eqb l.far n e) (go (eqb n 0) (eqb l.near n))
    where
      go : (a b : Bool) → cond a true (cond b true true) ≡ true
      go true b = refl
      go false true = refl
      go false false = refl

  pub meets_found : (m : List ℕ) → Found l m n → meets l n ≡ true
  meets_found m f = elim f.ends [ inl e ↦ meets_far (sym e.0) | inr e ↦ meets_near (sym e.0) ]

  -- to be marked changes nothing for a leg elsewhere
  pub reaches_other : (m : List ℕ) → meets l n ≡ false → reaches l (set m n 0) ≡ reaches l m
  unfolding reaches
  reaches_other m e =
      rw (get_or-set_other m n l.near 0 0 (λ q. false≢true (sym e ∙ meets_near q)), get_or-set_other m n l.far 0 0 (λ q. false≢true (sym e ∙ meets_far q)))

  pub finds_met : (m : List ℕ) → meets l n ≡ true → finds l n m ≡ reaches l m
  unfolding finds
  finds_met m e = rw e

  pub finds_found : (m : List ℕ) → ((k : ℕ) → (get_or m k 0 ≡ 0) ⊎ (get_or m k 0 ≡ k)) → {x : ℕ} → x ≡ finds l n m → (x ≡ 0 → ⊥) → Found l m x
  unfolding finds
  finds_found m own {x} e some = go (meets l n) e
    where
      go : (b : Bool) → x ≡ cond b (reaches l m) 0 → Found l m x
      go true q = found l m own (sym q) some
      go false q = absurd (some q)
