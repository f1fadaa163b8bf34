-- Marks by node: the first ones, what a node reached changes, and how many are left. Assumes nothing.
use Rattle.std.specs.Prelude.{◌+◌, ◌≤◌, ◌<◌, ◌≡◌, ◌⊎◌, ◌&&◌, ◌∷◌}
use Rattle.whole.specs.Plain.{ℕ, zero, suc, refl, sym, ap, ◌∙◌, inl, inr, Bool, true, false, cond, not}
use Rattle.whole.specs.Plain.{List, [], eqb, length, get_or, set, length-set, replicate, get_or-replicate}
use Rattle.whole.specs.Plain.{ext_get_or, get_or-eq_default, ne_eqb, dec_lt, arith, numbers, fold, any, count}
use Rattle.whole.specs.Folds.{fold_keeps, count_le, get_d_map, get_d_numbers, length_numbers}
use Rattle.whole.specs.Written.{fold_set}
use Rattle.paper.specs.Limits as Limits
use Rattle.paper.specs.Floating.{marks}
use Rattle.laws_paths.specs.Paths.{set_cases}
use Rattle.laws_paths.specs.Meaning.{marks_length}
use Rattle.step_floating.specs.Search.{loose, unseen}

-- ---- all reached, then the free nodes numbered one by one
abbrev pub put : List ℕ → ℕ → List ℕ
put m n = set m n n

abbrev none : List ℕ
none = replicate (suc Limits.node_end) 0

marks_at : (free : List ℕ) (n : ℕ) → n < suc Limits.node_end → get_or (marks (loose free) Limits.node_end) n 0 ≡ cond (loose free n) 0 n
unfolding marks
marks_at free n h =
    let e : 0 + n ≡ n = omega arith in
    let l : n < length (numbers 0 (suc Limits.node_end)) = rw (length_numbers 0 (suc Limits.node_end)) h in
    get_d_map (λ m. cond (loose free m) 0 m) (numbers 0 (suc Limits.node_end)) n 0 0 l
    ∙ ap (λ (m : ℕ). cond (loose free m) 0 m) (get_d_numbers 0 (suc Limits.node_end) n 0 h ∙ e)

pub marks_free : (free : List ℕ) → fold put none free ≡ marks (loose free) Limits.node_end
unfolding loose
marks_free free = ext_get_or 0 (fold put none free) (marks (loose free) Limits.node_end) (long ∙ sym (marks_length (loose free) Limits.node_end)) (λ n h. at n (omega (arith, long)))
  where
    long : length (fold put none free) ≡ suc Limits.node_end
    long = fold_keeps (λ m. length m ≡ suc Limits.node_end) put (λ m n e. length-set m n n ∙ e) none free refl

    either : (b : Bool) (n : ℕ) → cond (b && true) n 0 ≡ cond (not b) 0 n
    either true n = refl
    either false n = refl

    at : (n : ℕ) → n < suc Limits.node_end → get_or (fold put none free) n 0 ≡ get_or (marks (loose free) Limits.node_end) n 0
    at n h =
        fold_set (λ m. true) (λ m. m) none free n 0 h
        ∙ ap (λ (d : ℕ). cond (any (λ m. eqb m n) free && true) n d) (get_or-replicate (suc Limits.node_end) n 0 0 h)
        ∙ either (any (λ m. eqb m n) free) n
        ∙ sym (marks_at free n h)

-- a node that is not reached has its number
pub marks_own : (free : List ℕ) (n : ℕ) → (get_or (marks (loose free) Limits.node_end) n 0 ≡ 0) ⊎ (get_or (marks (loose free) Limits.node_end) n 0 ≡ n)
marks_own free n =
    elim (dec_lt n (suc Limits.node_end)) [
      | yes h ↦ rw (marks_at free n h) (elim (loose free n) as (λ b. (cond b 0 n ≡ 0) ⊎ (cond b 0 n ≡ n)) [ true ↦ inl refl | false ↦ inr refl ])
      | no h ↦ inl (get_or-eq_default (marks (loose free) Limits.node_end) 0 (rw marks_length (omega arith)))
    ]

-- ---- nodes marked 0
pub zero_any : (m : List ℕ) (n d : ℕ) → get_or m n d ≡ 0 → get_or m n 0 ≡ 0
zero_any [] n d e = refl
zero_any (x ∷ m) zero d e = e
zero_any (x ∷ m) (suc n) d e = zero_any m n d e

module _ (m : List ℕ) (i : ℕ) where
  pub zero_set : (n : ℕ) → get_or m n 0 ≡ 0 → get_or (set m i 0) n 0 ≡ 0
  zero_set n e = elim (set_cases m i 0 n 0) [ inl p ↦ p.1 | inr p ↦ p ∙ e ]

  -- what holds of i and of the nodes marked 0 before
  pub set_zero : (P : ℕ → Type 0) → P i → ((n : ℕ) → get_or m n 0 ≡ 0 → P n) → (n : ℕ) → get_or (set m i 0) n 0 ≡ 0 → P n
  set_zero P p h n e = elim (set_cases m i 0 n 0) [ inl q ↦ rw (← q.0) p | inr q ↦ h n (sym q ∙ e) ]

-- ---- how many are not
pub unseen_most : (m : List ℕ) → unseen m ≤ length m
unseen_most m = count_le (λ x. not (eqb x 0)) m

pub unseen_set : (m : List ℕ) (n : ℕ) → (get_or m n 0 ≡ 0 → ⊥) → unseen (set m n 0) + 1 ≡ unseen m
unfolding count
unseen_set [] n e = absurd (e refl)
unseen_set (x ∷ m) zero e = rw (ne_eqb x 0 e) (omega arith)
unseen_set (x ∷ m) (suc n) e = omega (arith, unseen_set m n e)
