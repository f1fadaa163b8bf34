-- Those of some numbers that pass, each as a line: one number more, and the same by tests and lines that agree. Assumes nothing.
use Rattle.std.specs.Prelude.{◌+◌, ◌-◌, ◌≤◌, ◌<◌, ◌≡◌, ◌∷◌, ◌++◌}
use Rattle.whole.specs.Plain.{ℕ, zero, suc, refl, ap, ◌∙◌, Bool, true, false, cond, List, []}
use Rattle.whole.specs.Plain.{map, length, length-map, length-append, arith, numbers, keep, count}
use Rattle.whole.specs.Folds.{numbers_more, numbers_append, keep_append, map_append, length_keep, count_append}
use Rattle.plan_lay.specs.Grown.{Grown, Put, grown_none, grown_put}

module _ {A : Type 0} where
  unfoldable pub listed : (ℕ → Bool) → (ℕ → A) → ℕ → ℕ → List A
  listed p x s n = map x (keep p (numbers s n))

  module _ (p : ℕ → Bool) (x : ℕ → A) (s : ℕ) where
    listed_more : (n : ℕ) → listed p x s (n + 1) ≡ listed p x s n ++ cond (p (s + n)) (x (s + n) ∷ []) []
    unfolding listed keep
    listed_more n = rw (numbers_more s n, keep_append, map_append) (ap (λ (t : List A). map x (keep p (numbers s n)) ++ t) (by (p (s + n))))
      where
        by : (b : Bool) → map x (cond b ((s + n) ∷ []) []) ≡ cond b (x (s + n) ∷ []) []
        by true = refl
        by false = refl

    pub length_listed : (n : ℕ) → length (listed p x s n) ≡ count p (numbers s n)
    unfolding listed
    length_listed n = length-map (keep p (numbers s n)) x ∙ length_keep p (numbers s n)

    listed_grows : (n k : ℕ) → n ≤ k → length (listed p x s n) ≤ length (listed p x s k)
    listed_grows n k h =
        let e : k ≡ n + (k - n) = omega arith in
        let c = ap (λ (j : ℕ). count p (numbers s j)) e ∙ ap (count p) (numbers_append s n (k - n)) ∙ count_append p (numbers s n) (numbers (s + n) (k - n)) in
        omega (arith, c, length_listed n, length_listed k)

    -- ---- as lines behind what stands in a table
    module _ {before : List A} {f : ℕ} where
      pub gathered_none : f ≤ length before → Grown before f (listed p x s 0) f before
      unfolding listed keep numbers
      gathered_none h = grown_none before f h

      -- the next is j
      module _ {n all m : ℕ} {after : List A} (g : Grown before f (listed p x s n) m after) (h : n < all) (fits : f + length (listed p x s all) ≤ length before) (j : ℕ) (next : s + n ≡ j) where
        more : listed p x s (n + 1) ≡ listed p x s n ++ cond (p j) (x j ∷ []) []
        more = rw next at (listed_more n)

        -- there is room for one that passes
        pub gathered_room : p j ≡ true → m < length after
        gathered_room e =
            let l : length (listed p x s (n + 1)) ≡ length (listed p x s n) + 1 = rw (more, e) (length-append (listed p x s n) (x j ∷ [])) in
            omega (arith, g.count, g.long, listed_grows (n + 1) all (omega arith))

        pub gathered_more : {t : ℕ} {after' : List A} → Put (p j) (x j) m after t after' → Grown before f (listed p x s (n + 1)) t after'
        gathered_more q = rw more (grown_put g (λ e. rw (← g.long) (gathered_room e)) q)

  -- ---- tests and lines that agree
  pub listed_same : (p q : ℕ → Bool) (x y : ℕ → A) (s n : ℕ) → ((i : ℕ) → s ≤ i → i < s + n → p i ≡ q i) → ((i : ℕ) → s ≤ i → i < s + n → q i ≡ true → x i ≡ y i) → listed p x s n ≡ listed q y s n
  unfolding listed keep numbers
  listed_same p q x y s zero h k = refl
  listed_same p q x y s (suc n) h k =
      rw (h s (omega arith) (omega arith)) (by (q s) refl (listed_same p q x y (suc s) n (λ i l u. h i (omega arith) (omega arith)) (λ i l u. k i (omega arith) (omega arith))))
    where
      by : (b : Bool) → q s ≡ b → map x (keep p (numbers (suc s) n)) ≡ map y (keep q (numbers (suc s) n))
          → map x (cond b (s ∷ keep p (numbers (suc s) n)) (keep p (numbers (suc s) n))) ≡ map y (cond b (s ∷ keep q (numbers (suc s) n)) (keep q (numbers (suc s) n)))
      by true e r = rw (k s (omega arith) (omega arith) e, r)
      by false e r = r
