-- More laws of counted loops: split, kept, seen through a function, written place by place. Assumes nothing.
use Rattle.std.specs.Prelude.{◌+◌, ◌-◌, ◌<◌, ◌≤◌, ◌≡◌}
use Rattle.whole.specs.Plain.{ℕ, zero, suc, refl, ap, ◌∙◌, Bool, true, false, List, ltb}
use Rattle.whole.specs.Plain.{length, get_or, set, length-set, get_or-set_same, get_or-set_other, ltb-true, ltb-false}
use Rattle.whole.specs.Plain.{arith, fold, numbers}
use Rattle.whole.specs.Turns.{run, turns, downs}

module _ {A : Type 0} where
  run_next : (k i : ℕ) (f : ℕ → A → A) (a : A) → run (suc k) i f a ≡ f (i + k) (run k i f a)
  unfolding run
  run_next zero i f a = let e : i + 0 ≡ i = omega arith in rw e
  run_next (suc k) i f a = let e : i + suc k ≡ suc i + k = omega arith in rw e (run_next k (suc i) f (f i a))

  run_join : (k m i : ℕ) (f : ℕ → A → A) (a : A) → run (k + m) i f a ≡ run m (i + k) f (run k i f a)
  unfolding run
  run_join zero m i f a =
      let e : i + 0 ≡ i = omega arith in
      let g : 0 + m ≡ m = omega arith in
      rw (e, g)
  run_join (suc k) m i f a =
      let e : i + suc k ≡ suc i + k = omega arith in
      let g : suc k + m ≡ suc (k + m) = omega arith in
      rw (e, g) (run_join k m (suc i) f (f i a))

  -- the last turn, and the turns before and after m
  pub turns_last : (i n : ℕ) (f : ℕ → A → A) (a : A) → i ≤ n → turns i (n + 1) f a ≡ f n (turns i n f a)
  unfolding turns
  turns_last i n f a h =
      let e : n + 1 - i ≡ suc (n - i) = omega arith in
      let g : i + (n - i) ≡ n = omega arith in
      rw e (run_next (n - i) i f a ∙ ap (λ (j : ℕ). f j (run (n - i) i f a)) g)

  pub turns_join : (i m n : ℕ) (f : ℕ → A → A) (a : A) → i ≤ m → m ≤ n → turns i n f a ≡ turns m n f (turns i m f a)
  unfolding turns
  turns_join i m n f a h k =
      let e : n - i ≡ (m - i) + (n - m) = omega arith in
      let g : i + (m - i) ≡ m = omega arith in
      rw e (run_join (m - i) (n - m) i f a ∙ ap (λ (j : ℕ). run (n - m) j f (run (m - i) i f a)) g)

  run_keeps : (P : A → Type 0) (f : ℕ → A → A) (k i : ℕ) → ((j : ℕ) (x : A) → i ≤ j → j < i + k → P x → P (f j x)) → (a : A) → P a → P (run k i f a)
  unfolding run
  run_keeps P f zero i h a p = p
  run_keeps P f (suc k) i h a p =
      run_keeps P f k (suc i) (λ j x lo hi q. h j x (omega arith) (omega arith) q) (f i a) (h i a (omega arith) (omega arith) p)

  -- what every turn keeps
  pub turns_keeps : (P : A → Type 0) (i n : ℕ) (f : ℕ → A → A) → ((j : ℕ) (x : A) → i ≤ j → j < n → P x → P (f j x)) → (a : A) → P a → P (turns i n f a)
  unfolding turns
  turns_keeps P i n f h a p = run_keeps P f (n - i) i (λ j x lo hi q. h j x lo (omega arith) q) a p

  run_cong : (f g : ℕ → A → A) (k i : ℕ) (a : A) → ((j : ℕ) (x : A) → i ≤ j → j < i + k → f j x ≡ g j x) → run k i f a ≡ run k i g a
  unfolding run
  run_cong f g zero i a h = refl
  run_cong f g (suc k) i a h =
      ap (λ (x : A). run k (suc i) f x) (h i a (omega arith) (omega arith)) ∙ run_cong f g k (suc i) (g i a) (λ j x lo hi. h j x (omega arith) (omega arith))

  -- turns that agree one by one
  pub turns_cong : (i n : ℕ) (f g : ℕ → A → A) (a : A) → ((j : ℕ) (x : A) → i ≤ j → j < n → f j x ≡ g j x) → turns i n f a ≡ turns i n g a
  unfolding turns
  turns_cong i n f g a h = run_cong f g (n - i) i a (λ j x lo hi. h j x lo (omega arith))

  -- as a fold over the numbers
  run_fold : (k i : ℕ) (f : ℕ → A → A) (a : A) → run k i f a ≡ fold (λ x j. f j x) a (numbers i k)
  unfolding run fold numbers
  run_fold zero i f a = refl
  run_fold (suc k) i f a = run_fold k (suc i) f (f i a)

  pub turns_fold : (i n : ℕ) (f : ℕ → A → A) (a : A) → turns i n f a ≡ fold (λ x j. f j x) a (numbers i (n - i))
  unfolding turns
  turns_fold i n f a = run_fold (n - i) i f a

  pub downs_keeps : (P : A → Type 0) (k : ℕ) (f : ℕ → A → A) → ((j : ℕ) (x : A) → j < k → P x → P (f j x)) → (a : A) → P a → P (downs k f a)
  unfolding downs
  downs_keeps P zero f h a p = p
  downs_keeps P (suc k) f h a p = downs_keeps P k f (λ j x hi q. h j x (omega arith) q) (f k a) (h k a (omega arith) p)

-- turns seen through a function: a part of what they change, or another layout of it
module _ {A B : Type 0} (view : A → B) (f : ℕ → A → A) (g : ℕ → B → B) where
  run_view : (k i : ℕ) (a : A) → ((j : ℕ) (x : A) → i ≤ j → j < i + k → view (f j x) ≡ g j (view x)) → view (run k i f a) ≡ run k i g (view a)
  unfolding run
  run_view zero i a h = refl
  run_view (suc k) i a h =
      run_view k (suc i) (f i a) (λ j x lo hi. h j x (omega arith) (omega arith)) ∙ ap (λ (b : B). run k (suc i) g b) (h i a (omega arith) (omega arith))

  pub turns_view : (i n : ℕ) (a : A) → ((j : ℕ) (x : A) → i ≤ j → j < n → view (f j x) ≡ g j (view x)) → view (turns i n f a) ≡ turns i n g (view a)
  unfolding turns
  turns_view i n a h = run_view (n - i) i a (λ j x lo hi. h j x lo (omega arith))

-- ---- turns that write place j at turn j, from what stands there: at each place of the result
module _ {A : Type 0} (d : A) (g : ℕ → A → A) where
  abbrev pub set_here : ℕ → List A → List A
  set_here j l = set l j (g j (get_or l j d))

  run_before : (k i : ℕ) (l : List A) (p : ℕ) → p < i → get_or (run k i set_here l) p d ≡ get_or l p d
  unfolding run
  run_before zero i l p h = refl
  run_before (suc k) i l p h =
      run_before k (suc i) (set_here i l) p (omega arith) ∙ get_or-set_other l i p (g i (get_or l i d)) d (λ e. omega arith)

  run_length : (k i : ℕ) (l : List A) → length (run k i set_here l) ≡ length l
  unfolding run
  run_length zero i l = refl
  run_length (suc k) i l = run_length k (suc i) (set_here i l) ∙ length-set l i _

  run_at : (k i : ℕ) (l : List A) (p : ℕ) → i ≤ p → p < i + k → p < length l → get_or (run k i set_here l) p d ≡ g p (get_or l p d)
  unfolding run
  run_at zero i l p lo hi h = absurd (omega arith)
  run_at (suc k) i l p lo hi h = by_place (ltb i p) refl (λ t. run_at k (suc i) (set_here i l) p t (omega arith) (rw (length-set l i (g i (get_or l i d))) h))
    where
      by_place : (t : Bool) → ltb i p ≡ t → (suc i ≤ p → get_or (run k (suc i) set_here (set_here i l)) p d ≡ g p (get_or (set_here i l) p d)) → get_or (run k (suc i) set_here (set_here i l)) p d ≡ g p (get_or l p d)
      by_place true e next =
          let t : i < p = ltb-true i p e in
          next t ∙ ap (g p) (get_or-set_other l i p (g i (get_or l i d)) d (λ q. omega arith))
      by_place false e next =
          let t : p ≤ i = ltb-false i p e in
          let q : p ≡ i = omega arith in
          run_before k (suc i) (set_here i l) p (omega arith) ∙ rw q (get_or-set_same l i (g i (get_or l i d)) d (omega arith))

  -- the written places
  pub turns_at : (i n : ℕ) (l : List A) (p : ℕ) → i ≤ p → p < n → p < length l → get_or (turns i n set_here l) p d ≡ g p (get_or l p d)
  unfolding turns
  turns_at i n l p lo hi h = run_at (n - i) i l p lo (omega arith) h

  -- the places before and after them
  pub turns_before : (i n : ℕ) (l : List A) (p : ℕ) → p < i → get_or (turns i n set_here l) p d ≡ get_or l p d
  unfolding turns
  turns_before i n l p h = run_before (n - i) i l p h

  pub turns_length : (i n : ℕ) (l : List A) → length (turns i n set_here l) ≡ length l
  unfolding turns
  turns_length i n l = run_length (n - i) i l
