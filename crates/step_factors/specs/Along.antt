-- Two counted loops whose states stay related, by a relation that knows the turn. Assumes nothing.
use Rattle.std.specs.Prelude.{◌+◌, ◌-◌, ◌≤◌, ◌<◌, ◌≡◌}
use Rattle.whole.specs.Plain.{ℕ, zero, suc, arith}
use Rattle.std.proofs.Common.{add-one}
use Rattle.whole.specs.Turns.{run, turns, downs}

module _ {A B : Type 0} (R : ℕ → A → B → Type 0) (f : ℕ → A → A) (g : ℕ → B → B) where
  run_along : (k i : ℕ) → ((j : ℕ) (a : A) (b : B) → i ≤ j → j < i + k → R j a b → R (suc j) (f j a) (g j b)) → {a : A} {b : B}
      → R i a b → R (i + k) (run k i f a) (run k i g b)
  unfolding run
  run_along zero i h r = let e : i + 0 ≡ i = omega arith in rw e r
  run_along (suc k) i h r =
      let e : i + suc k ≡ suc i + k = omega arith in
      rw e (run_along k (suc i) (λ j x y lo hi q. h j x y (omega arith) (omega arith) q) (h i _ _ (omega arith) (omega arith) r))

  pub turns_along : (i n : ℕ) → i ≤ n → ((j : ℕ) (a : A) (b : B) → i ≤ j → j < n → R j a b → R (j + 1) (f j a) (g j b)) → {a : A} {b : B}
      → R i a b → R n (turns i n f a) (turns i n g b)
  unfolding turns
  turns_along i n l h r =
      let e : i + (n - i) ≡ n = omega arith in
      rw e at (run_along (n - i) i (λ j x y lo hi q. rw (add-one j) at (h j x y lo (omega arith) q)) r)

  pub downs_along : (k : ℕ) → ((j : ℕ) (a : A) (b : B) → j < k → R (j + 1) a b → R j (f j a) (g j b)) → {a : A} {b : B} → R k a b → R 0 (downs k f a) (downs k g b)
  unfolding downs
  downs_along zero h r = r
  downs_along (suc k) h r = downs_along k (λ j x y l q. h j x y (omega arith) q) (h k _ _ (omega arith) (rw (add-one k) r))
