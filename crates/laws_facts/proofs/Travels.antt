-- What a line's end receives depends on nothing but what it reads. Assumes nothing.
use Rattle.std.specs.Prelude.{◌-◌, ◌≤◌, ◌≡◌}
use Rattle.whole.specs.Plain.{ℕ, refl, sym, ◌∙◌, Bool, true, false, cond, eqb, ltb, ℤ}
use Rattle.whole.specs.Plain.{eqb-true, eqb-false, ltb-true, arith, z}
use Rattle.paper.specs.Rows.{Row, step_length}
use Rattle.paper.specs.Faults.{delay, rest}
use Rattle.paper.specs.Legs.{sent_at, received}
use Rattle.laws_facts.specs.Travels.{Reads, depth_one, received_whole}

module _ (head r : Row) where
  abbrev q : ℕ
  q = delay (step_length head) r

  at_same : (s : ℕ) (f g : ℕ → ℤ) → (1 ≤ s → f s ≡ g s) → sent_at f s ≡ sent_at g s
  unfolding sent_at
  at_same s f g h = elim (ltb 0 s) as (λ b. ltb 0 s ≡ b → cond b (f s) z ≡ cond b (g s) z) [ true ↦ λ e. h (ltb-true 0 s e) | false ↦ λ e. refl ] refl

  pub received_same : (k : ℕ) (f g : ℕ → ℤ) → ((x : ℕ) → Reads head r k x → f x ≡ g x) → received head r k f ≡ received head r k g
  unfolding received
  received_same k f g h = by (eqb (rest (step_length head) r) 0) refl
    where
      newest : sent_at f (k - q) ≡ sent_at g (k - q)
      newest = at_same (k - q) f g (λ l. h (k - q) (record { one = l; newest = omega arith; oldest = omega arith }))

      by : (b : Bool) → eqb (rest (step_length head) r) 0 ≡ b → received head r k f ≡ received head r k g
      by true e = let w = eqb-true (rest (step_length head) r) 0 e in received_whole head r w k f ∙ newest ∙ sym (received_whole head r w k g)
      by false e =
          let one = depth_one head r (eqb-false (rest (step_length head) r) 0 e) in
          rw (newest, at_same (k - q - 1) f g (λ l. h (k - q - 1) (record { one = l; newest = omega arith; oldest = omega arith })))
