-- What a line's end receives, by what it reads: one value of the far end where the travel time is a whole number of steps, two where it lies between
-- steps, and never more than these. Assumes nothing.
use Rattle.std.specs.Prelude.{◌+◌, ◌-◌, ◌*◌, ◌≤◌, ◌≡◌, ◌≢◌}
use Rattle.whole.specs.Plain.{ℕ, refl, true, false, cond, eqb, ltb, ℤ, nat_abs}
use Rattle.whole.specs.Plain.{eqb-true, eqb-false, eq-eqb, ne_eqb, mod-lt, le_of_lt, arith, z}
use Rattle.whole.specs.Mixing.{mixed_none, mixed_size}
use Rattle.paper.specs.Rows.{Row, is_line, step_length}
use Rattle.paper.specs.Faults.{delay, rest, depth, slots}
use Rattle.paper.specs.Legs.{sent_at, received}

-- the far end's steps x whose values an end of line r reads at step k: k - q, where r is not 0 also k - q - 1, and none before step 1
pub record Reads (head r : Row) (k x : ℕ) : Type 0 where
  pub one : 1 ≤ x
  pub newest : x + delay (step_length head) r ≤ k
  pub oldest : k ≤ x + depth head r + delay (step_length head) r

module _ (head r : Row) where
  abbrev q : ℕ
  q = delay (step_length head) r

  pub depth_none : rest (step_length head) r ≡ 0 → depth head r ≡ 0
  unfolding depth
  depth_none e = rw (eq-eqb (rest (step_length head) r) 0 e)

  pub depth_one : rest (step_length head) r ≢ 0 → depth head r ≡ 1
  unfolding depth
  depth_one n = rw (ne_eqb (rest (step_length head) r) 0 n)

  pub depth_most : depth head r ≤ 1
  depth_most = elim (eqb (rest (step_length head) r) 0) as (λ b. eqb (rest (step_length head) r) 0 ≡ b → depth head r ≤ 1)
      [ true ↦ λ e. omega (arith, depth_none (eqb-true _ 0 e)) | false ↦ λ e. omega (arith, depth_one (eqb-false _ 0 e)) ] refl

  -- ---- where r is 0, both are 01's: "h is what the far end sent at step k - d, or 0 where k - d < 1", and 2d slots

  pub received_whole : rest (step_length head) r ≡ 0 → (k : ℕ) (sent : ℕ → ℤ) → received head r k sent ≡ sent_at sent (k - q)
  unfolding received
  received_whole e k sent = rw e (mixed_none (step_length head) (sent_at sent (k - q)) (sent_at sent (k - q - 1)))

  pub slots_whole : rest (step_length head) r ≡ 0 → slots head r ≡ cond (is_line r) (2 * q) 0
  unfolding slots
  slots_whole e = let f : 2 * q + depth head r ≡ 2 * q = omega (arith, depth_none e) in rw f

  -- ---- in the range of what was sent

  at_size : (s : ℕ) (sent : ℕ → ℤ) (m : ℕ) → ((x : ℕ) → nat_abs (sent x) ≤ m) → nat_abs (sent_at sent s) ≤ m
  unfolding sent_at
  at_size s sent m h = elim (ltb 0 s) as (λ b. nat_abs (cond b (sent s) z) ≤ m) [ true ↦ h s | false ↦ omega arith ]

  pub received_size : 1 ≤ step_length head → (k : ℕ) (sent : ℕ → ℤ) (m : ℕ) → ((x : ℕ) → nat_abs (sent x) ≤ m) → nat_abs (received head r k sent) ≤ m
  unfolding received
  received_size one k sent m h =
      mixed_size (step_length head) (rest (step_length head) r) (sent_at sent (k - q)) (sent_at sent (k - q - 1)) m one
      (le_of_lt (mod-lt _ one)) (at_size (k - q) sent m h) (at_size (k - q - 1) sent m h)
