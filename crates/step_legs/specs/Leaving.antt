-- Sums over the legs that leave one node, leg by leg, and why each fits a word: at most 64 legs leave a node. Assumes nothing.
use Rattle.std.specs.Prelude.{◌+◌, ◌*◌, ◌≤◌, ◌<◌, ◌≡◌, ◌∷◌, ◌+ℤ◌}
use Rattle.whole.specs.Plain.{ℕ, suc, ◌∙◌, ap, Bool, true, false, cond, List, [], ℤ}
use Rattle.whole.specs.Plain.{length, get_or, take, length-map, get_or-take, length-take-le, mul-le-mul_right, add-mul}
use Rattle.whole.specs.Plain.{arith, z, count, total}
use Rattle.whole.specs.Folds.{get_d_map}
use Rattle.whole.specs.Totals.{total_next}
use Rattle.whole.specs.Size.{∣◌∣≤◌, add}
use Rattle.whole.specs.Written.{count_take}
use Rattle.paper.specs.Limits as Limits
use Rattle.paper.specs.Legs.{Leg, idle}
use Rattle.paper.specs.Solve.{leaves}
use Rattle.step_legs.specs.declared.Wire.{Wire}
use Rattle.step_legs.specs.Wires.{leg_of, no_wire, leg_at, legs_in, Wires}

-- the sum of f over the legs that leave p
unfoldable pub leaving : ℕ → (Leg → ℤ) → List Leg → ℤ
leaving p f legs = total (λ l. cond (leaves p l) (f l) z) legs

pub legs_length : (legs : List Wire) → length (legs_in legs) ≡ length legs
unfolding legs_in
legs_length legs = length-map legs leg_of

pub leg_is : (legs : List Wire) (j : ℕ) → j < length legs → get_or (legs_in legs) j idle ≡ leg_at legs j
unfolding legs_in
leg_is legs j h = get_d_map leg_of legs j no_wire idle h

-- one leg more
pub leaving_more : (legs : List Wire) (j : ℕ) → j < length legs → (p : ℕ) (f : Leg → ℤ)
    → leaving p f (take (j + 1) (legs_in legs)) ≡ leaving p f (take j (legs_in legs)) +ℤ cond (leaves p (leg_at legs j)) (f (leg_at legs j)) z
unfolding leaving
leaving_more legs j h p f =
    total_next (λ l. cond (leaves p l) (f l) z) (legs_in legs) j idle (omega (arith, legs_length legs))
    ∙ ap (λ (l : Leg). total (λ l. cond (leaves p l) (f l) z) (take j (legs_in legs)) +ℤ cond (leaves p l) (f l) z) (leg_is legs j h)

-- ---- the sum's size
share : (t : Bool) {x : ℤ} {B : ℕ} → ∣ x ∣≤ B → ∣ cond t x z ∣≤ (cond t 1 0 * B)
share true p = record { size = omega (arith, p.size) }
share false p = record { size = omega arith }

module _ (p : ℕ) (f : Leg → ℤ) (B : ℕ) where
  by_count : (l : List Leg) → ((i : ℕ) → i < length l → ∣ f (get_or l i idle) ∣≤ B) → ∣ leaving p f l ∣≤ (count (leaves p) l * B)
  unfolding leaving total count
  by_count [] h = record { size = omega arith }
  by_count (x ∷ l) h = rw (add-mul (cond (leaves p x) 1 0) (count (leaves p) l) B) (add (share (leaves p x) (h 0 (omega arith))) (by_count l (λ i k. h (suc i) (omega arith))))

  -- "With these ends a sum over 64 branches stays inside 64 signed bits.": of any number of legs
  pub leaving_size : {legs : List Wire} → Wires legs → ((j : ℕ) → j < length legs → ∣ f (leg_at legs j) ∣≤ B) → (j : ℕ) → j ≤ length legs → ∣ leaving p f (take j (legs_in legs)) ∣≤ (Limits.branch_end * B)
  leaving_size {legs} s size j l =
      let c : count (leaves p) (take j (legs_in legs)) ≤ Limits.branch_end = omega (arith, count_take (leaves p) (legs_in legs) j, s.few p) in
      let e : length (take j (legs_in legs)) ≡ j = (length-take-le j (legs_in legs) (omega (arith, legs_length legs))) in
      let b = by_count (take j (legs_in legs)) (λ i h. let k : i < j = omega arith in rw (get_or-take j (legs_in legs) i idle k, leg_is legs i (omega arith)) (size i (omega arith))) in
      record { size = omega (arith, b.size, mul-le-mul_right B c) }
