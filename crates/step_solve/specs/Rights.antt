-- The right sides of the free nodes' equations, as doubles. Assumes nothing.
use Rattle.whole.specs.Plain.{ℕ, suc, refl, ◌∙◌, List, get_or, set, length, length-set}
use Rattle.whole.specs.Plain.{get_or-set_same, get_or-set_other, take-length, ℕ_discrete, arith, Words, word}
use Rattle.std.specs.Prelude.{Float, ◌+◌, ◌<◌, ◌≡◌, ◌-ℤ◌}
use Rattle.std.specs.Float.{nan}
use Rattle.whole.specs.Size.{∣◌∣≤◌, sub, fits}
use Rattle.whole.specs.TurnLaws.{turns_keeps, downs_keeps}
use Rattle.paper.specs.Limits as Limits
use Rattle.paper.specs.Doubles.{double}
use Rattle.paper.specs.Elimination.{cell}
use Rattle.paper.specs.Solve.{right_side}
use Rattle.step_factors.specs.Factored.{row_forward, forward, row_back, back, substituted}
use Rattle.step_legs.specs.declared.Wire.{Wire}
use Rattle.step_legs.specs.Wires.{legs_in, Sized}
use Rattle.step_legs.specs.Leaving.{leaving, legs_length}
use Rattle.step_legs.specs.Shares.{Volts, drawn, drawn_sum, right_is}
use Rattle.step_legs.specs.Sums.{Sums, none, sums_at, Near}
use Rattle.step_legs.specs.Free.{Free, InjectsWithin, inject_size}

-- of the first n
pub record Rights (n : ℕ) (free : List ℕ) (inject drawn : Words) (b : List Float) : Type 0 where
  pub long : length b ≡ 32
  pub at : (i : ℕ) → i < n → cell b i ≡ double (word inject (get_or free i 0) -ℤ word drawn (get_or free i 0))

pub rights_more : {n : ℕ} {free : List ℕ} {inject drawn : Words} {b : List Float} → n < 32 → Rights n free inject drawn b
    → Rights (n + 1) free inject drawn (set b n (double (word inject (get_or free n 0) -ℤ word drawn (get_or free n 0))))
rights_more {n} {free} {inject} {drawn} {b} h r = record { long = length-set b n _ ∙ r.long; at = λ i l. by i l (ℕ_discrete i n) }
  where
    by : (i : ℕ) → i < n + 1 → Dec (i ≡ n) → cell (set b n (double (word inject (get_or free n 0) -ℤ word drawn (get_or free n 0)))) i ≡ double (word inject (get_or free i 0) -ℤ word drawn (get_or free i 0))
    by i l (yes e) = rw e (get_or-set_same b n _ nan (omega (arith, r.long)))
    by i l (no e) = get_or-set_other b n i _ nan e ∙ r.at i (omega arith)

-- ---- of the legs' sums
module _ {legs : List Wire} {still inject d : Words} (s : Sized legs) (u : Volts still) (q : InjectsWithin inject) (a : Sums none (drawn still) (legs_in legs) d) where
  pub near : Near (suc Limits.node_end) inject d
  near = record {
    long = omega (arith, q.long);
    wide = omega (arith, a.long);
    one = λ p l. fits (inject_size q p) tt;
    other = λ p l. rw (sums_at a p (omega arith)) (fits (sum p) tt);
    less = λ p l. rw (sums_at a p (omega arith)) (fits (sub (inject_size q p) (sum p)) tt);
  }
    where
      sum : (p : ℕ) → ∣ leaving p (drawn still) (legs_in legs) ∣≤ 7680000000000000000
      sum p = rw (take-length (legs_in legs)) at (drawn_sum s p (length (legs_in legs)) (omega (arith, legs_length legs)) u)

  -- a right side is the paper's
  pub right_at : {free : List ℕ} {b : List Float} → Free free → Rights (length free) free inject d b → (i : ℕ) → i < length free
      → cell b i ≡ double (right_side (legs_in legs) still (word inject (get_or free i 0)) (get_or free i 0))
  right_at {free} f r i h = r.at i h ∙ rw (sums_at a (get_or free i 0) (f.node i h)) (rw (right_is (legs_in legs) still (word inject (get_or free i 0)) (get_or free i 0)))

-- ---- what a substitution leaves is as long
pub substituted_length : (base n : ℕ) (a : List (List Float)) (b : List Float) → length (substituted base n a b) ≡ length b
unfolding substituted forward back row_forward row_back
substituted_length base n a b =
    downs_keeps (λ x. length x ≡ length b) n _ (λ p x h e. length-set x p _ ∙ e) (forward base n a b)
    (turns_keeps (λ x. length x ≡ length b) 0 n _ (λ q x lo hi e. length-set x q _ ∙ e) b refl)
