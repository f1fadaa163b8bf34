-- What is out of balance: by node, the currents that leave less what is injected. The lowest of some nodes at which it is past a limit is the paper's.
-- Assumes nothing.
use Rattle.std.specs.Prelude.{◌+◌, ◌-◌, ◌≡◌, ◌-ℤ◌}
use Rattle.whole.specs.Plain.{ℕ, suc, Bool, not, List, length, length-drop, take-length, drop}
use Rattle.whole.specs.Plain.{get_or, get_or-drop, arith, Words, z, word, up_to, first}
use Rattle.whole.specs.Size.{∣◌∣≤◌, sub, fits}
use Rattle.paper.specs.Limits as Limits
use Rattle.paper.specs.Legs.{Leg, current}
use Rattle.paper.specs.Solve.{unbalanced}
use Rattle.step_legs.specs.declared.Wire.{Wire}
use Rattle.step_legs.specs.Wires.{legs_in, Sized}
use Rattle.step_legs.specs.Leaving.{leaving, legs_length}
use Rattle.step_legs.specs.Shares.{Volts, current_sum, imbalance_is}
use Rattle.step_legs.specs.Sums.{Sums, Near, none, sums_at}
use Rattle.step_legs.specs.Free.{Free, InjectsWithin, inject_size, first_cong}

-- of what leaves and what is injected, from node 1 on
unfoldable pub past : ℕ → Words → Words → ℕ → Bool
past most out given p = not (up_to most (word out (p - 1) -ℤ word given (p - 1)))

unfoldable pub first_past : ℕ → Words → Words → List ℕ → ℕ
first_past most out given nodes = first (past most out given) nodes

-- ---- a table by node, from node 1 on

from_one : (w : Words) (p : ℕ) → word (drop 1 w) p ≡ word w (1 + p)
from_one w p = get_or-drop 1 w p z

one_long : (w : Words) → length w ≡ suc Limits.node_end → length (drop 1 w) ≡ Limits.node_end
one_long w e = rw length-drop (omega arith)

module _ {legs : List Wire} {v inject w : Words} (s : Sized legs) (u : Volts v) (q : InjectsWithin inject) (a : Sums none (current v) (legs_in legs) w) where
  sum : (p : ℕ) → ∣ leaving p (current v) (legs_in legs) ∣≤ 8960000000000000000
  sum p = rw (take-length (legs_in legs)) at (current_sum s p (length (legs_in legs)) (omega (arith, legs_length legs)) u)

  pub near : Near Limits.node_end (drop 1 w) (drop 1 inject)
  near = record {
    long = omega (arith, one_long w a.long);
    wide = omega (arith, one_long inject q.long);
    one = λ p l. rw (from_one w p, sums_at a (1 + p) (omega arith)) (fits (sum (1 + p)) tt);
    other = λ p l. rw (from_one inject p) (fits (inject_size q (1 + p)) tt);
    less = λ p l. rw (from_one w p, from_one inject p, sums_at a (1 + p) (omega arith)) (fits (sub (sum (1 + p)) (inject_size q (1 + p))) tt);
  }

pub past_unbalanced : (most : ℕ) (v inject : Words) {legs : List Leg} {w : Words} {free : List ℕ} → Sums none (current v) legs w → Free free
    → first_past most (drop 1 w) (drop 1 inject) free ≡ unbalanced most legs (λ p. word inject p) v free
unfolding first_past past unbalanced
past_unbalanced most v inject {legs} {w} {free} a f = first_cong _ _ free (λ i l.
    let p = get_or free i 0 in
    let e : 1 + (p - 1) ≡ p = omega (arith, f.above i l) in
    rw (from_one w (p - 1), from_one inject (p - 1), e, sums_at a p (f.node i l), imbalance_is legs (λ q. word inject q) v p))
