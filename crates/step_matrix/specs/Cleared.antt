-- The block of an area's n free nodes, cleared line by line. Assumes nothing.
use Rattle.whole.specs.Plain.{ℕ, ◌∙◌, List, [], set, replicate, length-replicate, get_or-set_same}
use Rattle.whole.specs.Plain.{get_or-set_other, ℕ_discrete, arith}
use Rattle.std.specs.Prelude.{Float, ◌+◌, ◌≤◌, ◌<◌, ◌≡◌}
use Rattle.paper.specs.Elimination.{line}
use Rattle.paper.specs.Solve.{nought}
use Rattle.step_factors.specs.Factors.{Square}
use Rattle.step_factors.specs.Blocks.{Renewed, renewed_none, renewed_set}

-- the table a has become b: p lines of the block are zeros
pub record Cleared (base n p : ℕ) (a b : List (List Float)) : Type 0 where
  pub renewed : Renewed base n a b
  pub none : (r : ℕ) → r < p → line b (base + r) ≡ replicate 32 nought

pub cleared_none : (base n : ℕ) {a : List (List Float)} → Square a → Cleared base n 0 a a
cleared_none base n s = record { renewed = renewed_none base n s; none = λ r h. absurd (omega arith) }

pub cleared_more : {base n p : ℕ} {a b : List (List Float)} → base + n ≤ 32 → p < n → Cleared base n p a b
    → Cleared base n (p + 1) a (set b (base + p) (replicate 32 nought))
cleared_more {base} {n} {p} {b = b} room h c =
    record { renewed = renewed_set p _ h (length-replicate 32 nought) c.renewed; none = λ r l. by_line r l (ℕ_discrete r p) }
  where
    by_line : (r : ℕ) → r < p + 1 → Dec (r ≡ p) → line (set b (base + p) (replicate 32 nought)) (base + r) ≡ replicate 32 nought
    by_line r l (yes e) = rw e (get_or-set_same b (base + p) _ [] (omega (arith, c.renewed.square.lines)))
    by_line r l (no e) = get_or-set_other b (base + p) (base + r) _ [] (λ d. e (omega arith)) ∙ c.none r (omega arith)
