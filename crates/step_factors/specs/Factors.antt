-- What it is that the factors of a matrix serve every right side: beside the stated elimination of any system that has this matrix, the table has the
-- stated cells from each row's diagonal on, and before it the multipliers by which the stated right sides come about. Assumes nothing.
use Rattle.whole.specs.Plain.{ℕ, List, [], get_or, length}
use Rattle.std.specs.Prelude.{Float, ◌+◌, ◌≤◌, ◌<◌, ◌≡◌}
use Rattle.whole.specs.Turns.{turns}
use Rattle.paper.specs.Elimination.{System, line, cell, row, less, eliminated}

-- the matrix array, 32 lines of 32 cells
pub record Square (a : List (List Float)) : Type 0 where
  pub lines : length a ≡ 32
  pub line : (p : ℕ) → p < 32 → length (get_or a p []) ≡ 32

-- room for n rows
pub record Roomy (n : ℕ) (s : System) : Type 0 where
  pub lines : n ≤ length s.lines
  pub rows : n ≤ length s.rows
  pub line : (p : ℕ) → p < n → n ≤ length (get_or s.lines p [])

-- a system of n rows whose matrix has these lines, whatever its right sides
pub record Of (n : ℕ) (m : ℕ → List Float) (s : System) : Type 0 where
  pub roomy : Roomy n s
  pub cells : (p q : ℕ) → p < n → q < n → cell (m p) q ≡ cell (line s.lines p) q
  pub pivot : (p : ℕ) → p < n → (row s.rows p).pivot ≡ cell (line s.lines p) p

abbrev pub final_right : ℕ → System → ℕ → Float
final_right n s p = (row (eliminated n s).rows p).right

-- row r of the table, whose line is l
pub record Factors (n : ℕ) (s : System) (r : ℕ) (l : List Float) : Type 0 where
  pub cells : (c : ℕ) → r ≤ c → c < n → cell l c ≡ cell (line (eliminated n s).lines r) c
  pub pivot : (row (eliminated n s).rows r).pivot ≡ cell l r
  pub right : final_right n s r ≡ turns 0 r (λ p t. less t (cell l p) (final_right n s p)) (row s.rows r).right

-- the table a has, from `base` on, the factors of the matrix m
pub record Serves (base n : ℕ) (m : ℕ → List Float) (a : List (List Float)) : Type 0 where
  pub at : (s : System) → Of n m s → (r : ℕ) → r < n → Factors n s r (line a (base + r))
