-- Gaussian elimination over a list of lines, each operation rounded once, none fused. Assumes nothing.
use Rattle.whole.specs.Plain.{ℕ, false, List, [], pos, get_or, set, replicate}
use Rattle.std.specs.Float.Ieee as Ieee
use Rattle.std.specs.Prelude.{Float, ◌+◌}
use Rattle.std.specs.Float.{fin, nan, binary64}
use Rattle.paper.specs.Limits as Limits
use Rattle.paper.specs.declared.Equation.{Equation}
use Rattle.whole.specs.Turns.{turns, downs}

-- the matrix by its lines, and beside it each row's pivot and right side
pub record System : Type 0 where
  pub lines : List (List Float)
  pub rows : List Equation

abbrev pub sys : List (List Float) → List Equation → System
sys m r = record { lines = m; rows = r }

abbrev pub line : List (List Float) → ℕ → List Float
line m r = get_or m r []

abbrev pub cell : List Float → ℕ → Float
cell l c = get_or l c nan

abbrev pub row : List Equation → ℕ → Equation
row r p = get_or r p (record { pivot = nan; right = nan })

-- x - f * y, rounded twice
abbrev pub less : Float → Float → Float → Float
less x f y = Ieee.sub binary64 x (Ieee.mul binary64 f y)

abbrev pub quotient : Float → Float → Float
quotient x y = Ieee.div binary64 x y

-- one cell of a line, and all of them after column p
abbrev pub cell_less : Float → List Float → ℕ → List Float → List Float
cell_less f top c own = set own c (less (cell own c) f (cell top c))

unfoldable pub line_less : ℕ → ℕ → Float → List Float → List Float → List Float
line_less n p f top own = turns (p + 1) n (cell_less f top) own

-- row q once row p is taken from it; its pivot is the diagonal of what it has become
unfoldable pub row_less : ℕ → ℕ → ℕ → System → System
row_less n p q s =
    let f = quotient (cell (line s.lines q) p) (row s.rows p).pivot in
    let lines = set s.lines q (line_less n p f (line s.lines p) (line s.lines q)) in
    sys lines (set s.rows q (record { pivot = cell (line lines q) q; right = less (row s.rows q).right f (row s.rows p).right }))

unfoldable pub all_less : ℕ → ℕ → System → System
all_less n p s = turns (p + 1) n (row_less n p) s

unfoldable pub eliminated : ℕ → System → System
eliminated n s = turns 0 n (all_less n) s

-- backwards
abbrev pub term_less : List Float → List Float → ℕ → Float → Float
term_less l x c t = less t (cell l c) (cell x c)

unfoldable pub rest : ℕ → ℕ → List Float → List Float → Float → Float
rest n p l x t = turns (p + 1) n (term_less l x) t

unfoldable pub row_solved : ℕ → System → ℕ → List Float → List Float
row_solved n s p x = set x p (quotient (rest n p (line s.lines p) x (row s.rows p).right) (row s.rows p).pivot)

unfoldable pub solved : ℕ → System → List Float
solved n s = downs n (row_solved n s) (replicate Limits.node_end (fin false 0 (pos 0)))

-- the voltages, from the matrix and the right sides
unfoldable pub voltages : ℕ → System → List Float
voltages n s = solved n (eliminated n s)
