-- "A free node needs a path of conducting branches (R, L, C, closed SW) to ground, to a fixed node, or to a node with a line end, itself included."
-- In the paper's own terms, over the rows: no legs, no marks, no search. Assumes nothing.
use Rattle.std.specs.Prelude.{◌<◌, ◌≡◌, ◌⊎◌}
use Rattle.whole.specs.Plain.{ℕ, true, false, length, Words}
use Rattle.paper.specs.Rows.{Row, is_branch, is_line, from, to}
use Rattle.paper.specs.Areas.{Net, fixed}
use Rattle.paper.specs.Legs.{is_open}
use Rattle.laws_facts.specs.Nets.{row_at}

-- the row in place i is an R, L or C, or a SW that is closed at step k
pub record Conducts (N : Net) (recs : Words) (k i : ℕ) : Type 0 where
  pub branch : is_branch (row_at N i) ≡ true
  pub plain : is_line (row_at N i) ≡ false
  pub shut : is_open N recs k i ≡ false

-- the row's two ends, either way round
abbrev pub Between : Row → ℕ → ℕ → Type 0
Between r n m = ((from r ≡ n) × (to r ≡ m)) ⊎ ((from r ≡ m) × (to r ≡ n))

-- at step k there is such a path from node n
pub data HasPath (N : Net) (recs : Words) (k : ℕ) : ℕ → Type 0 where
  at_ground : {n : ℕ} → n ≡ 0 → HasPath N recs k n
  at_fixed : {n : ℕ} → fixed N n ≡ true → HasPath N recs k n
  at_line : {n : ℕ} (i : ℕ) → i < length N.rows → is_line (row_at N i) ≡ true → (from (row_at N i) ≡ n) ⊎ (to (row_at N i) ≡ n) → HasPath N recs k n
  along : {n m : ℕ} (i : ℕ) → i < length N.rows → Conducts N recs k i → Between (row_at N i) n m → HasPath N recs k m → HasPath N recs k n
