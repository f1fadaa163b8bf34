-- The search for a floating node: which nodes count as reached from the start, and what one leg does in a visit. Assumes nothing.
use Rattle.std.specs.Prelude.{◌+◌, ◌≤◌, ◌≡◌, ◌⊎◌}
use Rattle.whole.specs.Plain.{ℕ, Bool, true, cond, not, List, eqb, get_or, set, any, count}
use Rattle.paper.specs.Limits as Limits
use Rattle.paper.specs.Legs.{Leg}
use Rattle.paper.specs.Floating.{conducting}

-- all but the free nodes: ground, the fixed nodes, the nodes of other areas
unfoldable pub loose : List ℕ → ℕ → Bool
loose free n = not (any (λ m. eqb m n) free)

-- a node that is reached is marked 0
abbrev pub seen : List ℕ → ℕ → Bool
seen m n = eqb (get_or m n 0) 0

-- the node that a leg reaches, whose mark is its number, or 0: it conducts, and its other node is reached
unfoldable pub reaches : Leg → List ℕ → ℕ
reaches l m = cond (conducting l) (cond (seen m l.near) (get_or m l.far 0) (cond (seen m l.far) (get_or m l.near 0) 0)) 0

-- the legs of a visit: those at its node; every leg in that of ground, 0, and of all nodes that count as reached from the start
unfoldable pub meets : Leg → ℕ → Bool
meets l n = cond (eqb n 0) true (cond (eqb l.near n) true (eqb l.far n))

unfoldable pub finds : Leg → ℕ → List ℕ → ℕ
finds l n m = cond (meets l n) (reaches l m) 0

-- node n found, or none, 0: the marks, the list and its length after it
unfoldable pub reach : ℕ → List ℕ → List ℕ
reach n m = cond (eqb n 0) m (set m n 0)

unfoldable pub enlist : ℕ → ℕ → List ℕ → List ℕ
enlist n listed list = cond (eqb n 0) list (set list listed n)

unfoldable pub longer : ℕ → ℕ → ℕ
longer n listed = cond (eqb n 0) listed (listed + 1)

-- how many nodes are not reached
abbrev pub unseen : List ℕ → ℕ
unseen m = count (λ x. not (eqb x 0)) m

-- a node that is not reached has its number for a mark, and the list has room for all of those
pub record Room (m : List ℕ) (listed : ℕ) : Type 0 where
  pub own : (n : ℕ) → (get_or m n 0 ≡ 0) ⊎ (get_or m n 0 ≡ n)
  pub room : listed + unseen m ≤ Limits.node_end + 1
