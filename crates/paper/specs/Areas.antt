-- "Areas." and what else follows from the rows alone. Assumes nothing.
use Rattle.std.specs.Prelude.{◌&&◌}
use Rattle.whole.specs.Plain.{ℕ, suc, max, Bool, cond, not, List, [], tail, map, eqb, get_or, take, any, count}
use Rattle.whole.specs.Plain.{keep, fold, numbers}
use Rattle.paper.specs.Rows.{Row, is_branch, is_source, is_line, from, to, at, step_length}
use Rattle.paper.specs.Faults.{fixes}
use Rattle.paper.specs.Network.{Table}
use Rattle.paper.specs.Spread.{Join, mark, spread}

-- "The node count is the largest node named."
unfoldable pub named : Row → ℕ
named r = cond (is_branch r) (max (from r) (to r)) (cond (is_source r) (at r) 0)

unfoldable pub node_count : List Row → ℕ
node_count rows = fold (λ n r. max n (named r)) 0 rows

-- "Nodes joined by R, L, C or SW (open or closed) are in one area. Ground and lines join nothing."
unfoldable pub joins : Row → Bool
joins r = is_branch r && not (is_line r) && not (eqb (from r) 0) && not (eqb (to r) 0)

abbrev pub join_of : Row → Join
join_of r = record { one = from r; two = to r }

-- the lowest node of each node's area
unfoldable pub lowest : List Row → ℕ → List ℕ
lowest rows nodes = spread (map join_of (keep joins rows)) (numbers 0 (suc nodes))

abbrev pub leads : List ℕ → ℕ → Bool
leads low n = eqb (mark low n) n

-- "Areas are numbered from 1 by their lowest node": by node, ground's 0
unfoldable pub area_numbers : List ℕ → List ℕ
area_numbers low = map (λ m. count (leads low) (numbers 1 m)) low

-- what an advance goes by
pub record Net : Type 0 where
  pub head : Row
  pub rows : List Row
  pub nodes : ℕ
  pub areas : List ℕ

unfoldable pub net_on : Row → List Row → ℕ → Net
net_on head rows nodes = record { head = head; rows = rows; nodes = nodes; areas = area_numbers (lowest rows nodes) }

unfoldable pub net_of : Table → Net
net_of t = net_on (get_or t 0 []) (tail t) (node_count (tail t))

abbrev pub area_of : Net → ℕ → ℕ
area_of N n = get_or N.areas n 0

unfoldable pub area_count : Net → ℕ
area_count N = fold (λ a b. max a b) 0 N.areas

-- "A node with a VS is fixed; the others are free."
unfoldable pub fixed : Net → ℕ → Bool
fixed N n = any (fixes n) N.rows

unfoldable pub nodes_of : Net → ℕ → List ℕ
nodes_of N a = keep (λ n. eqb (area_of N n) a) (numbers 1 N.nodes)

-- "Free nodes stand in rising order"
unfoldable pub free_of : Net → ℕ → List ℕ
free_of N a = keep (λ n. not (fixed N n)) (nodes_of N a)

-- the area of an R, L, C or SW: that of its higher end, ground being 0
abbrev pub row_area : Net → Row → ℕ
row_area N r = area_of N (max (from r) (to r))

abbrev pub step : Net → ℕ
step N = step_length N.head

-- "Branches are numbered from 1 in table order, sources not counted": of the row in place r, from 1
unfoldable pub branch_number : Net → ℕ → ℕ
branch_number N r = count is_branch (take r N.rows)
