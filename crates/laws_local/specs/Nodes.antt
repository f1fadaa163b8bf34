-- The nodes of an area, as the step lists them. Assumes nothing.
use Rattle.std.specs.Prelude.{◌≤◌, ◌≡◌}
use Rattle.whole.specs.Plain.{ℕ, false, not, eqb, eqb-true, eq-eqb, not-true, arith, numbers}
use Rattle.whole.specs.Members.{Among, among_keep, keep_among, among_numbers, numbers_among}
use Rattle.paper.specs.Areas.{Net, area_of, nodes_of, fixed, free_of}

-- a node of area a: from 1 to the node count, with that area's number
pub record NodeOf (N : Net) (a n : ℕ) : Type 0 where
  pub area : area_of N n ≡ a
  pub low : 1 ≤ n
  pub high : n ≤ N.nodes

pub node_of : (N : Net) (a : ℕ) {n : ℕ} → Among n (nodes_of N a) → NodeOf N a n
unfolding nodes_of
node_of N a {n} p =
    let q = keep_among (λ n. eqb (area_of N n) a) (numbers 1 N.nodes) p in
    let c = numbers_among 1 N.nodes q.among in
    record { area = eqb-true (area_of N n) a q.passes; low = c.0; high = omega arith }

pub of_node : (N : Net) (a n : ℕ) → NodeOf N a n → Among n (nodes_of N a)
unfolding nodes_of
of_node N a n h = among_keep (λ n. eqb (area_of N n) a) (numbers 1 N.nodes) (among_numbers 1 N.nodes h.low (omega (arith, h.high))) (eq-eqb (area_of N n) a h.area)

-- "A node with a VS is fixed; the others are free."
pub free_of_lem : (N : Net) (a : ℕ) {n : ℕ} → Among n (free_of N a) → NodeOf N a n × (fixed N n ≡ false)
unfolding free_of
free_of_lem N a {n} p = let q = keep_among (λ n. not (fixed N n)) (nodes_of N a) p in (node_of N a q.among, not-true (fixed N n) q.passes)

pub of_free : (N : Net) (a n : ℕ) → NodeOf N a n → fixed N n ≡ false → Among n (free_of N a)
unfolding free_of
of_free N a n h f = among_keep (λ n. not (fixed N n)) (nodes_of N a) (of_node N a n h) (rw f)
