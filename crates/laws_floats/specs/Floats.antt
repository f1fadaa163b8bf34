-- 14, in the paper's own terms: the lowest free node of the area from which there is no path. Assumes nothing.
use Rattle.std.specs.Prelude.{◌<◌, ◌≡◌}
use Rattle.whole.specs.Plain.{ℕ, false}
use Rattle.whole.specs.Plain.{Words}
use Rattle.whole.specs.Rising.{Rising, rising_numbers, rising_keep}
use Rattle.paper.specs.Areas.{Net, fixed, nodes_of, free_of}
use Rattle.laws_local.specs.Nodes.{NodeOf}
use Rattle.laws_floats.specs.HasPath.{HasPath}

-- 14: "a free node has no path"; "carry the lowest such node"
pub record Floats (N : Net) (a k : ℕ) (recs : Words) (n : ℕ) : Type 0 where
  pub node : NodeOf N a n
  pub free : fixed N n ≡ false
  pub none : HasPath N recs k n → ⊥
  pub lowest : (m : ℕ) → NodeOf N a m → fixed N m ≡ false → m < n → HasPath N recs k m

pub free_rising : (N : Net) (a : ℕ) → Rising 0 (free_of N a)
unfolding free_of nodes_of
free_rising N a = rising_keep _ 0 _ (rising_keep _ 0 _ (rising_numbers 0 N.nodes))
