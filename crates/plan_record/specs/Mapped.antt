-- The areas by node, as an array. Assumes nothing.
use Rattle.std.specs.Prelude.{◌≤◌, ◌≡◌}
use Rattle.whole.specs.Plain.{ℕ, List, get_or}
use Rattle.paper.specs.Limits as Limits
use Rattle.paper.specs.Areas.{Net, area_of}

pub record Mapped (N : Net) (area : List ℕ) : Type 0 where
  pub area_at : (n : ℕ) → n ≤ Limits.node_end → get_or area n 0 ≡ area_of N n
