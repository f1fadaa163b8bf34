-- T-received in voltages and currents alone: at an accepted step k of a run, the current of a line's end is g·v and what it receives of what the far
-- end's g·v and current came to at its own accepted steps of that run, with a minus. No store is spoken of. Assumes nothing.
use Rattle.std.specs.Prelude.{◌≡◌, ◌+ℤ◌}
use Rattle.whole.specs.Plain.{ℕ, List, ℤ, neg_ℤ}
use Rattle.whole.specs.Plain.{Words}
use Rattle.paper.specs.Areas.{Net}
use Rattle.paper.specs.Legs.{received}
use Rattle.paper.specs.Advance.{Memory}
use Rattle.laws_facts.specs.Nets.{net_in, row_at}
use Rattle.laws_facts.specs.Travels.{Reads}
use Rattle.laws_demands.specs.Said.{from_current, to_current, gv}
use Rattle.laws_runs.specs.Received.{Side, from_side, toSide, far, node_at, area_at, StepIn, right_after}

-- the current that leaves a line's end into the line
abbrev pub current_at : Memory → Side → ℕ → ℤ
current_at m from_side i = from_current m i
current_at m toSide i = to_current m i

-- g·v at that end
abbrev pub gv_at : Net → Memory → Side → ℕ → ℤ
gv_at N m s i = gv N m i (node_at s (row_at N i))

-- y is -(g·v + i) of the end at side s of line i, right after its area's accepted step x: "It then sends -(g·v + i)."
pub record Came (net : Words) (m : Memory) (w : List ℕ) (s : Side) (i x : ℕ) (y : ℤ) : Type 0 where
  pub step : StepIn net m w (area_at (net_in net) s i) x
  pub value : let p = right_after net m w (area_at (net_in net) s i) x step in y ≡ neg_ℤ (gv_at (net_in net) p s i +ℤ current_at p s i)

pub record LineLaw (net : Words) (m : Memory) (w : List ℕ) (k : ℕ) (s : Side) (i : ℕ) (n : Memory) : Type 0 where
  -- what the far end sent, by steps: of each that is read, at the far area's accepted step of the run
  pub sent : ℕ → ℤ
  pub steps : (x : ℕ) → Reads (net_in net).head (row_at (net_in net) i) k x → Came net m w (far s) i x (sent x)
  pub law : current_at n s i ≡ gv_at (net_in net) n s i +ℤ received (net_in net).head (row_at (net_in net) i) k sent
