-- T-received: what a line end hears at its area's accepted step k is what it receives of what the far end sent at its own accepted steps of that run:
-- at k - q, where the travel time lies between steps also at k - q - 1, and 0 before step 1; and there is one such step. Assumes nothing.
use Rattle.std.specs.Prelude.{◌≡◌}
use Rattle.whole.specs.Plain.{ℕ}
use Rattle.whole.specs.Plain.{List, ℤ, Words}
use Rattle.paper.specs.Areas.{Net}
use Rattle.paper.specs.Legs as Legs
use Rattle.paper.specs.Advance.{Memory}
use Rattle.laws_facts.specs.Nets.{net_in, row_at}
use Rattle.laws_facts.specs.Travels.{Reads}
use Rattle.laws_runs.specs.Runs.{after}
use Rattle.laws_runs.specs.Received.{Side, far, store_of, Sent}

-- the history of the end at side s of line i at step k, by the definition of a step: what stands in the far end's store
abbrev pub hears : Net → Memory → ℕ → Side → ℕ → ℤ
hears N m k s i = Legs.sent_to N k i (row_at N i) (store_of (far s) m)

pub record Receives (net : Words) (m : Memory) (w : List ℕ) (k : ℕ) (s : Side) (i : ℕ) : Type 0 where
  -- what the far end sent, by steps: of each that is read, at its own accepted step of the run
  pub sent : ℕ → ℤ
  pub steps : (x : ℕ) → Reads (net_in net).head (row_at (net_in net) i) k x → Sent net m w (far s) i x (sent x)
  pub heard : hears (net_in net) (after net w m) k s i ≡ Legs.received (net_in net).head (row_at (net_in net) i) k sent
