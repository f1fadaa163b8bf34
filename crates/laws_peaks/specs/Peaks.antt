-- T-peak: over every run from a reset, a node's peak and its step "equal the maximum over all accepted steps of that node's area and its first place;
-- before any step both are 0". Assumes nothing.
use Rattle.std.specs.Prelude.{◌≤◌, ◌<◌, ◌≡◌}
use Rattle.whole.specs.Plain.{ℕ}
use Rattle.whole.specs.Plain.{List, pos, nat_abs}
use Rattle.whole.specs.Plain.{Words, nat}
use Rattle.paper.specs.Areas.{area_of}
use Rattle.paper.specs.Records.{count_of}
use Rattle.paper.specs.Advance.{Memory, advance_of}
use Rattle.laws_facts.specs.Nets.{net_in}
use Rattle.laws_demands.specs.Said.{voltage, peak_in, peak_step_in}
use Rattle.laws_runs.specs.Runs.{Lent, from_reset}
use Rattle.laws_runs.specs.Received.{StepIn}

module _ (net : Words) (lent : Memory) (ok : Lent net lent) (n : ℕ) (low : 1 ≤ n) (high : n ≤ (net_in net).nodes) where
  open from_reset net lent use {N, start, at}

  abbrev a : ℕ
  a = area_of N n

  -- after the calls of w: the steps that the node's area has taken, the node's peak and the peak's step
  abbrev count : List ℕ → ℕ
  count w = count_of (at w).records a

  abbrev peak : List ℕ → ℕ
  peak w = nat (peak_in N (at w) n)

  abbrev peak_step : List ℕ → ℕ
  peak_step w = nat (peak_step_in N (at w) n)

  -- the magnitude of the node's voltage right after its area's call that follows those of u
  abbrev size : List ℕ → ℕ
  size u = nat_abs (voltage N (advance_of net a (at u)).after n)

  -- step x of the area among the calls of w, after which the magnitude is y
  pub record At (w : List ℕ) (x y : ℕ) : Type 0 where
    pub step : StepIn net start w a x
    pub reached : size step.before ≡ y

  pub record Peak (w : List ℕ) : Type 0 where
    -- the two words are these numbers
    pub words : (peak_in N (at w) n ≡ pos (peak w)) × (peak_step_in N (at w) n ≡ pos (peak_step w))
    -- an accepted step is one of those counted, and its magnitude is at most the peak
    pub inside : (x : ℕ) → StepIn net start w a x → (1 ≤ x) × (x ≤ count w)
    pub most : (x : ℕ) (t : StepIn net start w a x) → size t.before ≤ peak w
    -- once there is one, the peak came at an accepted step, and at none before it
    pub there : 1 ≤ count w → At w (peak_step w) (peak w)
    pub first : (x : ℕ) (t : StepIn net start w a x) → x < peak_step w → size t.before < peak w
    -- "before any step both are 0"
    pub none : count w ≡ 0 → (peak w ≡ 0) × (peak_step w ≡ 0)
