-- T-parts: over every run from a reset, an SW's latch is the first accepted step x of its area, "at or after open - 1 and later than its closing step, at which
-- its current is zero or of opposite sign to that of step" x - 1; it is 0 while there is none; and "it is open from step" x "+ 1 and stays so". Assumes nothing.
use Rattle.std.specs.Prelude.{◌-◌, ◌≤◌, ◌<◌, ◌≡◌}
use Rattle.whole.specs.Plain.{ℕ, true}
use Rattle.whole.specs.Plain.{List, ℤ, pos, length}
use Rattle.whole.specs.Plain.{Words, z, nat}
use Rattle.paper.specs.Rows.{Row, is_breaker, closes, opens}
use Rattle.paper.specs.Areas.{row_area}
use Rattle.paper.specs.Records.{count_of}
use Rattle.paper.specs.Latch.{crosses}
use Rattle.paper.specs.Advance.{Memory, advance_of}
use Rattle.laws_facts.specs.Nets.{net_in, row_at}
use Rattle.laws_demands.specs.Said.{from_current, latch}
use Rattle.laws_runs.specs.Runs.{Lent, from_reset}
use Rattle.laws_runs.specs.Received.{StepIn}

module _ (net : Words) (lent : Memory) (ok : Lent net lent) (i : ℕ) (there : i < length (net_in net).rows) (b : is_breaker (row_at (net_in net) i) ≡ true) where
  open from_reset net lent use {N, start, at}

  abbrev r : Row
  r = row_at N i

  abbrev a : ℕ
  a = row_area N r

  -- after the calls of w: the steps that the switch's area has taken, its current and its latch
  abbrev count : List ℕ → ℕ
  count w = count_of (at w).records a

  abbrev current : List ℕ → ℤ
  current w = from_current (at w) i

  abbrev set : List ℕ → ℕ
  set w = nat (latch (at w) i)

  -- step x of the area among the calls of w, right after which the switch's current is c
  pub record At (w : List ℕ) (x : ℕ) (c : ℤ) : Type 0 where
    pub step : StepIn net start w a x
    pub flows : from_current (advance_of net a (at step.before)).after i ≡ c

  -- at step x the switch may part, and its current is zero or of opposite sign to that of step x - 1
  pub record Parts (w : List ℕ) (x : ℕ) : Type 0 where
    pub opening : opens r - 1 ≤ x
    pub closed : closes r < x
    pub before : ℤ
    pub now : ℤ
    pub last : At w (x - 1) before
    pub this : At w x now
    pub crossing : crosses before now ≡ true

  -- "it is open from step k + 1 and stays so": no later step has a current
  abbrev pub StaysOpen : List ℕ → Type 0
  StaysOpen w = 1 ≤ set w → (x : ℕ) (c : ℤ) → At w x c → set w < x → c ≡ z

  pub record Breaker (w : List ℕ) : Type 0 where
    -- an accepted step is one of those counted, and the current in the records is that of the last
    pub inside : (x : ℕ) → StepIn net start w a x → (1 ≤ x) × (x ≤ count w)
    pub there_is : 1 ≤ count w → At w (count w) (current w)
    pub only : (c : ℤ) → At w (count w) c → c ≡ current w
    pub sign : latch (at w) i ≡ pos (set w)
    -- a latch that is set is a step at which the switch parts
    pub parted : 1 ≤ set w → Parts w (set w)
    -- and it is set by the first such step: 0 means that there was none
    pub first : (x : ℕ) → Parts w x → (1 ≤ set w) × (set w ≤ x)
    pub stays : StaysOpen w
