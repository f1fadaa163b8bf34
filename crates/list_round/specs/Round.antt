-- The areas' turns in one step: the piece that they come to, and the state and the tables that they start from. Assumes nothing.
use Rattle.whole.specs.Plain.{ℕ, suc, true, List, pos, Words}
use Rattle.std.specs.Prelude.{Float, Result, Ok, Err, IsOk, ◌+◌, ◌<◌, ◌≡◌, ◌++◌}
use Rattle.paper.specs.declared.Pause.TheVariants as Pause
use Rattle.whole.specs.Turns.{turns}
use Rattle.paper.specs.Rows.{steps}
use Rattle.paper.specs.Rows as Rows
use Rattle.paper.specs.Network.{is_network}
use Rattle.paper.specs.Areas.{area_count}
use Rattle.paper.specs.Advance.{Memory, memory}
use Rattle.paper.specs.Listing.{stop_line}
use Rattle.paper.specs.Pieces.{Piece, writing, ended, listed, area_piece}
use Rattle.laws_facts.specs.Nets.{net_in}
use Rattle.laws_pieces.specs.Level.{Level}
use Rattle.step_take.specs.declared.Turn.{Turn}
use Rattle.step_keep.specs.Tabled.{Tables}
use Rattle.list_round.specs.declared.Step.{Step}
use Rattle.list_round.specs.declared.Stopped.{Stopped}
use Rattle.plan_rows.specs.declared.Row.{Row}
use Rattle.plan_own.specs.declared.Own.{Own}
use Rattle.step_legs.specs.declared.Wire.{Wire}
use Rattle.step_legs.specs.declared.Source.{Source}

-- all areas of a well-formed state have taken k steps
pub record InStep (net : Words) (k : ℕ) (m : Memory) : Type 0 where
  pub network : is_network net ≡ true
  pub level : Level net network k m

-- all areas took the step, or the first that did not stopped it
abbrev pub Round : Type 0
Round = Result (Unit {0}) Stopped

-- after the bytes `out`, at step k
abbrev pub round_piece : ℕ → List ℕ → Memory → Round → Piece
round_piece k out m (Ok u) = writing m out
round_piece k out m (Err s) = ended (listed (Ok (Pause.Stopped s.area s.refusal)) (out ++ stop_line k s.area s.refusal) m)

-- step k + 1 of all areas, from memory m: what it answers and leaves
pub record Rounds (net : Words) (k : ℕ) (m : Memory) (r : Round) (after : Memory) : Type 0 where
  pub is : (out : List ℕ) → turns 1 (suc (area_count (net_in net))) (area_piece net (suc k)) (writing m out) ≡ round_piece (suc k) out after r
  pub on : IsOk r → InStep net (suc k) after

-- ---- by the tables of all areas of the record's network

abbrev pub AllTables : Words → ℕ → Words → List Row → List Own → List Wire → List ℕ → List Source → List (List Float) → Type 0
AllTables net k recs plan owns legs nodes sources f = Tables (net_in net) 1 (area_count (net_in net)) k recs plan owns legs nodes sources f

-- area a's turn in a step
abbrev pub turn_of : Step → ℕ → Turn
turn_of step a = record { area = a; k = step.taken + 1; limit = step.limit }

-- the areas are in step, and a step is left
pub record Starts (net : Words) (step : Step) (plan : List Row) (owns : List Own) (legs : List Wire) (nodes : List ℕ) (sources : List Source) (f : List (List Float)) (m : Memory) : Type 0 where
  pub tables : AllTables net (suc step.taken) m.records plan owns legs nodes sources f
  pub level : InStep net step.taken m
  pub left : step.taken < steps (net_in net).head
  pub areas : step.areas ≡ area_count (net_in net)
  pub limit : step.limit ≡ pos (Rows.limit (net_in net).head)

-- of some network
pub record Startable (step : Step) (plan : List Row) (owns : List Own) (legs : List Wire) (nodes : List ℕ) (sources : List Source) (f : List (List Float)) (recs froms tos : Words) : Type 0 where
  pub net : Words
  pub starts : Starts net step plan owns legs nodes sources f (memory recs froms tos)

pub record Ran (net : Words) (k : ℕ) (plan : List Row) (nodes : List ℕ) (sources : List Source) (m : Memory) (r : Round) (owns : List Own) (legs : List Wire) (f : List (List Float)) (after : Memory) : Type 0 where
  pub tables : AllTables net (suc k) after.records plan owns legs nodes sources f
  pub rounds : Rounds net k m r after

-- of every network
pub record Runs (step : Step) (plan : List Row) (nodes : List ℕ) (sources : List Source) (owns : List Own) (legs : List Wire) (f : List (List Float)) (m : Memory) (r : Round) (owns' : List Own) (legs' : List Wire) (f' : List (List Float)) (after : Memory) : Type 0 where
  pub of : (net : Words) → Starts net step plan owns legs nodes sources f m → Ran net step.taken plan nodes sources m r owns' legs' f' after
