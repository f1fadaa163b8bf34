-- Runs that mix the two calls which advance: from a reset, any list of calls of `advance` and of `list`, refused ones among them. Each leaves what a
-- run of advances leaves, so the promises of such runs are promises of mixed ones. Assumes nothing.
use Rattle.std.specs.Prelude.{◌∷◌, ◌++◌}
use Rattle.whole.specs.Plain.{ℕ, List, [], Words}
use Rattle.paper.specs.Advance.{Memory, advance_of}
use Rattle.paper.specs.Pieces.{list_of}
use Rattle.laws_runs.specs.Runs.{Lent, from_reset}
use Rattle.laws_mixed.specs.Made.{list_is_calls}

-- a call: of an area by its number, or of a listing into a buffer of so many bytes
pub data Call : Type 0 where
  advance list : ℕ → Call

abbrev pub leaves : Words → Call → Memory → Memory
leaves net (advance a) m = (advance_of net a m).after
leaves net (list room) m = (list_of net m room).after

-- the memory after the calls, in that order
unfoldable pub after_all : Words → List Call → Memory → Memory
after_all net [] m = m
after_all net (c ∷ w) m = after_all net w (leaves net c m)

-- the advances that they make
abbrev pub made : Words → Call → Memory → List ℕ
made net (advance a) m = a ∷ []
made net (list room) m = (list_is_calls net m room).calls

unfoldable pub advances : Words → List Call → Memory → List ℕ
advances net [] m = []
advances net (c ∷ w) m = made net c m ++ advances net w (leaves net c m)

module _ (net : Words) (lent : Memory) (ok : Lent net lent) where
  open from_reset net lent use {N, start}

  -- the memory after a mixed run, and its advances
  abbrev pub at : List Call → Memory
  at w = after_all net w start

  abbrev pub run : List Call → List ℕ
  run w = advances net w start
