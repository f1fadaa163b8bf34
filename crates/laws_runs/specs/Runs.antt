-- A run: any list of area numbers, called one after the other from a reset, refused calls among them. Assumes nothing.
use Rattle.std.specs.Prelude.{◌≡◌, ◌&&◌, ◌∷◌}
use Rattle.whole.specs.Plain.{ℕ, Bool, true, not, List, [], eqb, length, Words}
use Rattle.paper.specs.Replies.{Advance}
use Rattle.paper.specs.Answers.{accepted, advance_number}
use Rattle.paper.specs.Network.{is_network}
use Rattle.paper.specs.Areas.{Net}
use Rattle.paper.specs.Advance.{Memory, advance_of, fits}
use Rattle.paper.specs.Resetting.{reset_of}
use Rattle.laws_facts.specs.Nets.{net_in}
use Rattle.laws_order.specs.Calls.{put}

-- what is lent has the lengths that refusal 9 asks, and the network passes refusal 8: a reset is accepted
pub record Lent (net : Words) (m : Memory) : Type 0 where
  pub lengths : fits net m ≡ true
  pub network : is_network net ≡ true

-- the memory after a reset of whatever was lent
abbrev pub reset : Words → Memory → Memory
reset net m = (reset_of net m).after

-- the memory after the calls of w, in that order
unfoldable pub after : Words → List ℕ → Memory → Memory
after net [] m = m
after net (a ∷ w) m = after net w (advance_of net a m).after

-- a run from a reset of what was lent: its network, where it starts, and the memory after the calls of w
pub record FromReset : Type 0 where
  pub N : Net
  pub start : Memory
  pub at : List ℕ → Memory

abbrev pub from_reset : Words → Memory → FromReset
from_reset net lent = record { N = net_in net; start = reset net lent; at = λ w. after net w (reset net lent) }

-- the accepted answers that area a gets, in order
unfoldable pub accepts : Words → ℕ → List ℕ → Memory → List Advance
accepts net a [] m = []
accepts net a (c ∷ w) m =
    let rest = accepts net a w (advance_of net c m).after in
    put (accepted (advance_of net c m).answer && eqb a c) (advance_of net c m).answer rest

-- how many of area a's calls are accepted
abbrev pub taken : Words → ℕ → List ℕ → Memory → ℕ
taken net a w m = length (accepts net a w m)

-- every answer but 13: what an area's own records and the far values that are sent already decide
abbrev pub firm : Advance → Bool
firm x = not (eqb (advance_number x) 13)
