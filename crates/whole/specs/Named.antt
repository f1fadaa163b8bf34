-- A number that is 0 where there is none, as the paper has a node or a place in a table: what code answers by an Option or a Result. Assumes nothing.
use Rattle.std.specs.Prelude.{Option, Some, None}
use Rattle.whole.specs.Plain.{ℕ, zero, suc}

abbrev pub named : ℕ → Option ℕ
named zero = None
named (suc n) = Some (suc n)

-- the same of a place counted from 1: the place from 0
abbrev pub placed : ℕ → Option ℕ
placed zero = None
placed (suc i) = Some i
