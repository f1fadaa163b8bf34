-- A branch's two ends by number, as the tables have them: 1 the from end, 2 the to end. Assumes nothing.
use Rattle.whole.specs.Plain.{ℕ, cond, eqb}
use Rattle.paper.specs.declared.Side.{Side}
use Rattle.paper.specs.declared.Side.TheVariants.{From, To}

abbrev pub side_number : Side → ℕ
side_number From = 1
side_number To = 2

-- the end of a number: what is not 1 is the to end
abbrev pub side_by : ℕ → Side
side_by e = cond (eqb e 1) From To
