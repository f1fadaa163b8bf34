-- `call_shape::place_of` meets its contract: the rows that are left lead to the answer. Assumes nothing.
use Rattle.std.specs.Prelude.{◌-◌, ◌≡◌}
use Rattle.whole.specs.Plain.{ℕ}
use Rattle.plan_rows.specs.Planned.{Plan, row_in}
use Rattle.call_shape.specs.Asked.{place_from}
use Rattle.call_shape.proofs.place_of.Given as goal

abbrev pub number_in : Plan → ℕ → ℕ
number_in plan i = (row_in plan i).number

abbrev pub invariant-loop-i : goal.invariant-loop-i
invariant-loop-i l = place_from (number_in l.plan) l.branch l.i (l.rows - l.i) ≡ place_from (number_in l.plan) l.branch 0 l.rows
