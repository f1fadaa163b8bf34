-- `call_counts::first_late` meets its contract. The invariant: of every network that the plan is of, the rows that are left lead to the answer.
-- Assumes nothing.
use Rattle.std.specs.Prelude.{◌≡◌}
use Rattle.whole.specs.Plain.{drop}
use Rattle.paper.specs.Areas.{Net}
use Rattle.paper.specs.Advance.{first_late}
use Rattle.call_counts.specs.Lines.{RowsOf}
use Rattle.call_counts.proofs.first_late.Given as goal

abbrev pub invariant-loop-i : goal.invariant-loop-i
invariant-loop-i l = (N : Net) → RowsOf N l.plan l.rows → first_late N l.area l.k l.records l.i (drop l.i N.rows) ≡ first_late N l.area l.k l.records 0 N.rows
