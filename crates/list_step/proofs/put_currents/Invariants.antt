-- `list_step::put_currents` meets its contract. The invariant: the lines of the rows passed are put. Assumes nothing.
use Rattle.whole.specs.Plain.{numbers}
use Rattle.list_digits.specs.Puts.{Puts}
use Rattle.list_step.specs.Joined.{joined}
use Rattle.list_step.specs.ByPlan.{current_line_by}
use Rattle.list_step.proofs.put_currents.Given as goal

abbrev pub invariant-loop-i : goal.invariant-loop-i
invariant-loop-i l = Puts l.initial.out l.at (joined (current_line_by l.plan l.records l.lines.head.step) (numbers 0 l.i)) l.next l.out
