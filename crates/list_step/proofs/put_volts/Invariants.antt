-- `list_step::put_volts` meets its contract. The invariant: the lines of the nodes passed are put. Assumes nothing.
use Rattle.std.specs.Prelude.{◌+◌, ◌-◌, ◌≤◌}
use Rattle.whole.specs.Plain.{numbers}
use Rattle.list_digits.specs.Puts.{Puts}
use Rattle.list_step.specs.Joined.{joined, volt_line}
use Rattle.list_step.proofs.put_volts.Given as goal

abbrev pub invariant-loop-node : goal.invariant-loop-node
invariant-loop-node l = (l.node ≤ l.nodes + 1) × Puts l.initial.out l.at (joined (volt_line l.records l.lines.head.step) (numbers 1 (l.node - 1))) l.next l.out
