-- `text_kinds::in_range` meets its contract: from the i-th field on. Assumes nothing.
use Rattle.std.specs.Prelude.{◌≤◌, ◌-◌, ◌≡◌}
use Rattle.whole.specs.Plain.{length}
use Rattle.paper.specs.Kinds.{number}
use Rattle.text_kinds.specs.Table.{first_outside, in_range}
use Rattle.text_kinds.proofs.in_range.Given as goal

abbrev pub invariant-loop-i : goal.invariant-loop-i
invariant-loop-i l = (length l.all ≤ 5) × (first_outside (number l.fn.kind) l.i (length l.all - l.i) l.row ≡ in_range (number l.fn.kind) l.row)
