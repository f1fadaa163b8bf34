use Rattle.std.specs.Prelude.{◌≤◌, ◌-◌, ◌≡◌}
use Rattle.whole.specs.Plain.{length}
use Rattle.paper.specs.Kinds.{number}
use Rattle.text_kinds.specs.Table.{ranges_of}
use Rattle.text_line.specs.Walks.{fields_from_at, fields_at}
use Rattle.text_line.proofs.fields_at.Given as goal

abbrev pub invariant-loop-i : goal.invariant-loop-i
invariant-loop-i l =
    (l.walk.at ≤ length l.text) × (fields_from_at l.text (number l.fn.kind) (length (ranges_of (number l.fn.kind)) - l.i) l.i l.walk ≡ fields_at l.text (number l.fn.kind) l.initial.walk)
