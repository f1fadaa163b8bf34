use Rattle.std.specs.Prelude.{Some, ◌+◌}
use Rattle.whole.specs.Plain.{ℤ, ◌∙◌, ap, arith}
use Rattle.std.specs.Int.{w64}
use Rattle.std.proofs.Common.{to_z-of_z, rules}
use Rattle.text_line.specs.Walks.{passed, field_none, field_read, tab_in, word_in}
use Rattle.text_line.proofs.field_at.Goals as goal

pub returns-then-not-is_at : goal.returns-then-not-is_at
returns-then-not-is_at c = let a = c.args in field_none a.text.now a.range.low a.i a.walk c.is_at.ensures c.if-not-is_at.true

pub end_of-end-requires : goal.end_of-end-requires
end_of-end-requires c = let a = c.args in omega (arith, tab_in a.text.now a.range.low a.i a.walk c.is_at.ensures c.if-not-is_at.false)

pub slice_bounds-read_number-end : goal.slice_bounds-read_number-end
slice_bounds-read_number-end c =
    let a = c.args in
    omega (arith, word_in a.text.now (a.walk.at + 1) (omega (arith, tab_in a.text.now a.range.low a.i a.walk c.is_at.ensures c.if-not-is_at.false)), c.end_of-end.ensures)

pub returns-in-Some : goal.returns-in-Some
returns-in-Some c =
    let a = c.args in
    let low = to_z-of_z {w = w64} {z = a.range.low} (search rules) in
    ap (λ (x : ℤ). passed a.walk a.i c.end_of-end.result (Some x)) (to_z-of_z {w = w64} (search rules))
    ∙ field_read a.text.now a.range.low a.i a.walk c.is_at.ensures c.if-not-is_at.false c.end_of-end.ensures low c.in-Some.ensures

pub returns-in-None : goal.returns-in-None
returns-in-None c =
    let a = c.args in
    let low = to_z-of_z {w = w64} {z = a.range.low} (search rules) in
    field_read a.text.now a.range.low a.i a.walk c.is_at.ensures c.if-not-is_at.false c.end_of-end.ensures low c.in-None.ensures
