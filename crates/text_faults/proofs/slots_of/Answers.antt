-- of a line
use Rattle.whole.specs.Plain.{sym, ◌∙◌, eqb, eqb-true, div-le_self, arith}
use Rattle.std.specs.Prelude.{◌%◌}
use Rattle.paper.specs.Rows.{kind}
use Rattle.paper.specs.Faults.{depth, slots}
use Rattle.text_faults.specs.Laws.{line_travel, older_most}
use Rattle.text_faults.proofs.slots_of.Goals as goal

pub overflow_mul-result : goal.overflow_mul-result
overflow_mul-result c =
    let w = c.args.row.words in
    let l = line_travel w (omega arith) c.args.step (eqb-true (kind w) 4 (sym c.is_line.ensures ∙ c.if-is_line.true)) c.requires.1 in
    record { fits = omega (arith, div-le_self c.field-travel.result c.args.step, c.field-travel.ensures) }

pub overflow_add-result : goal.overflow_add-result
overflow_add-result c =
    let w = c.args.row.words in
    let l = line_travel w (omega arith) c.args.step (eqb-true (kind w) 4 (sym c.is_line.ensures ∙ c.if-is_line.true)) c.requires.1 in
    record { fits = omega (arith, div-le_self c.field-travel.result c.args.step, c.field-travel.ensures, c.older.ensures, older_most (eqb (c.field-travel.result % c.args.step) 0)) }

pub returns-then-is_line : goal.returns-then-is_line
unfolding slots depth
returns-then-is_line c = simp (sym c.is_line.ensures ∙ c.if-is_line.true, c.older.ensures, c.field-travel.ensures) (omega arith)

pub returns : goal.returns
unfolding slots
returns c = simp (sym c.is_line.ensures ∙ c.if-is_line.false)
