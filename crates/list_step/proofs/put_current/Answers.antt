-- `list_step::put_current` meets its contract, by the kind of the row. Assumes nothing.
use Rattle.whole.specs.Plain.{sym, ◌∙◌}
use Rattle.whole.specs.Int.{read64}
use Rattle.paper.specs.Rows.{bytes}
use Rattle.list_digits.specs.Puts.{puts_none, puts_as}
use Rattle.list_step.specs.ByPlan.{line_of_line, line_of_branch, line_of_source}
use Rattle.list_step.proofs.put_current.Goals as goal

pub put_line_row-requires : goal.put_line_row-requires
unfolding bytes
put_line_row-requires c =
    let t = line_of_line c.args.plan.now c.args.records.now c.args.lines.head.step c.args.i c.if-r-eq-LINE.true in
    record {
      number_value = c.requires.i_bound.1;
      y_in_bounds = rw (read64 _ c.from-1.given, read64 _ c.put_line_row-arg-1.given) (rw t at c.requires.i_in_bounds);
    }

pub returns-then-r-eq-LINE : goal.returns-then-r-eq-LINE
unfolding bytes
returns-then-r-eq-LINE c =
    puts_as (sym (line_of_line c.args.plan.now c.args.records.now c.args.lines.head.step c.args.i c.if-r-eq-LINE.true))
    (rw (c.requires.letter, read64 _ c.from-1.given, read64 _ c.put_line_row-arg-1.given) at c.put_line_row.ensures)

pub put_row-requires : goal.put_row-requires
unfolding bytes
put_row-requires c =
    let t = line_of_branch c.args.plan.now c.args.records.now c.args.lines.head.step c.args.i c.if-r-eq-LINE.false (sym c.is_branch.ensures ∙ c.if-is_branch.true) in
    record {
      number_value = c.requires.i_bound.1;
      x_in_bounds = rw (read64 _ c.from-1.given) (rw t at c.requires.i_in_bounds);
    }

pub returns-then-is_branch : goal.returns-then-is_branch
unfolding bytes
returns-then-is_branch c =
    puts_as (sym (line_of_branch c.args.plan.now c.args.records.now c.args.lines.head.step c.args.i c.if-r-eq-LINE.false (sym c.is_branch.ensures ∙ c.if-is_branch.true)))
    (rw (c.requires.letter, read64 _ c.from-1.given) at c.put_row.ensures)

pub returns : goal.returns
returns c =
    puts_as (sym (line_of_source c.args.plan.now c.args.records.now c.args.lines.head.step c.args.i c.if-r-eq-LINE.false (sym c.is_branch.ensures ∙ c.if-is_branch.false)))
    (puts_none c.args.out.now c.args.at)
