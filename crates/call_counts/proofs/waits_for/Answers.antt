-- `call_counts::waits_for` meets its contract: a row that is no line is passed over. Assumes nothing.
use Rattle.whole.specs.Plain.{eq-eqb, ne_eqb, arith}
use Rattle.call_counts.specs.Counts.{waits_by}
use Rattle.call_counts.proofs.waits_for.Goals as goal

pub returns-then-r-ne-LINE : goal.returns-then-r-ne-LINE
unfolding waits_by
returns-then-r-ne-LINE c = rw (ne_eqb c.args.r.kind 4 c.if-r-ne-LINE.true)

pub count_of-from-requires : goal.count_of-from-requires
count_of-from-requires c = (c.requires (eq-eqb c.args.r.kind 4 c.if-r-ne-LINE.false)).from

pub count_of-to-requires : goal.count_of-to-requires
count_of-to-requires c = (c.requires (eq-eqb c.args.r.kind 4 c.if-r-ne-LINE.false)).to

pub overflow_add-result : goal.overflow_add-result
overflow_add-result c =
    let e = c.requires (eq-eqb c.args.r.kind 4 c.if-r-ne-LINE.false) in
    omega (arith, c.count_of-to.ensures, e.to.most, e.delay)

pub overflow_add-result-2 : goal.overflow_add-result-2
overflow_add-result-2 c =
    let e = c.requires (eq-eqb c.args.r.kind 4 c.if-r-ne-LINE.false) in
    omega (arith, c.count_of-from.ensures, e.from.most, e.delay)

pub returns : goal.returns
unfolding waits_by
returns c = rw (eq-eqb c.args.r.kind 4 c.if-r-ne-LINE.false, c.count_of-from.ensures, c.count_of-to.ensures)
