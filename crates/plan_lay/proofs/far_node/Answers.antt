-- `plan_lay::far_node` meets its contract. Assumes nothing.
use Rattle.whole.specs.Plain.{eq-eqb, ne_eqb}
use Rattle.plan_rows.specs.Planned.{node_in}
use Rattle.plan_lay.specs.Ends.{far_in}
use Rattle.plan_lay.proofs.far_node.Goals as goal

pub returns-then-r-eq-LINE : goal.returns-then-r-eq-LINE
unfolding far_in
returns-then-r-eq-LINE c = rw (eq-eqb c.args.r.kind 4 c.if-r-eq-LINE.true)

pub returns-in-From : goal.returns-in-From
unfolding far_in node_in
returns-in-From c = rw (c.in-From.is, ne_eqb c.args.r.kind 4 c.if-r-eq-LINE.false)

pub returns-in-To : goal.returns-in-To
unfolding far_in node_in
returns-in-To c = rw (c.in-To.is, ne_eqb c.args.r.kind 4 c.if-r-eq-LINE.false)
