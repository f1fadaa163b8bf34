-- `plan_areas::number_node` meets its contract. Assumes nothing.
use Rattle.whole.specs.Plain.{eq-eqb, ne_eqb}
use Rattle.plan_areas.specs.Numbered.{count_at, number_at}
use Rattle.plan_areas.proofs.number_node.Goals as goal

pub returns-then-low-n : goal.returns-then-low-n
unfolding count_at number_at
returns-then-low-n c = let e = eq-eqb _ _ c.if-low-n.true in (rw e, rw e)

pub returns : goal.returns
unfolding count_at number_at
returns c = let e = ne_eqb _ _ c.if-low-n.false in (rw e, rw e)
