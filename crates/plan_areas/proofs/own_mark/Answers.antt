-- `plan_areas::own_mark` meets its contract. Assumes nothing.
use Rattle.whole.specs.Plain.{le-leb, lt-leb}
use Rattle.plan_areas.proofs.own_mark.Goals as goal

pub returns-then-n-nodes : goal.returns-then-n-nodes
returns-then-n-nodes c = rw (le-leb c.args.n c.args.nodes c.if-n-nodes.true)

pub returns-else-n-nodes : goal.returns-else-n-nodes
returns-else-n-nodes c = rw (lt-leb c.args.n c.args.nodes c.if-n-nodes.false)
