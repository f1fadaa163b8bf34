-- `step_matrix::join` meets its contract. Assumes nothing.
use Rattle.whole.specs.Plain.{lt-ltb, le-ltb}
use Rattle.step_matrix.specs.Joined.{joined}
use Rattle.step_matrix.proofs.join.Goals as goal

pub returns-then-p-n : goal.returns-then-p-n
unfolding joined
returns-then-p-n c = let s = c.args in rw (lt-ltb s.p s.n c.if-p-n.true, c.join_line.ensures)

pub returns-else-p-n : goal.returns-else-p-n
unfolding joined
returns-else-p-n c = rw (le-ltb c.args.p c.args.n c.if-p-n.false)
