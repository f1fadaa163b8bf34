-- `step_matrix::join_line` meets its contract. Assumes nothing.
use Rattle.whole.specs.Plain.{lt-ltb, le-ltb}
use Rattle.step_matrix.specs.Joined.{fallen, line_joined}
use Rattle.step_matrix.proofs.join_line.Goals as goal
use Rattle.step_matrix.proofs.join_line.Goals.{then-q-n, else-q-n}

pub returns : goal.returns
unfolding fallen line_joined
returns c =
    elim c.if-q-n.branch [
      | then-q-n w ↦ rw (w.line-is, lt-ltb c.args.q c.args.n w.if-q-n.true)
      | else-q-n w ↦ rw (w.line-is, le-ltb c.args.q c.args.n w.if-q-n.false)
    ]
