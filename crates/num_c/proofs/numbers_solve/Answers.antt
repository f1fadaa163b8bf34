-- Assumes nothing.
use Rattle.whole.specs.Plain.{le-leb, lt-leb}
use Rattle.num_c.specs.Outcomes.{solution}
use Rattle.num_c.proofs.numbers_solve.Goals as goal

pub returns-then-n : goal.returns-then-n
unfolding solution
returns-then-n c = rw (lt-leb c.args.n 32 c.if-n.true)

pub returns : goal.returns
unfolding solution
returns c =
    let f = c.before.before.before.before in
    let t = f.before.before.before in
    rw (c.substitute.ensures, f.factor.ensures, le-leb t.args.n 32 t.if-n.false)
