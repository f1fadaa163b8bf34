-- Assumes nothing.
use Rattle.whole.specs.Plain.{eq-eqb, ne_eqb}
use Rattle.num_c.specs.Outcomes.{quotient_of}
use Rattle.num_c.proofs.numbers_nearest_quotient.Goals as goal

pub returns-then-b-eq0 : goal.returns-then-b-eq0
unfolding quotient_of
returns-then-b-eq0 c = rw (eq-eqb c.args.b 0 c.if-b-eq0.true)

pub returns : goal.returns
unfolding quotient_of
returns c = rw (ne_eqb c.args.b 0 c.if-b-eq0.false) c.nearest_quotient.ensures
