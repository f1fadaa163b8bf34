-- `step_histories::history` meets its contract. Assumes nothing.
use Rattle.whole.specs.Plain.{eq-eqb, ne_eqb}
use Rattle.whole.specs.Int.{read64}
use Rattle.step_histories.specs.Heard.{history_of}
use Rattle.step_histories.proofs.history.Goals as goal

pub returns-then-l-eq-LINE : goal.returns-then-l-eq-LINE
unfolding history_of
returns-then-l-eq-LINE c = rw (eq-eqb _ 4 c.if-l-eq-LINE.true, read64 c.received.result c.received.type_inv) (rw c.side.ensures at c.received.ensures)

pub returns-else-l-eq-LINE : goal.returns-else-l-eq-LINE
unfolding history_of
returns-else-l-eq-LINE c = rw (ne_eqb _ 4 c.if-l-eq-LINE.false, read64 c.held.result c.held.type_inv) c.held.ensures
