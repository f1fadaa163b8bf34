-- `step_conduct::conducting` meets its contract. Assumes nothing.
use Rattle.whole.specs.Plain.{sym, ◌∙◌}
use Rattle.step_conduct.specs.Conducted.{conducts_of}
use Rattle.step_conduct.proofs.conducting.Goals as goal

pub returns-then-is_open : goal.returns-then-is_open
unfolding conducts_of
returns-then-is_open c = rw (sym c.is_open.ensures ∙ c.if-is_open.true)

pub returns-else-is_open : goal.returns-else-is_open
unfolding conducts_of
returns-else-is_open c = rw (sym c.is_open.ensures ∙ c.if-is_open.false)
