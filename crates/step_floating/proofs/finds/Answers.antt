-- `step_floating::finds` meets its contract. Assumes nothing.
use Rattle.whole.specs.Plain.{sym, ◌∙◌}
use Rattle.step_floating.specs.Search.{finds}
use Rattle.step_floating.proofs.finds.Goals as goal

pub returns-then-meets : goal.returns-then-meets
unfolding finds
returns-then-meets c = rw (sym c.meets.ensures ∙ c.if-meets.true) c.reaches.ensures

pub returns-else-meets : goal.returns-else-meets
unfolding finds
returns-else-meets c = rw (sym c.meets.ensures ∙ c.if-meets.false)
