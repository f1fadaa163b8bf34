-- `step_conduct::is_open` meets its contract. Assumes nothing.
use Rattle.whole.specs.Plain.{sym, ◌∙◌, lt-ltb}
use Rattle.step_conduct.specs.Conducted.{no_switch, not_yet, no_more}
use Rattle.step_conduct.proofs.is_open.Goals as goal

pub returns-then-k-r : goal.returns-then-k-r
returns-then-k-r c = lt-ltb _ _ c.if-k-r.true ∙ not_yet c.args.k c.args.opens c.args.r (sym c.is_switch.ensures ∙ c.if-is_switch.true) c.if-k-r.true

pub returns-else-k-r : goal.returns-else-k-r
returns-else-k-r c = no_more _ _ _ (sym c.is_switch.ensures ∙ c.if-is_switch.true) c.if-k-r.false

pub returns-else-is_switch : goal.returns-else-is_switch
returns-else-is_switch c = c.if-is_switch.false ∙ no_switch c.args.k c.args.opens c.args.r (sym c.is_switch.ensures ∙ c.if-is_switch.false)
