-- `plan_rows::number_of` meets its contract. Assumes nothing.
use Rattle.whole.specs.Plain.{sym, ◌∙◌, arith}
use Rattle.plan_rows.proofs.number_of.Goals as goal

pub returns-then-is_branch : goal.returns-then-is_branch
returns-then-is_branch c = rw (sym c.is_branch.ensures ∙ c.if-is_branch.true)

pub returns-else-is_branch : goal.returns-else-is_branch
returns-else-is_branch c = rw (sym c.is_branch.ensures ∙ c.if-is_branch.false) (omega arith)
