-- `plan_rows::Row::may_part` meets its contract. Assumes nothing.
use Rattle.plan_rows.specs.Switching.{may_part_by, open_by}
use Rattle.plan_rows.proofs.Row.may_part.Goals as goal

pub returns : goal.returns
unfolding may_part_by
returns c = rw open_by
