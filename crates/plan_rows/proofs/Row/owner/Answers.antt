-- `plan_rows::Row::owner` meets its contract. Assumes nothing.
use Rattle.plan_rows.specs.Planned.{owner_in}
use Rattle.plan_rows.proofs.Row.owner.Goals as goal

pub returns-in-From : goal.returns-in-From
unfolding owner_in
returns-in-From c = rw c.in-From.is

pub returns-in-To : goal.returns-in-To
unfolding owner_in
returns-in-To c = rw c.in-To.is
