-- `plan_rows::Row::node` meets its contract. Assumes nothing.
use Rattle.plan_rows.specs.Planned.{node_in}
use Rattle.plan_rows.proofs.Row.node.Goals as goal

pub returns-in-From : goal.returns-in-From
unfolding node_in
returns-in-From c = rw c.in-From.is

pub returns-in-To : goal.returns-in-To
unfolding node_in
returns-in-To c = rw c.in-To.is
