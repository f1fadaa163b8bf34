-- `step_received::far` meets its contract, at either end. Assumes nothing.
use Rattle.step_received.proofs.far.Goals as goal

pub returns-in-From : goal.returns-in-From
returns-in-From c = rw c.in-From.is

pub returns-in-To : goal.returns-in-To
returns-in-To c = rw c.in-To.is
