-- `call_state::tails_formed` meets its contract. Assumes nothing.
use Rattle.call_state.specs.Judged.{tails_formed}
use Rattle.call_state.proofs.tails_formed.Goals as goal

pub returns : goal.returns
unfolding tails_formed
returns c = rw (c.unused-currents.ensures, c.unused-to_currents.ensures, c.unused-histories.ensures, c.unused-latches.ensures, c.unused-rest.ensures)
