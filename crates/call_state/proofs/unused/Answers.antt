-- `call_state::unused` meets its contract. Assumes nothing.
use Rattle.call_state.specs.Judged.{part_formed}
use Rattle.call_state.proofs.unused.Goals as goal

pub returns : goal.returns
unfolding part_formed
returns c = c.all_zero.ensures
