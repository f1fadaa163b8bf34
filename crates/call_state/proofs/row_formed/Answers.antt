-- `call_state::row_formed` meets its contract. Assumes nothing.
use Rattle.call_state.specs.Judged.{row_formed}
use Rattle.call_state.proofs.row_formed.Goals as goal

pub returns : goal.returns
unfolding row_formed
returns c = rw (c.words_formed-words.ensures, c.near-counts.ensures, c.latched-latch.ensures)
