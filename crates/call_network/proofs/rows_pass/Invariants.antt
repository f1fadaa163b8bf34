-- `call_network::rows_pass` meets its contract: the rows passed are replayed. Assumes nothing.
use Rattle.call_network.specs.Laws.{Replayed}
use Rattle.call_network.proofs.rows_pass.Given as goal

abbrev pub invariant-loop-words : goal.invariant-loop-words
invariant-loop-words l = Replayed l.net l.words-index l.seen
