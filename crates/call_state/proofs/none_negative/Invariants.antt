-- `call_state::none_negative` meets its contract. The invariant: the flag and the words that are left say together what all words say.
use Rattle.std.specs.Prelude.{◌≡◌, ◌&&◌}
use Rattle.whole.specs.Plain.{non_neg, drop, every}
use Rattle.call_state.proofs.none_negative.Given as goal

abbrev pub invariant-loop-x : goal.invariant-loop-x
invariant-loop-x l = (l.all && every non_neg (drop l.x-index l.words)) ≡ every non_neg l.words
