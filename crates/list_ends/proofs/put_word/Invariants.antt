-- `list_ends::put_word` meets its contract. The invariant: the bytes passed are put. Assumes nothing.
use Rattle.std.specs.Prelude.{◌+◌, take}
use Rattle.list_digits.specs.Puts.{Puts}
use Rattle.list_ends.proofs.put_word.Given as goal

abbrev pub invariant-loop-i : goal.invariant-loop-i
invariant-loop-i l = Puts l.initial.out l.at (take l.i l.word) (l.at + l.i) l.out
