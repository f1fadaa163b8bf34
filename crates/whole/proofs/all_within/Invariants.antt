-- The invariant: the sign gathered so far, and the words that are left, say together what all words say.
use Rattle.std.specs.Prelude.{◌≡◌, ◌&&◌}
use Rattle.whole.specs.Plain.{pos, nat_abs, le_z, drop, every, up_to}
use Rattle.whole.proofs.all_within.Given as goal

abbrev pub invariant-loop-x : goal.invariant-loop-x
invariant-loop-x l = (le_z (pos 0) l.all && every (up_to (nat_abs l.fn.most)) (drop l.x-index l.xs)) ≡ every (up_to (nat_abs l.fn.most)) l.xs
