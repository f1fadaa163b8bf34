-- The invariant: the bits gathered so far, and the words that are left, say together what all words say.
use Rattle.std.specs.Prelude.{◌≡◌, ◌&&◌}
use Rattle.whole.specs.Plain.{eqb}
use Rattle.whole.specs.Plain.{drop, every, up_to}
use mir.Syntax.{w64}
use mir.Val.{of_z}
use Rattle.std.proofs.Common.{of_z, w64}
use Rattle.whole.proofs.all_zero.Given as goal

abbrev pub invariant-loop-x : goal.invariant-loop-x
invariant-loop-x l = (eqb (of_z w64 l.all) 0 && every (up_to 0) (drop l.x-index l.xs)) ≡ every (up_to 0) l.xs
