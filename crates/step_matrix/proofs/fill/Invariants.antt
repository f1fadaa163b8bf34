-- `step_matrix::fill` meets its contract: the block of the first j legs. Assumes nothing.
use Rattle.whole.specs.Plain.{take}
use Rattle.step_legs.specs.Wires.{legs_in}
use Rattle.step_matrix.specs.Block.{Block}
use Rattle.step_matrix.proofs.fill.Given as goal

abbrev pub invariant-loop-l : goal.invariant-loop-l
invariant-loop-l l = Block (take l.l-index (legs_in l.legs)) l.free l.base l.initial.a l.a
