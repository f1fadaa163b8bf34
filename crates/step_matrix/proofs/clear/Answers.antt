-- `step_matrix::clear` meets its contract: the first p lines of the block are zeros. Assumes nothing.
use Rattle.std.specs.Prelude.{◌≡◌}
use Rattle.whole.specs.Plain.{arith}
use lib.Ieee.{of_bits}
use Rattle.step_matrix.specs.Cleared.{cleared_none, cleared_more}
use Rattle.step_matrix.proofs.clear.Goals as goal

pub loop-p-init : goal.loop-p-init
loop-p-init c = cleared_none _ _ c.requires.1

pub loop-p-preserved : goal.loop-p-preserved
unfolding of_bits
loop-p-preserved c = cleared_more c.requires.0 (omega arith) c.loop-p.invariant

pub returns : goal.returns
returns c =
    let e : c.loop-p.p ≡ c.args.n = omega arith in
    rw e at c.loop-p.invariant
