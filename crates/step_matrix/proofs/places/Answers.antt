-- `step_matrix::places` meets its contract: the first i free nodes have their places. Assumes nothing.
use Rattle.std.specs.Prelude.{◌≡◌}
use Rattle.whole.specs.Plain.{length, arith}
use Rattle.step_matrix.specs.Placed.{placed_none, placed_more}
use Rattle.step_matrix.proofs.places.Goals as goal

pub returns : goal.returns
returns c =
    let e : c.loop-i.i ≡ length c.args.free.now = omega arith in
    rw e at c.loop-i.invariant

pub loop-i-init : goal.loop-i-init
loop-i-init c = placed_none _

pub loop-i-preserved : goal.loop-i-preserved
loop-i-preserved c = placed_more c.requires c.loop-i.i (omega arith) c.loop-i.invariant
