-- `step_matrix::prepare` meets its contract. Assumes nothing.
use Rattle.step_matrix.specs.Block.{block_serves, block_renewed}
use Rattle.step_matrix.proofs.prepare.Goals as goal

pub returns : goal.returns
returns c =
    let room = c.requires.2 in
    let r = c.fill.ensures in
    rw c.factor.ensures (record { serves = block_serves room r; renewed = block_renewed room r })
