-- `step_latch::crosses` meets its contract. Assumes nothing.
use mir.Facts.{to_z-of_z}
use Rattle.paper.specs.Latch as Latch
use Rattle.step_latch.proofs.crosses.Goals as goal

pub returns-then-now-lt0 : goal.returns-then-now-lt0
unfolding Latch.crosses
returns-then-now-lt0 c =
    let s = c.before in
    rw (to_z-of_z s.ranges.before, rw (to_z-of_z s.ranges.now) at c.if-now-lt0.true)

pub returns-then-now-gt0 : goal.returns-then-now-gt0
unfolding Latch.crosses
returns-then-now-gt0 c =
    let s = c.before.before in
    let n = to_z-of_z s.ranges.now in
    rw (to_z-of_z s.ranges.before, rw n at c.if-now-lt0.false, rw n at c.if-now-gt0.true)

pub returns : goal.returns
unfolding Latch.crosses
returns c =
    let s = c.before.before in
    let n = to_z-of_z s.ranges.now in
    rw (rw n at c.if-now-lt0.false, rw n at c.if-now-gt0.false)
