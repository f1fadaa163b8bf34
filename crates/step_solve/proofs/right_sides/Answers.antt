-- `step_solve::right_sides` meets its contract: the first i. Assumes nothing.
use Rattle.std.specs.Prelude.{◌<◌, ◌≡◌}
use Rattle.whole.specs.Plain.{get_or, length, arith}
use mir.Facts.{to_z-of_z}
use Rattle.step_solve.specs.Rights.{rights_more}
use Rattle.step_solve.proofs.right_sides.Goals as goal

pub overflow_sub-inject : goal.overflow_sub-inject
overflow_sub-inject c =
    let p = get_or c.args.free.now c.loop-i.i 0 in
    let m : p < 33 = omega (arith, c.requires.free.0.node c.loop-i.i c.loop-i-test.true) in
    let n = c.requires.free.1 in
    simp (to_z-of_z, n.one p m, n.other p m) (n.less p m)

pub loop-i-preserved : goal.loop-i-preserved
loop-i-preserved c =
    let p = get_or c.args.free.now c.loop-i.i 0 in
    let m : p < 33 = omega (arith, c.requires.free.0.node c.loop-i.i c.loop-i-test.true) in
    let n = c.requires.free.1 in
    let e = simp (to_z-of_z, n.one p m, n.other p m, n.less p m) at c.to_double.ensures in
    rw e (rights_more (omega (arith, c.requires.free.0.few)) c.loop-i.invariant)

pub returns : goal.returns
returns c =
    let e : c.loop-i.i ≡ length c.args.free.now = omega arith in
    rw e at c.loop-i.invariant
