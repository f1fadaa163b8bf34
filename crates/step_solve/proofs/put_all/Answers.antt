-- `step_solve::put_all` meets its contract: the first i are within the range. Assumes nothing.
use Rattle.std.specs.Prelude.{◌≡◌}
use Rattle.whole.specs.Plain.{sym, ◌∙◌, length, arith}
use Rattle.std.proofs.Common.{rules}
use Rattle.whole.specs.Int.{read64}
use Rattle.step_solve.specs.Settling.{settled_none, settled_more, settled_out, settled_all}
use Rattle.step_solve.proofs.put_all.Goals as goal

pub loop-i-init : goal.loop-i-init
loop-i-init c = settled_none c.requires.0 c.args.xs.now c.requires.1 c.args.v.now

pub returns-in_default : goal.returns-in_default
returns-in_default c = settled_out c.requires.0 c.args.xs.now c.requires.1 c.loop-i.i c.loop-i-test.true c.loop-i.invariant (sym c.in_default.ensures)

pub loop-i-preserved : goal.loop-i-preserved
loop-i-preserved c =
    let e = sym c.nearest.ensures ∙ c.in-Some.is in
    rw (read64 c.in-Some.near.tenths (search rules)) (settled_more c.requires.0 c.args.xs.now c.requires.1 c.loop-i.i c.loop-i-test.true c.loop-i.invariant e)

pub returns : goal.returns
returns c =
    let e : c.loop-i.i ≡ length c.args.free.now = omega arith in
    settled_all c.requires.0 c.args.xs.now c.requires.1 (rw e at c.loop-i.invariant)
