use Rattle.text_study.specs.States.{started}
use Rattle.text_study.specs.Steps.{ended_all, closed_empty, closed_whole}
use Rattle.text_study.proofs.read_study.Goals as goal

pub loop-p-init : goal.loop-p-init
loop-p-init c = rw c.nothing_seen.ensures (started c.args.text.now c.args.net.now c.requires)

pub returns-then-p-eq1 : goal.returns-then-p-eq1
returns-then-p-eq1 c = rw (closed_empty c.loop-p.p c.if-p-eq1.true) at (ended_all c.args.text.now c.loop-p.p c.loop-p.net c.loop-p.invariant c.loop-p-test.false)

pub returns : goal.returns
returns c = rw (closed_whole c.loop-p.p c.if-p-eq1.false) at (ended_all c.args.text.now c.loop-p.p c.loop-p.net c.loop-p.invariant c.loop-p-test.false)
