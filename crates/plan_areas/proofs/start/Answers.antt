-- `plan_areas::start` meets its contract. The invariant: the places passed have their nodes' own numbers. Assumes nothing.
use Rattle.std.specs.Prelude.{◌≡◌}
use Rattle.whole.specs.Plain.{◌∙◌, length-set, arith}
use Rattle.whole.specs.Upto.{upto_none, upto_next}
use Rattle.plan_areas.specs.Marks.{own_mark, own_marks}
use Rattle.plan_areas.proofs.start.Goals as goal

pub loop-n-preserved : goal.loop-n-preserved
loop-n-preserved c = (
  length-set c.loop-n.area c.loop-n.n c.own_mark.result ∙ c.loop-n.invariant.0,
  upto_next 0 (own_mark c.args.nodes) c.loop-n.n c.loop-n.area c.own_mark.result (omega (arith, c.loop-n.invariant.0)) c.own_mark.ensures c.loop-n.invariant.1,
)

pub returns : goal.returns
returns c =
    let e : c.loop-n.n ≡ 33 = omega arith in
    own_marks c.args.nodes c.loop-n.area (omega arith) c.loop-n.invariant.0 (rw e at c.loop-n.invariant.1)

pub loop-n-init : goal.loop-n-init
loop-n-init c = (omega arith, upto_none 0 (own_mark c.args.nodes) c.args.area.now)
