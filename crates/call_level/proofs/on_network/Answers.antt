-- `call_level::on_network` meets its contract: the plan, 10 for a state that is not well formed or whose areas are not in step, else the piece. Assumes nothing.
use Rattle.whole.specs.Plain.{sym, true, length}
use Rattle.paper.specs.Advance.{memory}
use Rattle.laws_facts.specs.Nets.{net_in}
use Rattle.call_state.specs.OfRecord.{mapped_of}
use Rattle.call_level.specs.Cases.{gives_none, judged}
use Rattle.call_level.specs.Level.{level_here}
use Rattle.call_level.proofs.on_network.Goals as goal

pub in_step-requires : goal.in_step-requires
in_step-requires c =
    let o = mapped_of c.args.net.now c.requires.net_value.0 c.make-totals.ensures.planned c.make-totals.ensures.value in
    (record { net = _; of = o }, c.requires.net_value.1)

pub returns-then-not-in_step : goal.returns-then-not-in_step
returns-then-not-in_step c =
    let o = mapped_of c.args.net.now c.requires.net_value.0 c.make-totals.ensures.planned c.make-totals.ensures.value in
    gives_none _ _ _
    (judged c.args.net.now _ (memory c.args.records.now c.args.froms.now c.args.tos.now) _ _ (sym (c.if-not-in_step.ensures _ o)))

pub onward-requires-clause-of : goal.onward-requires-clause-of
onward-requires-clause-of c =
    let o = mapped_of c.args.net.now c.requires.net_value.0 c.make-totals.ensures.planned c.make-totals.ensures.value in
    (o.of, o.mapped)

pub onward-requires-clause-in_step : goal.onward-requires-clause-in_step
onward-requires-clause-in_step c =
    let o = mapped_of c.args.net.now c.requires.net_value.0 c.make-totals.ensures.planned c.make-totals.ensures.value in
    level_here c.args.net.now (memory c.args.records.now c.args.froms.now c.args.tos.now) c.requires.net_value.0 c.requires.net_value.1
    (sym (c.if-not-in_step.ensures _ o))

pub returns : goal.returns
returns c =
    let o = mapped_of c.args.net.now c.requires.net_value.0 c.make-totals.ensures.planned c.make-totals.ensures.value in
    rw
    (judged c.args.net.now (net_in c.args.net.now) (memory c.args.records.now c.args.froms.now c.args.tos.now) (length c.args.out.now) true
    (sym (c.if-not-in_step.ensures _ o)))
    c.onward.ensures
