-- `call_node::on_network` meets its contract: 10 of the records, 2, or what is told. Assumes nothing.
use Rattle.std.specs.Prelude.{◌≤◌, ◌<◌, ◌≡◌, ◌&&◌}
use Rattle.whole.specs.Plain.{sym, ap, false, leb, le-leb, lt-leb, arith}
use Rattle.paper.specs.Looking.{look_net}
use Rattle.laws_facts.specs.Nets.{net_in}
use Rattle.plan_rows.specs.declared.Totals.{Totals}
use Rattle.plan_net.specs.Of.{of_record}
use Rattle.call_state.specs.OfRecord.{mapped_of}
use Rattle.call_node.proofs.on_network.Goals as goal
use Rattle.call_node.proofs.on_network.Goals.{then-n-lt1-via-then-n-lt1, then-n-lt1-via-else-n-lt1+then-totals-n}

pub records_formed-requires : goal.records_formed-requires
records_formed-requires c = (record { net = _; of = mapped_of c.args.net.now c.requires.0 c.make-totals.ensures.planned c.make-totals.ensures.value }, c.requires.1)

pub returns-then-not-records_formed : goal.returns-then-not-records_formed
unfolding look_net
returns-then-not-records_formed c =
    rw (sym (c.if-not-records_formed.ensures _ (mapped_of c.args.net.now c.requires.0 c.make-totals.ensures.planned c.make-totals.ensures.value)))

pub returns-then-n-lt1 : goal.returns-then-n-lt1
unfolding look_net
returns-then-n-lt1 c =
    let N = net_in c.args.net.now in
    let outside : (leb 1 c.args.n && leb c.args.n N.nodes) ≡ false = elim c.then-n-lt1.branch [
      | then-n-lt1-via-then-n-lt1 w ↦ rw (lt-leb 1 c.args.n w.if-n-lt1.true)
      | then-n-lt1-via-else-n-lt1+then-totals-n w ↦
          let h : N.nodes < c.args.n = omega (arith, w.if-totals-n.true, ap (λ (t : Totals). t.nodes) c.make-totals.ensures.value) in
          rw (le-leb 1 c.args.n w.if-n-lt1.false, lt-leb c.args.n N.nodes h)
    ] in
    rw (sym (c.if-not-records_formed.ensures _ (mapped_of c.args.net.now c.requires.0 c.make-totals.ensures.planned c.make-totals.ensures.value)), outside)

pub told-requires : goal.told-requires
told-requires c =
    let o = of_record c.args.net.now c.requires.0 c.make-totals.ensures.planned.0 c.make-totals.ensures.value in
    (c.if-n-lt1.false, omega (arith, ap (λ (t : Totals). t.nodes) c.make-totals.ensures.value, o.sound.node_most), c.requires.1)

pub returns : goal.returns
unfolding look_net
returns c =
    let N = net_in c.args.net.now in
    let h : c.args.n ≤ N.nodes = omega (arith, ap (λ (t : Totals). t.nodes) c.make-totals.ensures.value) in
    rw (
      sym (c.if-not-records_formed.ensures _ (mapped_of c.args.net.now c.requires.0 c.make-totals.ensures.planned c.make-totals.ensures.value)),
      le-leb 1 c.args.n c.if-n-lt1.false,
      le-leb c.args.n N.nodes h,
    ) (c.told.ensures N)
