-- `call_shape::area` meets its contract: a node of the network has the area that the plan has for it. Assumes nothing.
use Rattle.std.specs.Prelude.{Ok, ◌≤◌, ◌<◌, ◌≡◌, ◌&&◌}
use Rattle.std.proofs.lemmas.Result.{err_from_is_err_and}
use Rattle.whole.specs.Plain.{sym, ap, ◌∙◌, false, leb, le-leb, lt-leb, arith}
use Rattle.laws_facts.specs.Nets.{net_in}
use Rattle.laws_facts.proofs.Nets.{net_sound}
use Rattle.plan_rows.specs.declared.Totals.{Totals}
use Rattle.call_network.specs.Admitted.{fit_network}
use Rattle.call_shape.specs.Asked.{area_in}
use Rattle.call_shape.specs.LaidOut.{refuses, laid_out}
use Rattle.call_shape.proofs.area.Goals as goal
use Rattle.call_shape.proofs.area.Goals.{then-node-lt1-via-then-node-lt1, then-node-lt1-via-else-node-lt1+then-totals-node}

pub returns-in_err-admit : goal.returns-in_err-admit
returns-in_err-admit c =
    let p = err_from_is_err_and c.from_residual.result c.from_residual.ensures.1 in
    rw (p.1, p.2) (sym (refuses c.args.network.now c.in_err-admit.ensures (λ N. area_in N c.args.node)))

pub make-totals-requires-clause-net_value : goal.make-totals-requires-clause-net_value
make-totals-requires-clause-net_value c = fit_network c.args.network.now c.in_ok-admit.ensures

pub returns-then-node-lt1 : goal.returns-then-node-lt1
unfolding area_in
returns-then-node-lt1 c =
    let N = net_in c.args.network.now in
    let l = laid_out c.in_ok-admit.ensures c.make-totals.ensures.planned c.make-totals.ensures.value in
    let outside : (leb 1 c.args.node && leb c.args.node N.nodes) ≡ false = elim c.then-node-lt1.branch [
      | then-node-lt1-via-then-node-lt1 w ↦ rw (lt-leb 1 c.args.node w.if-node-lt1.true)
      | then-node-lt1-via-else-node-lt1+then-totals-node w ↦
          let h : N.nodes < c.args.node = omega (arith, w.if-totals-node.true, ap (λ (t : Totals). t.nodes) l.counts) in
          rw (le-leb 1 c.args.node w.if-node-lt1.false, lt-leb c.args.node N.nodes h)
    ] in
    sym (l.asked (λ M. area_in M c.args.node) ∙ rw outside)

pub offset_bounds-areas-node : goal.offset_bounds-areas-node
offset_bounds-areas-node c =
    let l = laid_out c.in_ok-admit.ensures c.make-totals.ensures.planned c.make-totals.ensures.value in
    omega (arith, ap (λ (t : Totals). t.nodes) l.counts, (net_sound c.args.network.now l.network).node_most)

pub bounds-areas-node : goal.bounds-areas-node
bounds-areas-node c =
    let l = laid_out c.in_ok-admit.ensures c.make-totals.ensures.planned c.make-totals.ensures.value in
    omega (arith, ap (λ (t : Totals). t.nodes) l.counts, (net_sound c.args.network.now l.network).node_most)

pub returns : goal.returns
unfolding area_in
returns c =
    let N = net_in c.args.network.now in
    let l = laid_out c.in_ok-admit.ensures c.make-totals.ensures.planned c.make-totals.ensures.value in
    let e = ap (λ (t : Totals). t.nodes) l.counts in
    let h : c.args.node ≤ N.nodes = omega (arith, c.if-totals-node.false, e) in
    ap Ok (l.mapped.area_at c.args.node (omega (arith, e, (net_sound c.args.network.now l.network).node_most)))
    ∙ sym (l.asked (λ M. area_in M c.args.node) ∙ rw (le-leb 1 c.args.node c.if-node-lt1.false, le-leb c.args.node N.nodes h))
