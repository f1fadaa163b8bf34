-- `plan_lay::lay_node` meets its contract. Assumes nothing.
use Rattle.std.specs.Prelude.{◌<◌, ◌≡◌}
use Rattle.whole.specs.Plain.{sym, ◌∙◌, true, false, length, get_or, eq-eqb, ne_eqb, not-true, not-false, arith}
use Rattle.whole.specs.Truths.{and-false}
use Rattle.plan_lay.specs.Grown.{put_yes, put_no}
use Rattle.plan_lay.specs.Nodes.{as_asked, node_by}
use Rattle.plan_lay.proofs.lay_node.Goals as goal
use Rattle.plan_lay.proofs.lay_node.Goals.{Else-fixed-n, then-area-n-via-then-area-n, then-area-n-via-else-area-n+then-fixed-n}

own : (c : Else-fixed-n) → let a = c.args in node_by a.area.now a.fixed.now a.held a.a a.n ≡ true
unfolding node_by
own c =
    let a = c.args in
    rw (eq-eqb (get_or a.area.now a.n 0) a.a c.if-area-n.false, sym (as_asked (get_or a.fixed.now a.n false) a.held) ∙ not-false _ c.if-fixed-n.false)

room : (c : Else-fixed-n) → let a = c.args in a.m < length a.nodes.now
room c = c.requires.m_in_bounds (own c)

pub returns-then-area-n : goal.returns-then-area-n
unfolding node_by
returns-then-area-n c =
    let a = c.args in
    elim c.then-area-n.branch [
      | then-area-n-via-then-area-n w ↦ put_no (rw (ne_eqb (get_or a.area.now a.n 0) a.a w.if-area-n.true))
      | then-area-n-via-else-area-n+then-fixed-n w ↦ put_no (rw (sym (as_asked (get_or a.fixed.now a.n false) a.held) ∙ not-true _ w.if-fixed-n.true, and-false))
    ]

pub offset_bounds-nodes-m : goal.offset_bounds-nodes-m
offset_bounds-nodes-m c = omega (arith, room c)

pub bounds-nodes-m : goal.bounds-nodes-m
bounds-nodes-m c = room c

pub overflow_add-result : goal.overflow_add-result
overflow_add-result c = omega (arith, room c)

pub returns : goal.returns
returns c = put_yes (own c)
