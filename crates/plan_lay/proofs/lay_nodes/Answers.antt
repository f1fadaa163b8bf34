-- `plan_lay::lay_nodes` meets its contract: the nodes passed are laid. Assumes nothing.
use Rattle.std.specs.Prelude.{◌+◌, ◌-◌, ◌≡◌}
use Rattle.whole.specs.Plain.{arith}
use Rattle.plan_lay.specs.Grown.{Grown}
use Rattle.plan_lay.specs.Listed.{gathered_none, gathered_room, gathered_more}
use Rattle.plan_lay.specs.Nodes.{nodes_by}
use Rattle.plan_lay.proofs.lay_nodes.Goals as goal
use Rattle.plan_lay.proofs.lay_nodes.Goals.{After-lay_node-t}

pub loop-n-init : goal.loop-n-init
loop-n-init c = (omega arith, gathered_none _ _ 1 (omega (arith, c.requires.count_in_bounds)))

pub lay_node-t-requires-clause-m_in_bounds : goal.lay_node-t-requires-clause-m_in_bounds
lay_node-t-requires-clause-m_in_bounds c = gathered_room _ _ 1 c.loop-n.invariant.1 (omega arith) c.requires.count_in_bounds c.loop-n.n (omega arith)

laid : (c : After-lay_node-t) → let a = c.args in Grown a.nodes.now a.m (nodes_by a.area.now a.fixed.now a.held a.a c.loop-n.n) c.lay_node-t.result c.lay_node-t.new.nodes
laid c =
    let e : c.loop-n.n - 1 + 1 ≡ c.loop-n.n = omega arith in
    rw e at (gathered_more _ _ 1 c.loop-n.invariant.1 (omega arith) c.requires.count_in_bounds c.loop-n.n (omega arith) c.lay_node-t.ensures)

pub loop-n-preserved : goal.loop-n-preserved
loop-n-preserved c = let e : c.loop-n.n + 1 - 1 ≡ c.loop-n.n = omega arith in (omega arith, rw e (laid c.before.before.before.before))

pub returns : goal.returns
returns c =
    let e : c.loop-n.n - 1 ≡ c.args.count = omega arith in
    rw e at c.loop-n.invariant.1

pub returns-2 : goal.returns-2
returns-2 c =
    let e : c.loop-n.n ≡ c.args.count = omega arith in
    rw e at (laid c.before.before.before.before)
