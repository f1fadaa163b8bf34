-- `plan_lay::lay_nodes` meets its contract: the nodes passed are laid. Assumes nothing.
use Rattle.std.specs.Prelude.{◌+◌, ◌-◌, ◌≤◌}
use Rattle.plan_lay.specs.Grown.{Grown}
use Rattle.plan_lay.specs.Nodes.{nodes_by}
use Rattle.plan_lay.proofs.lay_nodes.Given as goal

abbrev pub invariant-loop-n : goal.invariant-loop-n
invariant-loop-n l = (l.n ≤ l.count + 1) × Grown l.initial.nodes l.m (nodes_by l.area l.fixed l.held l.a (l.n - 1)) l.t l.nodes
