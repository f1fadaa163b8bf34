-- `plan_rows::node_count` meets its contract: the rows that are left lead to the node count. Assumes nothing.
use Rattle.std.specs.Prelude.{◌≡◌}
use Rattle.whole.specs.Plain.{max, ap, ◌∙◌, [], arith}
use Rattle.whole.specs.Folds.{fold_next, fold_end}
use Rattle.paper.specs.Areas.{named}
use Rattle.laws_facts.specs.Nets.{net_in, row_at}
use Rattle.plan_rows.specs.Laws.{nodes_are}
use Rattle.plan_rows.proofs.node_count.Goals as goal

pub loop-i-preserved : goal.loop-i-preserved
loop-i-preserved c =
    let N = net_in c.args.net.words.now in
    let e : c.max-nodes.result ≡ max c.loop-i.nodes (named (row_at N c.loop-i.i)) = c.max-nodes.ensures ∙ ap (max c.loop-i.nodes) c.named.ensures in
    fold_next (λ n r. max n (named r)) N.rows c.loop-i.i [] c.loop-i.nodes c.max-nodes.result N.nodes (omega (arith, c.row_count-i-end.ensures)) e c.loop-i.invariant

pub returns : goal.returns
returns c =
    fold_end (λ n r. max n (named r)) (net_in c.args.net.words.now).rows c.loop-i.i c.loop-i.nodes _ (omega (arith, c.row_count-i-end.ensures)) c.loop-i.invariant

pub loop-i-init : goal.loop-i-init
loop-i-init c = nodes_are c.args.net.words.now

pub named-requires : goal.named-requires
named-requires c = omega (arith, c.row_count-i-end.ensures)
