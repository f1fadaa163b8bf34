-- `plan_rows::node_count` meets its contract: the rows that are left lead to the node count. Assumes nothing.
use Rattle.std.specs.Prelude.{◌≡◌}
use Rattle.whole.specs.Plain.{max, drop, fold}
use Rattle.paper.specs.Areas.{named}
use Rattle.laws_facts.specs.Nets.{net_in}
use Rattle.plan_rows.proofs.node_count.Given as goal

abbrev pub invariant-loop-i : goal.invariant-loop-i
invariant-loop-i l = fold (λ n r. max n (named r)) l.nodes (drop l.i (net_in l.net.words.now).rows) ≡ (net_in l.net.words.now).nodes
