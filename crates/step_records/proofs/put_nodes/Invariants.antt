-- `step_records::put_nodes` meets its contract: the nodes that are left lead to the answer. Assumes nothing.
use Rattle.std.specs.Prelude.{◌≡◌}
use Rattle.whole.specs.Plain.{ℕ, length, drop, Words, word, fold}
use Rattle.step_records.specs.Records.{node_put, nodes_put}
use Rattle.step_records.proofs.put_nodes.Given as goal

abbrev pub turn : ℕ → Words → Words → ℕ → Words
turn k v u n = node_put k n (word v n) u

abbrev pub invariant-loop-n : goal.invariant-loop-n
invariant-loop-n l = record {
  long : length l.records ≡ length l.initial.records;
  left : fold (turn l.k l.v) l.records (drop l.n-index l.nodes) ≡ nodes_put l.k l.v l.nodes l.initial.records;
}
