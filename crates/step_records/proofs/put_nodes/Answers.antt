-- `step_records::put_nodes` meets its contract: the nodes that are left lead to the answer. Assumes nothing.
use Rattle.std.specs.Prelude.{◌≡◌}
use Rattle.whole.specs.Plain.{ℕ, refl, get_or, arith, Words, word}
use mir.Syntax.{w64}
use mir.Val.{to_z, of_z}
use mir.Facts.{to_z-of_z}
use Rattle.step_legs.specs.Shares.{Volts}
use Rattle.whole.specs.Folds.{fold_next, fold_end}
use Rattle.whole.specs.Int.{fits64}
use Rattle.step_records.specs.Records.{nodes_put}
use Rattle.step_records.proofs.put_nodes.Invariants.{turn}
use Rattle.step_records.proofs.put_nodes.Goals as goal

pub loop-n-init : goal.loop-n-init
unfolding nodes_put
loop-n-init c = record { long = refl; left = refl }

pub offset_bounds-v-n : goal.offset_bounds-v-n
offset_bounds-v-n c = omega (arith, c.requires.nodes.0.end c.loop-n.n-index)

pub bounds-v-n : goal.bounds-v-n
bounds-v-n c = omega (arith, c.requires.nodes.0.end c.loop-n.n-index)

volt : {v : Words} → Volts v → (n : ℕ) → to_z w64 (of_z w64 (word v n)) ≡ word v n
volt {v} h n = to_z-of_z (fits64 (word v n) (omega (arith, h.end n)))

pub put_node-requires : goal.put_node-requires
put_node-requires c =
    let v = c.requires.nodes.1 in
    let n = get_or c.args.nodes.now c.loop-n.n-index 0 in
    record {
      n_bound = (omega (arith, c.requires.nodes.0.end c.loop-n.n-index), rw (volt v n) (v.end n), omega arith);
      records_len = omega arith;
    }

pub loop-n-preserved : goal.loop-n-preserved
loop-n-preserved c =
    let v = c.requires.nodes.1 in
    let n = get_or c.args.nodes.now c.loop-n.n-index 0 in
    record {
      long = omega arith;
      left = fold_next (turn c.args.k c.args.v.now) c.args.nodes.now c.loop-n.n-index 0 c.loop-n.records _ _ (omega arith) (rw (volt v n) at c.put_node.ensures) c.loop-n.invariant.left;
    }

pub returns : goal.returns
returns c = fold_end (turn c.args.k c.args.v.now) c.args.nodes.now c.loop-n.n-index _ _ (omega arith) c.loop-n.invariant.left
