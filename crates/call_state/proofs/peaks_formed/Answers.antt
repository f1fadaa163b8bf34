-- `call_state::peaks_formed` meets its contract. The invariant: the flag and the nodes that are left say together what all nodes say. Assumes nothing.
use Rattle.std.specs.Prelude.{◌+◌, ◌-◌, ◌≡◌}
use Rattle.whole.specs.Plain.{arith}
use Rattle.call_counts.specs.Level.{left_next, left_done}
use Rattle.call_state.specs.Judged.{peaked_by}
use Rattle.call_state.proofs.peaks_formed.Goals as goal

pub loop-n-init : goal.loop-n-init
loop-n-init c = let e : c.args.nodes + 1 - 1 ≡ c.args.nodes = omega arith in rw e

pub node_formed-good-requires : goal.node_formed-good-requires
node_formed-good-requires c =
    let p = c.requires in
    record {
      le_n = (omega arith, omega (arith, p.0.few), p.1);
      count_in = p.0.node c.loop-n.n (omega arith) (omega arith);
    }

pub loop-n-preserved : goal.loop-n-preserved
loop-n-preserved c = rw c.node_formed-good.ensures (left_next (peaked_by c.args.areas.now c.args.records.now) c.args.nodes c.loop-n.n c.loop-n.all _ (omega arith) c.loop-n.invariant)

pub returns : goal.returns
returns c = left_done (peaked_by c.args.areas.now c.args.records.now) c.args.nodes c.loop-n.n c.loop-n.all _ c.loop-n-test.false c.loop-n.invariant

pub returns-2 : goal.returns-2
returns-2 c =
    rw c.node_formed-good.ensures
    (left_done (peaked_by c.args.areas.now c.args.records.now) c.args.nodes (c.loop-n.n + 1) _ _ (omega arith)
    (left_next (peaked_by c.args.areas.now c.args.records.now) c.args.nodes c.loop-n.n c.loop-n.all _ (omega arith) c.loop-n.invariant))
