-- `call_counts::all_taken` meets its contract. The invariant: the flag and the areas that are left say together what all areas say. Assumes nothing.
use Rattle.std.specs.Prelude.{◌+◌, ◌-◌, ◌≡◌}
use Rattle.whole.specs.Plain.{arith}
use Rattle.call_counts.specs.Level.{took_all, left_next, left_done}
use Rattle.call_counts.proofs.all_taken.Goals as goal

pub loop-a-init : goal.loop-a-init
loop-a-init c = let e : c.args.areas + 1 - 1 ≡ c.args.areas = omega arith in rw e

pub loop-a-preserved : goal.loop-a-preserved
loop-a-preserved c = rw c.count_of.ensures (left_next (took_all c.args.records.now c.args.taken) c.args.areas c.loop-a.a c.loop-a.all _ (omega arith) c.loop-a.invariant)

pub returns : goal.returns
returns c = left_done (took_all c.args.records.now c.args.taken) c.args.areas c.loop-a.a c.loop-a.all _ c.loop-a-test.false c.loop-a.invariant

pub returns-2 : goal.returns-2
returns-2 c =
    rw c.count_of.ensures
    (left_done (took_all c.args.records.now c.args.taken) c.args.areas (c.loop-a.a + 1) _ _ (omega arith)
    (left_next (took_all c.args.records.now c.args.taken) c.args.areas c.loop-a.a c.loop-a.all _ (omega arith) c.loop-a.invariant))
