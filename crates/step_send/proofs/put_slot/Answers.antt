-- `step_send::put_slot` meets its contract. Assumes nothing.
use Rattle.std.specs.Prelude.{◌%◌, ◌<◌}
use Rattle.whole.specs.Plain.{length, mod-lt, arith}
use Rattle.step_send.proofs.put_slot.Goals as goal

inside : (c : goal.Start) → c.args.k % length c.args.ring.now < length c.args.ring.now
inside c = mod-lt c.args.k c.requires

pub offset_bounds-ring-at : goal.offset_bounds-ring-at
offset_bounds-ring-at c = omega (arith, inside c)
