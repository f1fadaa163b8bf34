-- `step_send::put_sent` meets its contract: of the whole store only the one slot changes. Assumes nothing.
use Rattle.std.specs.Prelude.{◌+◌, ◌-◌, ◌%◌, ◌≡◌}
use Rattle.whole.specs.Plain.{◌∙◌, ap, set, length, length-take, length-drop, mod-lt, arith}
use borrow.Rule.Slice.PartMut.{put_mid, mid_of, set_mid_at}
use mir.Facts.{to_z-of_z}
use Rattle.step_send.proofs.put_sent.Goals as goal

pub returns : goal.returns
returns c =
    let a = c.args.start in
    let n = c.args.start + c.args.slots - c.args.start in
    let w = c.args.store.now in
    let long : length (mid_of a n w) ≡ c.args.slots = simp (length-take, length-drop) (omega (arith, c.requires.0)) in
    let e : c.put_slot.new.ring ≡ set (mid_of a n w) (c.args.k % c.args.slots) c.args.x = rw (to_z-of_z c.ranges.x, long) at c.put_slot.ensures in
    ap (put_mid a n w) e ∙ set_mid_at a n (c.args.k % c.args.slots) w c.args.x (rw long (mod-lt c.args.k c.requires.1))
