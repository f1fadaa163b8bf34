use Rattle.std.specs.Prelude.{◌≡◌, ◌+ℤ◌, ◌-ℤ◌}
use Rattle.whole.specs.Plain.{sym, subst}
use mir.Syntax.{w64}
use mir.Val.{SFits}
use mir.Facts.{to_z-of_z}
use Rattle.whole.specs.Ranges.{room_of, room_fits, room_neg, room_pos}
use Rattle.whole.proofs.room.Goals as goal

below : (c : goal.Then-x-lt0) → c.args.most +ℤ c.args.x ≡ room_of c.args.most c.args.x
below c = room_neg c.args.most c.args.x (simp (to_z-of_z c.ranges.x) at c.if-x-lt0.true)

above : (c : goal.Else-x-lt0) → c.args.most -ℤ c.args.x ≡ room_of c.args.most c.args.x
above c = room_pos c.args.most c.args.x (simp (to_z-of_z c.ranges.x) at c.if-x-lt0.false)

pub overflow_add-result : goal.overflow_add-result
overflow_add-result c =
    simp (to_z-of_z, c.ranges.x, c.ranges.most)
    (subst (SFits w64) (sym (below c)) (room_fits c.args.most c.args.x c.requires c.ranges.most c.ranges.x))

pub overflow_sub-result : goal.overflow_sub-result
overflow_sub-result c =
    simp (to_z-of_z, c.ranges.x, c.ranges.most)
    (subst (SFits w64) (sym (above c)) (room_fits c.args.most c.args.x c.requires c.ranges.most c.ranges.x))

pub returns-then-x-lt0 : goal.returns-then-x-lt0
returns-then-x-lt0 c = simp (to_z-of_z, c.ranges.x, c.ranges.most, below c, room_fits c.args.most c.args.x c.requires c.ranges.most c.ranges.x)

pub returns-else-x-lt0 : goal.returns-else-x-lt0
returns-else-x-lt0 c = simp (to_z-of_z, c.ranges.x, c.ranges.most, above c, room_fits c.args.most c.args.x c.requires c.ranges.most c.ranges.x)
