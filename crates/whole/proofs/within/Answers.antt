use Rattle.whole.specs.Plain.{◌∙◌, ap, pos, le_z}
use mir.Facts.{to_z-of_z}
use Rattle.whole.specs.Int.{read64}
use Rattle.whole.specs.Ranges.{room_sign}
use Rattle.whole.proofs.within.Goals as goal

pub returns : goal.returns
returns c =
    let s = c.before in
    simp (read64 c.room.result c.room.type_inv) (simp (to_z-of_z, s.ranges.x, s.ranges.most) at (ap (le_z (pos 0)) c.room.ensures) ∙ room_sign s.args.most s.args.x s.requires)
