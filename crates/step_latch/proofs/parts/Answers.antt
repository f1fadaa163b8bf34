-- `step_latch::parts` meets its contract. Assumes nothing.
use Rattle.std.specs.Prelude.{◌≡◌}
use Rattle.whole.specs.Plain.{sym, ◌∙◌, true, false}
use mir.Facts.{to_z-of_z}
use Rattle.step_latch.specs.Parting.{parts_by}
use Rattle.step_latch.proofs.parts.Goals as goal
use Rattle.step_latch.proofs.parts.Goals.{then-not-parted, else-not-parted}

no : false ≡ true → ⊥
no e = cc

pub returns-then-may_part : goal.returns-then-may_part
unfolding parts_by
returns-then-may_part c =
    elim c.if-not-parted.branch [
      | then-not-parted w ↦
          let l = rw (to_z-of_z c.ranges.latch) at w.if-not-parted.true in
          let m = sym w.may_part.ensures ∙ sym w.value-is ∙ c.if-may_part.true in
          rw (l, m) (rw (to_z-of_z c.ranges.before, to_z-of_z c.ranges.now) at c.crosses.ensures)
      | else-not-parted w ↦ absurd (no (rw w.if-not-parted.false at (sym w.value-is ∙ c.if-may_part.true)))
    ]

pub returns-else-may_part : goal.returns-else-may_part
unfolding parts_by
returns-else-may_part c =
    elim c.if-not-parted.branch [
      | then-not-parted w ↦
          let l = rw (to_z-of_z c.ranges.latch) at w.if-not-parted.true in
          rw (l, sym w.may_part.ensures ∙ sym w.value-is ∙ c.if-may_part.false) c.if-may_part.false
      | else-not-parted w ↦
          let l = rw (to_z-of_z c.ranges.latch) at w.if-not-parted.false in
          rw l c.if-may_part.false
    ]
