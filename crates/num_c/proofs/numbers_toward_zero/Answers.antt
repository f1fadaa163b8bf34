-- Assumes nothing.
use mir.Facts.{to_z-of_z}
use Rattle.whole.specs.Int.{read64}
use Rattle.num_c.specs.Outcomes.{part_of}
use Rattle.num_c.proofs.numbers_toward_zero.Goals as goal

pub returns : goal.returns
unfolding part_of
returns c = rw (simp (to_z-of_z, c.ranges.b) at c.if-b-gt0.false)

pub toward_zero-requires : goal.toward_zero-requires
toward_zero-requires c = c.if-b-gt0.true

pub returns-then-b-gt0 : goal.returns-then-b-gt0
unfolding part_of
returns-then-b-gt0 c =
    let s = c.before.before in
    rw (simp (to_z-of_z, s.ranges.b) at c.if-b-gt0.true, read64 c.toward_zero.result c.toward_zero.type_inv) (simp (to_z-of_z, s.ranges.a, s.ranges.b) at c.toward_zero.ensures)
