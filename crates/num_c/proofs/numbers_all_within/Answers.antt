-- Assumes nothing.
use Rattle.std.specs.Prelude.{◌≡◌}
use Rattle.whole.specs.Plain.{refl, sym, ℤ, pos, negsuc, non_neg, le_z, le-leb, arith}
use mir.Syntax.{w64}
use mir.Val.{to_z, of_z}
use mir.Facts.{to_z-of_z}
use Rattle.num_c.specs.Outcomes.{words_judged}
use Rattle.num_c.proofs.numbers_all_within.Goals as goal

sign : (z : ℤ) → non_neg z ≡ le_z (pos 0) z
sign (pos n) = sym (le-leb 0 n (omega arith))
sign (negsuc n) = refl

pub returns : goal.returns
unfolding words_judged
returns c = rw (sign c.args.most, simp (to_z-of_z, c.ranges.most) at c.if-most-ge0.false)

pub all_within-requires : goal.all_within-requires
all_within-requires c = rw (sign (to_z w64 (of_z w64 c.args.most)), c.if-most-ge0.true) tt

pub returns-then-most-ge0 : goal.returns-then-most-ge0
unfolding words_judged
returns-then-most-ge0 c =
    let s = c.before.before in
    rw (sign s.args.most, simp (to_z-of_z, s.ranges.most) at c.if-most-ge0.true) (simp (to_z-of_z, s.ranges.most) at c.all_within.ensures)
