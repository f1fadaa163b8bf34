-- `step_sources::swing` meets its contract: the products fit, and the index is one of the table's. Assumes nothing.
use Rattle.std.specs.Prelude.{◌*◌, ◌/◌, ◌%◌, ◌^◌, ◌*ℤ◌}
use Rattle.whole.specs.Plain.{ℕ, ◌∙◌, ℤ, nat}
use mir.Facts.{to_z-of_z}
use Rattle.whole.specs.Int.{read64}
use Rattle.whole.specs.Rounding.{quot_fits}
use Rattle.num_cosine.specs.Cosine.{cosine}
use Rattle.step_sources.specs.Table.{swing_of}
use Rattle.step_sources.specs.Values.{from_start, before_start, swings, swing_fits}
use Rattle.step_sources.proofs.swing.Goals as goal

-- the part of a turn in which n steps end
abbrev part : ℤ → ℕ → ℕ
part n pace = nat n * pace / 976562500 % 1024

pub overflow_mul-result : goal.overflow_mul-result
overflow_mul-result c =
    let a = c.args in
    let e = read64 _ c.cosine.type_inv ∙ simp (to_z-of_z, c.ranges.n) at c.cosine.ensures in
    simp (to_z-of_z, c.ranges.peak, e) (swing_fits a.peak (part a.n a.pace) c.requires.peak_bound.0)

pub returns-then-n-ge0 : goal.returns-then-n-ge0
returns-then-n-ge0 c =
    let a = c.args in
    let i = part a.n a.pace in
    let e = read64 _ c.cosine.type_inv ∙ simp (to_z-of_z, c.ranges.n) at c.cosine.ensures in
    let f = swing_fits a.peak i c.requires.peak_bound.0 in
    simp (to_z-of_z, c.ranges.peak, e, f, quot_fits (a.peak *ℤ cosine i) (2 ^ 30) f.sfits)
    (swings a.peak a.n a.pace (from_start a.n (simp (to_z-of_z, c.ranges.n) at c.if-n-ge0.true)))

pub returns : goal.returns
unfolding swing_of
returns c = rw (before_start c.args.n (simp (to_z-of_z, c.ranges.n) at c.if-n-ge0.false))
