-- `num_share::mixed` meets its contract: the share is no more than the gap, and the value lies between the two. Assumes nothing.
use Rattle.std.specs.Prelude.{◌*◌, ◌≤◌, ◌≡◌, ◌+ℤ◌, ◌-ℤ◌}
use Rattle.whole.specs.Plain.{◌∙◌, ap, true, false, ℤ, pos, nat_abs, lt_z, arith}
use mir.Syntax.{w64}
use mir.Val.{SFits, to_z, of_z}
use mir.Facts.{to_z-of_z, to_z_pos}
use Rattle.whole.specs.Int.{fits64}
use Rattle.whole.specs.Mixing as Mixing
use Rattle.paper.specs.Limits as Limits
use Rattle.num_share.specs.Share.{share_most}
use Rattle.num_share.specs.Mixed.{gap_end, over, under}
use Rattle.num_share.proofs.mixed.Goals as goal

abbrev gap : goal.Start → ℤ
gap s = s.args.older -ℤ s.args.newer

abbrev value : goal.Start → ℤ
value s = Mixing.mixed s.args.step s.args.rest s.args.newer s.args.older

gap-fits : (s : goal.Start) → SFits w64 (gap s)
gap-fits s = fits64 (gap s) (omega (arith, gap_end s.requires.1))

value-fits : (s : goal.Start) → SFits w64 (value s)
value-fits s =
    let m = Mixing.mixed_size s.args.step s.args.rest s.args.newer s.args.older Limits.history_end s.requires.0.long s.requires.0.part s.requires.1.newer_end s.requires.1.older_end in
    fits64 (value s) (omega (arith, m))

pub overflow_sub-gap : goal.overflow_sub-gap
overflow_sub-gap c = simp (to_z-of_z, c.ranges.older, c.ranges.newer) (gap-fits c)

down_size : (c : goal.Then-gap-lt0) → c.magnitude-size.result ≡ nat_abs (gap c.before.before)
down_size c = let s = c.before.before in simp (to_z-of_z, s.ranges.older, s.ranges.newer, gap-fits s) at c.magnitude-size.ensures

down_size-end : (c : goal.Then-gap-lt0) → c.magnitude-size.result ≤ 2 * Limits.history_end
down_size-end c = omega (arith, down_size c, gap_end c.requires.1)

up_size : (c : goal.Else-gap-lt0) → c.magnitude-size.result ≡ nat_abs (gap c.before.before)
up_size c = let s = c.before.before in simp (to_z-of_z, s.ranges.older, s.ranges.newer, gap-fits s) at c.magnitude-size.ensures

up_size-end : (c : goal.Else-gap-lt0) → c.magnitude-size.result ≤ 2 * Limits.history_end
up_size-end c = omega (arith, up_size c, gap_end c.requires.1)

below : (c : goal.Then-gap-lt0) → lt_z (gap c.before.before) (pos 0) ≡ true
below c = let s = c.before.before in simp (to_z-of_z, s.ranges.older, s.ranges.newer, gap-fits s) at c.if-gap-lt0.true

above : (c : goal.Else-gap-lt0) → lt_z (gap c.before.before) (pos 0) ≡ false
above c = let s = c.before.before in simp (to_z-of_z, s.ranges.older, s.ranges.newer, gap-fits s) at c.if-gap-lt0.false

pub overflow_sub-step : goal.overflow_sub-step
overflow_sub-step c = omega (arith, c.requires.0.long)

pub share-requires : goal.share-requires
share-requires c = let s = c.before.before in (s.requires.0, (down_size-end c, omega (arith, s.requires.0.long)))

pub share-requires-2 : goal.share-requires-2
share-requires-2 c = let s = c.before.before in (s.requires.0, (up_size-end c, s.requires.0.long))

down-end : (c : goal.After-share) → c.share.result ≤ 2 * Limits.history_end
down-end c =
    let m = c.before.before in
    let s = m.before in
    omega (arith, c.share.ensures, share_most m.magnitude-size.result s.args.rest s.args.step _ s.requires.0.part (share-requires c.before).1.1, down_size-end c.before)

up-end : (c : goal.After-share-2) → c.share-2.result ≤ 2 * Limits.history_end
up-end c =
    let m = c.before.before in
    let s = m.before in
    omega (arith, c.share-2.ensures, share_most m.magnitude-size.result s.args.rest s.args.step 0 s.requires.0.part s.requires.0.long, up_size-end c.before)

pub overflow_cast-result : goal.overflow_cast-result
overflow_cast-result c = record { sfits = omega (arith, down-end c) }

pub overflow_cast-result-2 : goal.overflow_cast-result-2
overflow_cast-result-2 c = record { sfits = omega (arith, up-end c) }

down_is : (c : goal.After-share) → let s = c.before.before.before in to_z w64 (of_z w64 s.args.newer) -ℤ to_z w64 c.share.result ≡ value s
down_is c =
    let m = c.before.before in
    let s = m.before in
    rw (to_z-of_z s.ranges.newer, to_z_pos w64 {n = c.share.result} (omega (arith, down-end c)), c.share.ensures, down_size c.before) (under s.args.step s.args.rest s.args.newer s.args.older s.requires.0.long (below c.before))

up_is : (c : goal.After-share-2) → let s = c.before.before.before in to_z w64 (of_z w64 s.args.newer) +ℤ to_z w64 c.share-2.result ≡ value s
up_is c =
    let m = c.before.before in
    let s = m.before in
    rw (to_z-of_z s.ranges.newer, to_z_pos w64 {n = c.share-2.result} (omega (arith, up-end c)), c.share-2.ensures, up_size c.before) (over s.args.step s.args.rest s.args.newer s.args.older (above c.before))

pub overflow_sub-result : goal.overflow_sub-result
overflow_sub-result c = rw (down_is c) (value-fits c.before.before.before)

pub overflow_add-result : goal.overflow_add-result
overflow_add-result c = rw (up_is c) (value-fits c.before.before.before)

pub returns-then-gap-lt0 : goal.returns-then-gap-lt0
returns-then-gap-lt0 c = ap (λ (x : ℤ). to_z w64 (of_z w64 x)) (down_is c) ∙ to_z-of_z (value-fits c.before.before.before)

pub returns : goal.returns
returns c = ap (λ (x : ℤ). to_z w64 (of_z w64 x)) (up_is c) ∙ to_z-of_z (value-fits c.before.before.before)
