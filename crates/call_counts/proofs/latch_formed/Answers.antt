-- `call_counts::latch_formed` meets its contract: a latch below zero is no step. Assumes nothing.
use Rattle.std.specs.Prelude.{◌≡◌, ◌<◌, ◌^◌}
use Rattle.std.specs.Int.{FitsUnsignedBits}
use Rattle.whole.specs.Plain.{ℕ, refl, sym, ap, ◌∙◌, true, false, ℤ, pos, negsuc, nat_abs, mag, non_neg, arith, nat}
use mir.Facts.{to_z-of_z}
use Rattle.plan_rows.specs.Switching.{may_part_by}
use Rattle.call_counts.specs.Counts.{latch_below, latch_none, latch_past, latch_within}
use Rattle.call_counts.proofs.latch_formed.Goals as goal

below : (x : ℤ) → mag x < 2 ^ 63 → (FitsUnsignedBits 64 x → ⊥) → (non_neg x ≡ false) × (nat x ≡ 0 → ⊥)
below (pos n) f h = absurd (h (omega arith))
below (negsuc n) f h = (refl, λ q. omega arith)

above : (x : ℤ) {n : ℕ} → FitsUnsignedBits 64 x × (n ≡ nat_abs x) → (non_neg x ≡ true) × (nat x ≡ n)
above (pos k) h = (refl, sym h.1)
above (negsuc k) h = absurd h.0

pub returns-in_default : goal.returns-in_default
returns-in_default c =
    let b = below c.args.latch (omega arith) (rw (to_z-of_z c.ranges.latch) at c.in_default.ensures) in
    sym (latch_below c.args.r c.args.latch c.args.count b.0 b.1)

pub returns-then-step-eq0 : goal.returns-then-step-eq0
returns-then-step-eq0 c =
    let s = above c.args.latch (rw (to_z-of_z c.ranges.latch) at c.in-Ok.ensures) in
    sym (latch_none c.args.r c.args.latch c.args.count (s.1 ∙ c.if-step-eq0.true))

pub returns-then-count-step : goal.returns-then-count-step
returns-then-count-step c =
    let s = above c.args.latch (rw (to_z-of_z c.ranges.latch) at c.in-Ok.ensures) in
    sym (latch_past c.args.r c.args.latch c.args.count s.0 (λ q. c.if-step-eq0.false (sym s.1 ∙ q)) (omega (arith, s.1, c.if-count-step.true)))

pub returns : goal.returns
returns c =
    let s = above c.args.latch (rw (to_z-of_z c.ranges.latch) at c.in-Ok.ensures) in
    c.may_part.ensures
    ∙ ap (λ (k : ℕ). may_part_by k c.args.r) (sym s.1)
    ∙ sym (latch_within c.args.r c.args.latch c.args.count s.0 (λ q. c.if-step-eq0.false (sym s.1 ∙ q)) (omega (arith, s.1, c.if-count-step.false)))
