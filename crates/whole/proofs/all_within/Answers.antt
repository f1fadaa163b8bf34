use Rattle.std.specs.Prelude.{◌<◌, ◌^◌, ◌+◌, ◌≡◌, ◌&&◌}
use Rattle.whole.specs.Plain.{ℕ, refl, sym, ap, ◌∙◌, Bool, and_assoc, and-true}
use Rattle.whole.specs.Plain.{mag, ltb, ℤ, pos, nat_abs, le_z, get_or, drop, arith, every, up_to}
use Rattle.std.specs.Int.Bits.{bit_or}
use mir.Syntax.{w64}
use mir.Val.{to_z, of_z}
use mir.Facts.{to_z-of_z}
use Rattle.whole.specs.Int.{read64}
use Rattle.whole.specs.Ranges.{room_sign, sign_bit, or_sign}
use Rattle.whole.specs.Folds.{every_more, every_done}
use Rattle.whole.proofs.all_within.Goals as goal

pub room-left-requires : goal.room-left-requires
room-left-requires c = simp (to_z-of_z, c.ranges.most) c.requires

-- The sign gathered so far and one word's more.
one_more : (n : ℕ) (r : ℤ) → mag r < 2 ^ 63 → le_z (pos 0) (to_z w64 (bit_or n (of_z w64 r))) ≡ (le_z (pos 0) (to_z w64 n) && le_z (pos 0) r)
one_more n r f =
    sign_bit (bit_or n (of_z w64 r)) ∙ or_sign n (of_z w64 r)
    ∙ ap (λ (b : Bool). b && ltb (of_z w64 r) (2 ^ 63)) (sym (sign_bit n))
    ∙ ap (λ (b : Bool). le_z (pos 0) (to_z w64 n) && b) (sym (sign_bit (of_z w64 r)) ∙ ap (le_z (pos 0)) (read64 r f))

pub loop-x-preserved : goal.loop-x-preserved
loop-x-preserved c =
    let xs = c.args.xs.now in
    let x = get_or xs c.loop-x.x-index (pos 0) in
    let p = up_to (nat_abs c.args.most) in
    let all = le_z (pos 0) (to_z w64 c.loop-x.all-bits) in
    let left = every p (drop (c.loop-x.x-index + 1) xs) in
    let here = ap (le_z (pos 0)) (simp (to_z-of_z, c.ranges.most, read64 x c.x-1.given) at c.room-left.ensures) ∙ room_sign c.args.most x c.requires in
    let before = simp (to_z-of_z, c.ranges.most) at c.loop-x.invariant in
    simp (to_z-of_z, c.ranges.most) (rw (one_more c.loop-x.all-bits c.room-left.result c.room-left.type_inv, here, and_assoc all (p x) left, ← every_more p xs c.loop-x.x-index (pos 0) (omega arith)) before)

pub returns : goal.returns
returns c =
    let p = up_to (nat_abs c.args.most) in
    let all = le_z (pos 0) (to_z w64 c.loop-x.all-bits) in
    let done = every_done p c.args.xs.now c.loop-x.x-index (omega arith) in
    let before = simp (to_z-of_z, c.ranges.most) at c.loop-x.invariant in
    sym (and-true all) ∙ ap (λ (b : Bool). all && b) (sym done) ∙ before

pub loop-x-init : goal.loop-x-init
loop-x-init c = refl
