-- The invariant: the bits gathered so far, and the words that are left, say together what all words say.
use Rattle.std.specs.Prelude.{◌<◌, ◌^◌, ◌+◌, ◌≡◌, ◌&&◌}
use Rattle.whole.specs.Plain.{ℕ, ℤ, mag, sym, ap, ◌∙◌, Bool, and_assoc, and-true, eqb, pos}
use Rattle.whole.specs.Plain.{get_or, drop, arith, every, up_to}
use mir.Syntax.{w64}
use mir.Val.{of_z, to_z, Fits}
use Rattle.std.proofs.lemmas.Nat.{or_lt}
use Rattle.std.specs.Int.Bits.{bit_or}
use mir.Facts.{of_z-to_z, Fits-of_z}
use Rattle.whole.specs.Ranges.{no_bit, or_zero}
use Rattle.whole.specs.Folds.{every_more, every_done}
use Rattle.whole.proofs.all_zero.Goals as goal

-- The bits gathered so far and one word more.
one_more : (n : ℕ) (x : ℤ) → Fits w64 n → mag x < 2 ^ 63 → eqb (of_z w64 (to_z w64 (bit_or n (of_z w64 x)))) 0 ≡ (eqb n 0 && up_to 0 x)
one_more n x f h =
    rw (of_z-to_z {w = w64} {n = bit_or n (of_z w64 x)} (record { fits = or_lt 64 n (of_z w64 x) f.fits (Fits-of_z {w = w64} {z = x} (record { sfits = h })).fits }), or_zero n (of_z w64 x), no_bit x h)

pub loop-x-preserved : goal.loop-x-preserved
loop-x-preserved c =
    let xs = c.args.xs.now in
    let x = get_or xs c.loop-x.x-index (pos 0) in
    let n = c.loop-x.all-bits in
    let left = every (up_to 0) (drop (c.loop-x.x-index + 1) xs) in
    let before : (eqb n 0 && every (up_to 0) (drop c.loop-x.x-index xs)) ≡ every (up_to 0) xs = rw (of_z-to_z c.loop-x.auto.all) at c.loop-x.invariant in
    rw (one_more n x c.loop-x.auto.all c.x-1.given, and_assoc (eqb n 0) (up_to 0 x) left, ← every_more (up_to 0) xs c.loop-x.x-index (pos 0) (omega arith)) before

pub returns : goal.returns
returns c =
    let n = c.loop-x.all-bits in
    let before : (eqb n 0 && every (up_to 0) (drop c.loop-x.x-index c.args.xs.now)) ≡ every (up_to 0) c.args.xs.now = rw (of_z-to_z c.loop-x.auto.all) at c.loop-x.invariant in
    let done = every_done (up_to 0) c.args.xs.now c.loop-x.x-index (omega arith) in
    sym (and-true (eqb n 0)) ∙ ap (λ (b : Bool). eqb n 0 && b) (sym done) ∙ before
