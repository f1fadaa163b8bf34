-- `list_numerals::put_number` meets its contract: a minus, and the magnitude's digits. Assumes nothing.
use Rattle.std.specs.Prelude.{◌≡◌, ◌∷◌}
use Rattle.whole.specs.Plain.{ℕ, sym, ap, ◌∙◌, length, length-set, true, false, ℤ, pos, nat_abs, le_z, arith}
use mir.Facts.{to_z-of_z}
use Rattle.paper.specs.Listing.{shown_nat, shown}
use Rattle.list_digits.specs.Puts.{puts_one, puts_then, puts_as}
use Rattle.list_numerals.specs.Magnitude.{shown_plain, shown_minus}
use Rattle.list_numerals.proofs.put_number.Goals as goal

plain : (x : ℤ) (n : ℕ) → le_z (pos 0) x ≡ true → n ≡ nat_abs x → shown x ≡ shown_nat n
plain x n t e = shown_plain x t ∙ ap shown_nat (sym e)

minus : (x : ℤ) (n : ℕ) → le_z (pos 0) x ≡ false → n ≡ nat_abs x → shown x ≡ 45 ∷ shown_nat n
minus x n t e = shown_minus x t ∙ ap (λ (m : ℕ). 45 ∷ shown_nat m) (sym e)

pub put_natural-requires : goal.put_natural-requires
put_natural-requires c =
    let e = plain c.args.x c.magnitude-n.result (rw (to_z-of_z c.ranges.x) at c.if-x-ge0.true) (rw (to_z-of_z c.ranges.x) at c.magnitude-n.ensures) in
    omega (arith, c.requires, ap length e)

pub returns-then-x-ge0 : goal.returns-then-x-ge0
returns-then-x-ge0 c =
    let e = plain c.args.x c.magnitude-n.result (rw (to_z-of_z c.ranges.x) at c.if-x-ge0.true) (rw (to_z-of_z c.ranges.x) at c.magnitude-n.ensures) in
    puts_as (sym e) c.put_natural.ensures

pub bounds-out-at : goal.bounds-out-at
bounds-out-at c =
    let e = minus c.args.x c.magnitude-n.result (rw (to_z-of_z c.ranges.x) at c.if-x-ge0.false) (rw (to_z-of_z c.ranges.x) at c.magnitude-n.ensures) in
    omega (arith, c.requires, ap length e)

pub put_natural-requires-2 : goal.put_natural-requires-2
put_natural-requires-2 c =
    let e = minus c.args.x c.magnitude-n.result (rw (to_z-of_z c.ranges.x) at c.if-x-ge0.false) (rw (to_z-of_z c.ranges.x) at c.magnitude-n.ensures) in
    rw length-set (omega (arith, c.requires, ap length e))

pub returns : goal.returns
returns c =
    let e = minus c.args.x c.magnitude-n.result (rw (to_z-of_z c.ranges.x) at c.if-x-ge0.false) (rw (to_z-of_z c.ranges.x) at c.magnitude-n.ensures) in
    puts_as (sym e) (puts_then (puts_one c.args.out.now c.args.at 45) c.put_natural-2.ensures)
