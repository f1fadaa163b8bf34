-- Assumes nothing.
use Rattle.std.specs.Prelude.{◌<◌, ◌/◌, ◌^◌, ◌≡◌}
use Rattle.whole.specs.Plain.{mag, ap, ◌∙◌, T, lt→ltb, le→leb, ℤ, pos, negsuc, arith}
use Rattle.std.proofs.Common.{to_z-of_z, w64, SFits, to_z, of_z}
use lib.Ieee.{binary64, in_float, of_bits}
use Rattle.whole.specs.Floor.{high, low, low_lt}
use Rattle.whole.specs.Int.{read64}
use Rattle.paper.specs.Doubles.{double}
use Rattle.num_double.proofs.to_double.Goals as goal

high_small : (x : ℤ) → SFits w64 x → T (in_float binary64 (high x))
unfolding in_float
high_small (pos a) h = le→leb (a / 2 ^ 32) (2 ^ 53) (omega arith)
high_small (negsuc a) h = lt→ltb (a / 2 ^ 32) (2 ^ 53) (omega arith)

low_small : (x : ℤ) → T (in_float binary64 (pos (low x)))
unfolding in_float
low_small x = le→leb (low x) (2 ^ 53) (omega (arith, low_lt x))

high_is : (x n : ℤ) → SFits w64 x → mag n < 2 ^ 63 → n ≡ high (to_z w64 (of_z w64 x)) → to_z w64 (of_z w64 n) ≡ high x
high_is x n h f e = read64 n f ∙ e ∙ ap high (to_z-of_z h)

low_is : (x n : ℤ) → SFits w64 x → mag n < 2 ^ 63 → n ≡ pos (low (to_z w64 (of_z w64 x))) → to_z w64 (of_z w64 n) ≡ pos (low x)
low_is x n h f e = read64 n f ∙ e ∙ ap (λ (y : ℤ). pos (low y)) (to_z-of_z h)

pub int_to_float-result : goal.int_to_float-result
int_to_float-result c = rw (high_is c.args.x c.high.result c.ranges.x c.high.type_inv c.high.ensures) (high_small c.args.x c.ranges.x)

pub int_to_float-result-2 : goal.int_to_float-result-2
int_to_float-result-2 c = rw (low_is c.args.x c.low.result c.ranges.x c.low.type_inv c.low.ensures) (low_small c.args.x)

pub returns : goal.returns
unfolding double of_bits
returns c =
    rw (high_is c.args.x c.high.result c.ranges.x c.high.type_inv c.high.ensures, low_is c.args.x c.low.result c.ranges.x c.low.type_inv c.low.ensures)
