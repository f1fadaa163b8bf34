-- Assumes nothing.
use Rattle.std.specs.Prelude.{◌≡◌}
use Rattle.whole.specs.Plain.{true}
use lib.Ieee.{in_float}
use Rattle.whole.specs.Int.{read64}
use Rattle.paper.specs.Doubles.{in_range, nearest_of}
use Rattle.num_double.proofs.Tests.{range_yes, range_low, range_high}
use Rattle.num_double.proofs.nearest.Goals as goal

pub int_to_float-most : goal.int_to_float-most
unfolding in_float
int_to_float-most c = tt

inside : (c : goal.Then-x-most) → in_range c.args.x ≡ true
inside c = range_yes c.args.x c.if-most-x.true c.if-x-most.true

pub returns-then-x-most : goal.returns-then-x-most
unfolding nearest_of
returns-then-x-most c = rw (read64 c.to_whole.result c.to_whole.type_inv, c.to_whole.ensures, inside c.before)

pub returns-else-x-most : goal.returns-else-x-most
unfolding nearest_of
returns-else-x-most c = rw (range_high c.args.x c.if-x-most.false)

pub returns-else-most-x : goal.returns-else-most-x
unfolding nearest_of
returns-else-most-x c = rw (range_low c.args.x c.if-most-x.false)

pub to_whole-requires : goal.to_whole-requires
to_whole-requires c = inside c
