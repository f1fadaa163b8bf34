-- `list_digits::put_pair` meets its contract: both digits are those looked up. Assumes nothing.
use Rattle.std.specs.Prelude.{◌+◌, ◌/◌, ◌%◌}
use Rattle.whole.specs.Plain.{length-set, arith}
use Rattle.list_digits.specs.Puts.{puts_two}
use Rattle.list_digits.specs.Pairs.{fixed_pair}
use Rattle.list_digits.proofs.put_pair.Goals as goal

pub bounds-out-at-2 : goal.bounds-out-at-2
bounds-out-at-2 c = rw length-set (omega (arith, c.requires.1))

pub returns : goal.returns
returns c =
    rw (c.tens_of-first.ensures, c.ones_of-second.ensures, fixed_pair c.args.n c.requires.0) (puts_two c.args.out.now c.args.at (48 + c.args.n / 10) (48 + c.args.n % 10))
