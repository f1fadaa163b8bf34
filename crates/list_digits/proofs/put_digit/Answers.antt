-- `list_digits::put_digit` meets its contract. Assumes nothing.
use Rattle.std.specs.Prelude.{◌+◌, ◌%◌, ◌≡◌}
use Rattle.whole.specs.Plain.{arith}
use Rattle.list_digits.specs.Puts.{puts_one}
use Rattle.list_digits.specs.Decimal.{fixed}
use Rattle.list_digits.proofs.put_digit.Goals as goal

pub returns : goal.returns
unfolding fixed
returns c = let e : c.args.n % 10 ≡ c.args.n = omega arith in rw e (puts_one c.args.out.now c.args.at (48 + c.args.n))
