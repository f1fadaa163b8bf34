-- `list_digits::put_tens` meets its contract. Assumes nothing.
use Rattle.std.specs.Prelude.{◌+◌, ◌/◌}
use Rattle.whole.specs.Plain.{sym, ap, length, arith}
use Rattle.list_digits.specs.Puts.{puts_none, puts_one, puts_as}
use Rattle.list_digits.specs.Pairs.{no_tens, some_tens}
use Rattle.list_digits.proofs.put_tens.Goals as goal

pub returns-then-n-lt10 : goal.returns-then-n-lt10
returns-then-n-lt10 c = let s = c.before in puts_as (sym (no_tens s.args.n c.if-n-lt10.true)) (puts_none s.args.out.now s.args.at)

pub bounds-out-at : goal.bounds-out-at
bounds-out-at c = let s = c.before.before in omega (arith, s.requires.1, ap length (some_tens s.args.n c.if-n-lt10.false))

pub returns : goal.returns
returns c = rw (c.tens_of.ensures, some_tens c.args.n c.if-n-lt10.false) (puts_one c.args.out.now c.args.at (48 + c.args.n / 10))
