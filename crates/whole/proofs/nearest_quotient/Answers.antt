use Rattle.whole.specs.Plain.{mod-lt, arith}
use Rattle.whole.specs.Rounding.{nearest_down, nearest_up, quotient_half}
use Rattle.whole.proofs.nearest_quotient.Goals as goal

pub overflow_sub-b : goal.overflow_sub-b
overflow_sub-b c = omega (arith, mod-lt c.args.a c.requires)

pub overflow_add-result : goal.overflow_add-result
overflow_add-result c = let s = c.before in omega (arith, quotient_half s.args.a s.args.b s.requires c.if-rest-b.false, s.ranges.a.fits)

pub returns-then-rest-b : goal.returns-then-rest-b
returns-then-rest-b c = let s = c.before in nearest_down s.args.a s.args.b s.requires c.if-rest-b.true

pub returns-else-rest-b : goal.returns-else-rest-b
returns-else-rest-b c = let s = c.before in nearest_up s.args.a s.args.b s.requires c.if-rest-b.false
