-- `num_cosine::in_half` meets its contract. Assumes nothing.
use Rattle.num_cosine.specs.Cosine.{first_half, second_half}
use Rattle.std.proofs.Common.{rules}
use Rattle.num_cosine.proofs.in_half.Goals as goal

pub returns-then-index-le512 : goal.returns-then-index-le512
returns-then-index-le512 c = (c.if-index-le512.true, first_half _ c.if-index-le512.true)

pub returns : goal.returns
returns c = (search rules, second_half _ c.if-index-le512.false)
