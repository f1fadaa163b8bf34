-- `num_cosine::in_quarter` meets its contract. Assumes nothing.
use Rattle.num_cosine.specs.Cosine.{near, past}
use Rattle.std.proofs.Common.{rules}
use Rattle.num_cosine.proofs.in_quarter.Goals as goal

pub returns-then-j-le256 : goal.returns-then-j-le256
returns-then-j-le256 c = (c.if-j-le256.true, near _ c.if-j-le256.true)

pub returns : goal.returns
returns c = (search rules, past _ c.if-j-le256.false)
