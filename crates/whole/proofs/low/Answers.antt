use Rattle.whole.specs.Floor.{low_bits}
use Rattle.whole.proofs.low.Goals as goal

pub returns : goal.returns
returns c = low_bits c.args.x c.ranges.x
