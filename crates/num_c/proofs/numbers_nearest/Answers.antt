use Rattle.std.proofs.Common.{rules}
use Rattle.num_c.specs.Outcomes.{rounded}
use Rattle.num_c.proofs.numbers_nearest.Goals as goal

pub returns-in-Some : goal.returns-in-Some
unfolding rounded
returns-in-Some c = rw (← c.nearest-r.ensures, c.in-Some.is) (search rules)

pub returns-in-None : goal.returns-in-None
unfolding rounded
returns-in-None c = rw (← c.nearest-r.ensures, c.in-None.is)
