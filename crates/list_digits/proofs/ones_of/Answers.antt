-- `list_digits::ones_of` meets its contract: what is looked up is the definition's. Assumes nothing.
use Rattle.whole.specs.Plain.{refl}
use Rattle.list_digits.specs.Pairs.{pairs_from, pair_ones}
use Rattle.list_digits.proofs.ones_of.Goals as goal

pub returns : goal.returns
unfolding pairs_from
returns c = pair_ones c.args.n c.requires
