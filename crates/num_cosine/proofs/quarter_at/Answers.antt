-- `num_cosine::quarter_at` meets its contract: the table of the code computes to the definition's. Assumes nothing.
use Rattle.whole.specs.Plain.{refl}
use Rattle.num_cosine.specs.Quarter.{quarter, entry}
use Rattle.num_cosine.proofs.quarter_at.Goals as goal

pub returns : goal.returns
unfolding entry quarter
returns c = refl
