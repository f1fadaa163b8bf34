-- `step_factors::substitute` meets its contract. Assumes nothing.
use Rattle.whole.specs.Plain.{◌∙◌, ap}
use Rattle.step_factors.specs.Factored.{back, substituted}
use Rattle.step_factors.proofs.substitute.Goals as goal

pub returns : goal.returns
unfolding substituted
returns c = c.back.ensures ∙ ap (back _ _ _) c.forward.ensures
