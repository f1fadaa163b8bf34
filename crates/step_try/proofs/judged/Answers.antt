-- `step_try::judged` meets its contract. Assumes nothing.
use Rattle.whole.specs.Plain.{sym, ◌∙◌, arith}
use Rattle.step_try.specs.Trying.{place_most}
use Rattle.step_try.proofs.judged.Goals as goal

pub bounds-plan-row : goal.bounds-plan-row
bounds-plan-row c = place_most c.requires.wires (sym c.first_beyond.ensures ∙ c.in-Some-first_beyond.is)

pub offset_bounds-plan-row : goal.offset_bounds-plan-row
offset_bounds-plan-row c = omega (arith, place_most c.requires.wires (sym c.first_beyond.ensures ∙ c.in-Some-first_beyond.is))
