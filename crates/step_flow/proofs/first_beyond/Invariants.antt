-- The legs that are left lead to the answer. Assumes nothing.
use Rattle.std.specs.Prelude.{◌≡◌}
use Rattle.whole.specs.Plain.{drop}
use Rattle.step_flow.specs.Beyond.{first_row}
use Rattle.step_flow.proofs.first_beyond.Given as goal

abbrev pub invariant-loop-l : goal.invariant-loop-l
invariant-loop-l l = first_row (drop l.l-index l.legs) ≡ first_row l.legs
