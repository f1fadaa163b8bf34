-- `step_histories::hear` meets its contract: the first legs have their histories. Assumes nothing.
use Rattle.std.specs.Prelude.{◌≡◌}
use Rattle.step_legs.specs.Written.{written_to}
use Rattle.step_histories.specs.Heard.{heard_leg}
use Rattle.step_histories.proofs.hear.Given as goal

abbrev pub invariant-loop-leg : goal.invariant-loop-leg
invariant-loop-leg l = l.legs ≡ written_to (heard_leg l.plan l.records l.froms l.tos l.k) l.leg-index l.initial.legs
