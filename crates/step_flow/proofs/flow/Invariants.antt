-- The first legs with what is found, and the sums of what they carry. Assumes nothing.
use Rattle.std.specs.Prelude.{◌≡◌}
use Rattle.whole.specs.Plain.{take}
use Rattle.paper.specs.Legs.{current}
use Rattle.step_legs.specs.Wires.{legs_in}
use Rattle.step_legs.specs.Sums.{Sums, none}
use Rattle.step_legs.specs.Written.{written_to}
use Rattle.step_flow.specs.Flown.{flown}
use Rattle.step_flow.proofs.flow.Given as goal

abbrev pub invariant-loop-leg : goal.invariant-loop-leg
invariant-loop-leg l = record {
  found : l.legs ≡ written_to (flown l.v) l.leg-index l.initial.legs;
  sums : Sums none (current l.v) (take l.leg-index (legs_in l.initial.legs)) l.leaving;
}
