-- `plan_lay::lay_legs` meets its contract: the ends of the rows passed are laid. Assumes nothing.
use Rattle.std.specs.Prelude.{◌*◌}
use Rattle.plan_lay.specs.Grown.{Grown}
use Rattle.plan_lay.specs.Listed.{listed}
use Rattle.plan_lay.specs.Ends.{own_by, frame_by}
use Rattle.plan_lay.proofs.lay_legs.Given as goal

abbrev pub invariant-loop-i : goal.invariant-loop-i
invariant-loop-i l = Grown l.initial.legs l.m (listed (own_by l.plan l.a) (frame_by l.plan) 0 (2 * l.i)) l.t l.legs
