use Rattle.text_study.specs.States.{State}
use Rattle.text_study.proofs.read_study.Given as goal
use Rattle.std.specs.Prelude.{◌-◌}
use Rattle.whole.specs.Plain.{length}

abbrev pub invariant-loop-p : goal.invariant-loop-p
invariant-loop-p l = State l.text l.p l.net

abbrev pub decreases-loop-p : goal.decreases-loop-p
decreases-loop-p l = length l.text - l.p.at
