use Rattle.step_conduct.specs.Conducted.{Conducted}
use Rattle.step_conduct.proofs.conduct.Given as goal

abbrev pub invariant-loop-leg : goal.invariant-loop-leg
invariant-loop-leg l = Conducted l.plan l.records l.k l.leg-index l.initial.legs l.legs l.until
