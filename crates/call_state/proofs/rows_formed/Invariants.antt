-- `call_state::rows_formed` meets its contract. The invariant: the flag says whether the rows passed so far are formed. Assumes nothing.
use Rattle.std.specs.Prelude.{◌≡◌}
use Rattle.whole.specs.Plain.{every, numbers}
use Rattle.call_state.specs.Judged.{planned_formed}
use Rattle.call_state.proofs.rows_formed.Given as goal

abbrev pub invariant-loop-i : goal.invariant-loop-i
invariant-loop-i l = l.all ≡ every (planned_formed l.steps l.plan l.records) (numbers 0 l.i)
