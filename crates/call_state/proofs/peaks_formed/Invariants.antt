-- `call_state::peaks_formed` meets its contract. The invariant: the flag and the nodes that are left say together what all nodes say. Assumes nothing.
use Rattle.std.specs.Prelude.{◌+◌, ◌-◌, ◌≡◌, ◌&&◌}
use Rattle.whole.specs.Plain.{every, numbers}
use Rattle.call_state.specs.Judged.{peaked_by}
use Rattle.call_state.proofs.peaks_formed.Given as goal

abbrev pub invariant-loop-n : goal.invariant-loop-n
invariant-loop-n l = (l.all && every (peaked_by l.areas l.records) (numbers l.n (l.nodes + 1 - l.n))) ≡ every (peaked_by l.areas l.records) (numbers 1 l.nodes)
