-- `call_counts::all_taken` meets its contract. The invariant: the flag and the areas that are left say together what all areas say. Assumes nothing.
use Rattle.std.specs.Prelude.{◌+◌, ◌-◌, ◌≡◌, ◌&&◌}
use Rattle.whole.specs.Plain.{every, numbers}
use Rattle.call_counts.specs.Level.{took_all}
use Rattle.call_counts.proofs.all_taken.Given as goal

abbrev pub invariant-loop-a : goal.invariant-loop-a
invariant-loop-a l = (l.all && every (took_all l.records l.taken) (numbers l.a (l.areas + 1 - l.a))) ≡ every (took_all l.records l.taken) (numbers 1 l.areas)
