use Rattle.std.specs.Prelude.{◌≤◌, ◌≡◌}
use Rattle.whole.specs.Plain.{drop}
use Rattle.text_words.specs.Numbers.{held_end, digits_after, digits_of}
use Rattle.text_words.proofs.all_digits.Given as goal

abbrev pub invariant-loop-b : goal.invariant-loop-b
invariant-loop-b l = (l.v ≤ held_end) × (digits_after l.v (drop l.b-index l.s) ≡ digits_of l.s)
