-- The invariant: what is put so far, and the numbers that are left. Assumes nothing.
use Rattle.std.specs.Prelude.{map}
use Rattle.std.specs.Prelude.{drop}
use Rattle.paper.specs.Listing.{shown_all}
use Rattle.list_digits.specs.Puts.{Going}
use Rattle.list_ends.proofs.put_numbers.Given as goal

abbrev pub invariant-loop-number : goal.invariant-loop-number
invariant-loop-number g l =
    Going l.initial.out l.at (shown_all (map g.N.Number.number l.numbers)) (shown_all (map g.N.Number.number (drop l.number-index l.numbers))) l.next l.out
