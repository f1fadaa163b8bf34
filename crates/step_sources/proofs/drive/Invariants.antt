-- The sources that are left lead to the answer, and those passed have left room. Assumes nothing.
use Rattle.std.specs.Prelude.{◌≡◌}
use Rattle.whole.specs.Plain.{ℕ, Bool, drop, Words, List, fold}
use Rattle.step_legs.specs.declared.Source.{Source}
use Rattle.step_sources.specs.Table.{is_fixing, is_iS, Room, give, given}
use Rattle.step_sources.proofs.drive.Given as goal

-- what is there after j sources
pub record After (p : Source → Bool) (k : ℕ) (sources : List Source) (j : ℕ) (w : Words) : Type 0 where
  pub left : fold (give p k) w (drop j sources) ≡ given p k sources
  pub room : Room j w

abbrev pub invariant-loop-source : goal.invariant-loop-source
invariant-loop-source l = After is_fixing l.k l.sources l.source-index l.v × After is_iS l.k l.sources l.source-index l.inject
