-- The invariant: so many pieces are handed over, and more to follow each. Assumes nothing.
use Rattle.std.specs.Prelude.{◌≡◌}
use Rattle.whole.specs.Plain.{length}
use Rattle.paper.specs.Advance.{memory}
use Rattle.run_pieces.specs.Pieces.{Going}
use Rattle.run_pieces.proofs.list_all.Given as goal

abbrev pub invariant-loop-before : goal.invariant-loop-before
invariant-loop-before g l = record {
  long : length l.out ≡ length l.fn.out;
  going : Going l.network (memory l.fn.records l.fn.froms l.fn.tos) l.fn.out l.before l.out (memory l.records l.froms l.tos);
}
