-- `step_floating::Search::start` meets its contract: what is left to number leads to the answer. Assumes nothing.
use Rattle.std.specs.Prelude.{◌≡◌}
use Rattle.whole.specs.Plain.{drop, fold}
use Rattle.step_floating.specs.Marks.{put}
use Rattle.step_floating.specs.Answer.{start}
use Rattle.step_floating.proofs.Search.start.Given as goal

abbrev pub invariant-loop-n : goal.invariant-loop-n
invariant-loop-n l = fold put l.marks (drop l.n-index l.free) ≡ start l.free
