-- `run_bytes::again` meets its contract: one call more. Assumes nothing.
use Rattle.std.proofs.Common.{of_calls}
use Rattle.std.specs.Prelude.{IsErr, is_err}
use Rattle.whole.specs.Plain.{ap}
use Rattle.std.proofs.lemmas.Fn.{FoldsTo-push}
use Rattle.std.proofs.lemmas.List.Elements.{All-push}
use Rattle.run_bytes.proofs.again.Goals as goal

pub loop-preserved : goal.loop-preserved
loop-preserved g c =
    let v = c.loop.invariant in
    (search of_calls, _, All-push IsErr _ _ v.2 (ap is_err c.in-Err.is), FoldsTo-push _ _ v.1 _ _ _ v.3 c.call-answer.ensures)
