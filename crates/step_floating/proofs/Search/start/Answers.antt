-- `step_floating::Search::start` meets its contract: what is left to number leads to the answer. Assumes nothing.
use Rattle.whole.specs.Plain.{refl}
use Rattle.whole.specs.Folds.{fold_next, fold_end}
use Rattle.step_floating.specs.Marks.{put, marks_free}
use Rattle.step_floating.proofs.Search.start.Goals as goal

pub loop-n-init : goal.loop-n-init
loop-n-init c = marks_free c.args.free.now

pub loop-n-preserved : goal.loop-n-preserved
loop-n-preserved c = fold_next put c.args.free.now c.loop-n.n-index 0 c.loop-n.marks _ _ c.loop-n-test.true refl c.loop-n.invariant

pub returns : goal.returns
returns c = rw (fold_end put c.args.free.now c.loop-n.n-index c.loop-n.marks _ c.loop-n-test.false c.loop-n.invariant)
