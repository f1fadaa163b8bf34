-- `call_state::in_step` meets its contract: of every network that the plan is of. Assumes nothing.
use Rattle.whole.specs.Plain.{sym, ◌∙◌}
use Rattle.call_counts.specs.Level.{level_is}
use Rattle.call_state.specs.Facts.{formed_counts}
use Rattle.call_state.proofs.in_step.Goals as goal

pub steps_taken-taken-requires : goal.steps_taken-taken-requires
steps_taken-taken-requires c = let o = c.requires.0.of in formed_counts o.of c.requires.1 (sym (c.well_formed-2.ensures _ o) ∙ c.if-not-well_formed.false)

pub all_taken-requires : goal.all_taken-requires
all_taken-requires c = let o = c.requires.0.of in formed_counts o.of c.requires.1 (sym (c.well_formed-2.ensures _ o) ∙ c.if-not-well_formed.false)

pub returns : goal.returns
returns c = λ N o. rw (sym (c.well_formed-2.ensures N o) ∙ c.if-not-well_formed.false, level_is o.of _) (rw c.steps_taken-taken.ensures at c.all_taken.ensures)
