-- `call_state::well_formed` meets its contract: the records and the two stores, each judged by itself. Assumes nothing.
use Rattle.whole.specs.Plain.{arith}
use Rattle.call_state.specs.Formed.{few, state_is}
use Rattle.call_state.proofs.well_formed.Goals as goal

pub records_formed-kept-requires : goal.records_formed-kept-requires
records_formed-kept-requires c = (c.requires.0, c.requires.1.records_long)

pub section-from-requires : goal.section-from-requires
section-from-requires c = (omega (arith, (few c.requires.0.of.of).slots), omega (arith, c.requires.1.froms_long), tt)

pub section-to-requires : goal.section-to-requires
section-to-requires c = (omega (arith, (few c.requires.0.of.of).slots), omega (arith, c.requires.1.tos_long), tt)

pub returns : goal.returns
returns c = λ N o. rw (state_is o c.requires.1, ← c.records_formed-kept.ensures N o, c.section-from.ensures, c.section-to.ensures)
