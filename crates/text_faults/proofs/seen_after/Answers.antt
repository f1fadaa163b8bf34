use Rattle.whole.specs.Plain.{arith}
use Rattle.text_faults.specs.Laws.{faultless, slots_small, after_is}
use Rattle.text_faults.proofs.seen_after.Goals as goal

pub slots_of-requires : goal.slots_of-requires
slots_of-requires c = (c.requires.0.long, (faultless c.args.seen c.args.row.words c.requires.1).value)

pub overflow_add-result-3 : goal.overflow_add-result-3
overflow_add-result-3 c =
    let a = slots_small c.args.row.words (omega arith) c.args.seen.step (faultless c.args.seen c.args.row.words c.requires.1).value in
    record { fits = omega (arith, c.slots_of.ensures, c.requires.0.slots) }

pub returns : goal.returns
returns c =
    rw (c.from.ensures, c.from-2.ensures)
    (after_is c.args.seen c.args.row.words c.args.row.named c.fixed_after.ensures c.step_after.ensures c.is_branch.ensures c.is_source.ensures c.slots_of.ensures)
