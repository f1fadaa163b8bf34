use Rattle.whole.specs.Plain.{arith}
use Rattle.text_faults.specs.Laws.{full_is, slots_small}
use Rattle.text_faults.proofs.full_fault.Goals as goal

pub overflow_add-result : goal.overflow_add-result
overflow_add-result c =
    let a = slots_small c.args.row.words (omega arith) c.args.seen.step c.requires.1 in
    record { fits = omega (arith, c.slots_of.ensures, c.requires.0.slots) }

pub returns : goal.returns
returns c =
    full_is c.args.seen c.args.row.words c.args.row.named c.is_branch.ensures c.is_source.ensures c.slots_of.ensures
