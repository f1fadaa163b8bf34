-- `plan_record::Record::number` meets its contract: the word is no negative number. Assumes nothing.
use Rattle.whole.specs.Plain.{ap, ◌∙◌, nat_abs}
use Rattle.whole.specs.Int.{read64}
use Rattle.whole.specs.Index.{index}
use Rattle.plan_record.proofs.Record.number.Goals as goal

pub overflow_cast-result : goal.overflow_cast-result
overflow_cast-result c = index c.value.result _ c.value.type_inv (c.value.ensures ∙ c.requires.j_value)

pub returns : goal.returns
returns c = ap nat_abs (read64 c.value.result c.value.type_inv ∙ c.value.ensures)
