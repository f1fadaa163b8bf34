-- `plan_rows::study_number` meets its contract. Assumes nothing.
use Rattle.whole.specs.Plain.{ap, ◌∙◌, nat_abs}
use Rattle.whole.specs.Int.{read64}
use Rattle.whole.specs.Index.{index}
use Rattle.plan_rows.specs.Decoded.{study_word}
use Rattle.plan_rows.proofs.study_number.Goals as goal

pub overflow_cast-result : goal.overflow_cast-result
overflow_cast-result c =
    index c.study_word.result _ c.study_word.type_inv (c.study_word.ensures ∙ study_word c.args.net.words.now c.args.net.passes c.args.j c.requires)

pub returns : goal.returns
returns c = ap nat_abs (read64 c.study_word.result c.study_word.type_inv ∙ c.study_word.ensures)
