-- `plan_rows::make` meets its contract: each part is what its own function gives. Assumes nothing.
use Rattle.whole.specs.Plain.{◌∙◌, arith}
use Rattle.whole.specs.Int.{read64}
use Rattle.plan_rows.specs.Decoded.{study_word}
use Rattle.plan_rows.specs.Laws.{mapped}
use Rattle.plan_rows.proofs.make.Goals as goal

pub fill-slots-requires : goal.fill-slots-requires
fill-slots-requires c =
    record {
      plan_len = c.requires.area_len.1;
      mapped = (mapped _ _ c.areas-areas.ensures.0, c.study_number-step.ensures);
    }

pub returns : goal.returns
returns c =
    let limit = read64 c.study_word.result c.study_word.type_inv ∙ c.study_word.ensures ∙ study_word c.args.net.now c.requires.net_value 2 (omega arith) in
    record {
      planned = (c.fill-slots.ensures.0, mapped _ _ c.areas-areas.ensures.0);
      value = rw (limit, c.row_count-rows.ensures, c.node_count-nodes.ensures, c.areas-areas.ensures.1, c.fill-slots.ensures.1, c.study_number.ensures);
    }
