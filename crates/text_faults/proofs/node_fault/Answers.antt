use Rattle.whole.specs.Plain.{◌∙◌, ap, arith}
use Rattle.text_kinds.specs.Table.{in_range}
use Rattle.text_faults.specs.Laws.{node_is, known_kind}
use Rattle.text_faults.proofs.node_fault.Goals as goal

pub returns : goal.returns
returns c =
    let r = c.args.row in
    rw c.is_line.ensures
    (node_is r.words (omega arith) (known_kind r.words r.kind r.named) r.named (c.requires ∙ ap (λ (k : _). in_range k r.words) r.named) c.field-a.ensures c.field-b.ensures c.names.ensures c.is_branch.ensures c.is_source.ensures)
