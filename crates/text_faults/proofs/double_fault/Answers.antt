use Rattle.whole.specs.Plain.{ℕ, ◌∙◌, ap, false, get_or, arith}
use Rattle.paper.specs.Rows.{fixing_kind}
use Rattle.text_faults.specs.Seen.{seen_double}
use Rattle.text_faults.proofs.double_fault.Goals as goal

pub returns : goal.returns
unfolding seen_double
returns c =
    let f = c.is_fixing.ensures ∙ ap fixing_kind c.args.row.named in
    let h = c.get.ensures.lookup.4 (omega arith) false ∙ ap (λ (n : ℕ). get_or c.args.seen.fixed n false) c.field-node.ensures in
    rw (f, c.unwrap_or.ensures, c.copied.ensures, h)
