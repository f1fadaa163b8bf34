use Rattle.whole.specs.Plain.{sym, ◌∙◌}
use Rattle.text_faults.proofs.line_fault.Goals as goal

pub value_fault-requires : goal.value_fault-requires
value_fault-requires c =
    let h = c.requires in
    record { step_bound = (h.long, h.short); passed_value = (c.in_range-passed.ensures, sym c.node_fault.ensures ∙ c.if-node_fault.false) }

pub full_fault-requires : goal.full_fault-requires
full_fault-requires c = (c.requires, sym c.value_fault.ensures ∙ c.if-value_fault.false)
