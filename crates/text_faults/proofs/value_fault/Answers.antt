-- the fields that name no node
use Rattle.std.specs.Prelude.{◌<◌, ◌≤◌, ◌≡◌}
use Rattle.whole.specs.Plain.{ℕ, Words, length, ◌∙◌, sym, ap, false, tail}
use Rattle.whole.specs.Plain.{lt-ltb, le-ltb, arith}
use Rattle.paper.specs.Rows.{kind, fields_of}
use Rattle.paper.specs.Faults.{node_fault, outside}
use Rattle.text_kinds.specs.Table.{in_range}
use Rattle.text_faults.specs.Laws.{known_kind, values_are, value_out, value_none, value_refused, value_taken, sized}
use Rattle.text_faults.proofs.value_fault.Goals as goal

passing : (w : Words) → 6 ≤ length w → kind w < 10 → {k n m : ℕ} → k ≡ kind w → n ≡ in_range k w → node_fault w ≡ false → m ≡ length (fields_of k) → m ≤ n
    → outside false (fields_of (kind w)) (tail w) ≡ false
passing w few known e i f p h = sym (values_are w few known e (i ∙ ap (λ (k : ℕ). in_range k w) e) f p) ∙ le-ltb _ _ h

pub returns-then-passed-fields : goal.returns-then-passed-fields
returns-then-passed-fields c =
    let r = c.args.row in
    let q = c.requires.passed_value in
    let o = values_are r.words (omega arith) (known_kind r.words r.kind r.named) r.named (q.0 ∙ ap (λ (k : ℕ). in_range k r.words) r.named) q.1 c.fields.ensures in
    value_out r.words (omega arith) (known_kind r.words r.kind r.named) r.named c.args.step (sym o ∙ lt-ltb _ _ c.if-passed-fields.true)

pub returns-then-not-is_branch : goal.returns-then-not-is_branch
returns-then-not-is_branch c =
    let r = c.args.row in
    let q = c.requires.passed_value in
    let o = passing r.words (omega arith) (known_kind r.words r.kind r.named) r.named q.0 q.1 c.fields.ensures c.if-passed-fields.false in
    value_none r.words (omega arith) (known_kind r.words r.kind r.named) r.named c.args.step o c.is_branch.ensures c.if-not-is_branch.true

pub conductance-requires : goal.conductance-requires
conductance-requires c =
    let r = c.args.row in
    let q = c.requires.passed_value in
    let o = passing r.words (omega arith) (known_kind r.words r.kind r.named) r.named q.0 q.1 c.fields.ensures c.if-passed-fields.false in
    rw c.number.ensures (sized r.words (omega arith) (known_kind r.words r.kind r.named) r.named c.args.step c.requires.step_bound.0 c.requires.step_bound.1 o c.is_branch.ensures c.if-not-is_branch.false c.field.ensures)

pub returns-in_default : goal.returns-in_default
returns-in_default c =
    let r = c.args.row in
    let q = c.requires.passed_value in
    let o = passing r.words (omega arith) (known_kind r.words r.kind r.named) r.named q.0 q.1 c.fields.ensures c.if-passed-fields.false in
    value_refused r.words (omega arith) (known_kind r.words r.kind r.named) r.named c.args.step o c.is_branch.ensures c.if-not-is_branch.false c.field.ensures (rw c.number.ensures at c.conductance.ensures) c.new.ensures c.in_default.is

pub returns : goal.returns
returns c =
    let r = c.args.row in
    let q = c.requires.passed_value in
    let o = passing r.words (omega arith) (known_kind r.words r.kind r.named) r.named q.0 q.1 c.fields.ensures c.if-passed-fields.false in
    value_taken r.words (omega arith) (known_kind r.words r.kind r.named) r.named c.args.step o c.is_branch.ensures c.if-not-is_branch.false c.field.ensures (rw c.number.ensures at c.conductance.ensures) c.new.ensures
    c.in-Some.is c.field-close.ensures c.field-open.ensures c.is_switch.ensures
