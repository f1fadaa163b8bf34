-- `call_network::spare_zero` meets its contract. Assumes nothing.
use Rattle.std.specs.Prelude.{◌+◌, ◌-◌, ◌≤◌, ◌≡◌}
use Rattle.std.proofs.Common.{one-add, rules}
use Rattle.whole.specs.Plain.{ℕ, Words, ◌∙◌, length, take, drop, length-drop, take_all, every, up_to, arith}
use Rattle.paper.specs.Kinds.{number, number_few}
use Rattle.paper.specs.Rows.{kind, fields_of}
use Rattle.text_kinds.specs.Fields.{fields_few}
use Rattle.call_network.specs.Judged.{spare_zero}
use Rattle.call_network.proofs.spare_zero.Goals as goal

rest : (w : Words) {k f : ℕ} → k ≡ kind w → f ≡ length (fields_of k) → every (up_to 0) (take (length w - (1 + f)) (drop (1 + f) w)) ≡ spare_zero w
unfolding spare_zero
rest w {k} {f} e h =
    let all = take_all (length w - (1 + f)) (drop (1 + f) w) (rw length-drop (omega arith)) in
    rw (all, one-add, h, e)

pub overflow_add-fields : goal.overflow_add-fields
overflow_add-fields c = record { fits = omega (arith, c.fields.ensures, fields_few (number c.args.row.kind) (number_few c.args.row.kind)) }

pub offset_bounds-row-fields : goal.offset_bounds-row-fields
offset_bounds-row-fields c = record { fits = omega (arith, c.fields.ensures, fields_few (number c.args.row.kind) (number_few c.args.row.kind)) }

pub slice_bounds-all_zero-count : goal.slice_bounds-all_zero-count
slice_bounds-all_zero-count c = omega (arith, c.fields.ensures, fields_few (number c.args.row.kind) (number_few c.args.row.kind))

pub slice_bounds-all_zero-start : goal.slice_bounds-all_zero-start
slice_bounds-all_zero-start c =
    let h : c.fields.result ≤ 5 = omega (arith, c.fields.ensures, fields_few (number c.args.row.kind) (number_few c.args.row.kind)) in
    search rules

pub returns : goal.returns
returns c = c.all_zero.ensures ∙ rest c.args.row.words c.args.row.named c.fields.ensures
