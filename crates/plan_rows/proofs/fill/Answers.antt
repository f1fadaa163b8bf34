-- `plan_rows::fill` meets its contract: the rows passed are planned, their slots and branches counted. Assumes nothing.
use Rattle.std.specs.Prelude.{◌+◌, ◌<◌, ◌≡◌}
use Rattle.whole.specs.Plain.{refl, sym, ap, ◌∙◌, length, arith, count}
use native.Mathlib.Numerals.{add-one}
use Rattle.paper.specs.Areas.{branch_number}
use Rattle.paper.specs.Records.{offset}
use Rattle.laws_facts.specs.Nets.{net_in}
use Rattle.laws_facts.proofs.Nets.{net_sound}
use Rattle.plan_rows.specs.declared.Row.{Row}
use Rattle.plan_rows.specs.Planned.{row_of}
use Rattle.plan_rows.specs.Decoded.{slots_end}
use Rattle.plan_rows.specs.Laws.{offset_first, offset_next, offset_last, planned_none, planned_more}
use Rattle.plan_rows.proofs.fill.Goals as goal
use Rattle.plan_rows.proofs.fill.Goals.{In-loop-i, After-planned-r}

pub loop-i-init : goal.loop-i-init
unfolding branch_number count
loop-i-init c = (offset_first (net_in c.args.net.words.now), refl, planned_none _ _ c.requires.plan_len)

there : (c : In-loop-i) → c.loop-i.i < length (net_in c.args.net.words.now).rows
there c = omega (arith, c.row_count-i-end.ensures)

few : (c : In-loop-i) → c.loop-i.i < 80
few c = omega (arith, there c, (net_sound c.args.net.words.now c.args.net.passes).row_most)

pub planned-r-requires : goal.planned-r-requires
planned-r-requires c =
    record { i_in_bounds = there c; mapped = c.requires.mapped; place_value = (c.loop-i.invariant.0, c.loop-i.invariant.1) }

slots : (c : After-planned-r) → c.planned-r.result.place + c.planned-r.result.slots ≡ offset (net_in c.args.net.words.now) (c.loop-i.i + 1)
unfolding row_of
slots c = ap (λ (r : Row). r.place + r.slots) c.planned-r.ensures ∙ sym (offset_next _ _ (there c.before))

number : (c : After-planned-r) → c.planned-r.result.number ≡ branch_number (net_in c.args.net.words.now) (c.loop-i.i + 1)
unfolding row_of
number c = rw add-one (ap (λ (r : Row). r.number) c.planned-r.ensures)

pub overflow_add-slots : goal.overflow_add-slots
overflow_add-slots c =
    let N = net_in c.args.net.words.now in
    let t = there c.before.before in
    omega (arith, slots c.before, offset_next N c.loop-i.i t, slots_end (net_sound _ c.args.net.passes) c.loop-i.i t)

pub loop-i-preserved : goal.loop-i-preserved
loop-i-preserved c =
    (slots c.before, number c.before, rw c.planned-r.ensures (planned_more c.loop-i.invariant.2 (few c.before.before)))

pub returns : goal.returns
returns c =
    let e : c.loop-i.i ≡ length (net_in c.args.net.words.now).rows = omega (arith, c.row_count-i-end.ensures) in
    (rw e at c.loop-i.invariant.2, (rw e at c.loop-i.invariant.0) ∙ offset_last _)

pub bounds-plan-i : goal.bounds-plan-i
bounds-plan-i c = few c.before

pub offset_bounds-plan-i : goal.offset_bounds-plan-i
offset_bounds-plan-i c = omega (arith, few c.before)
