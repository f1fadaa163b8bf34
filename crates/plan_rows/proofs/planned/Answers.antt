-- `plan_rows::planned` meets its contract: each word is what its own function gives. Assumes nothing.
use Rattle.std.specs.Prelude.{◌/◌, ◌%◌, ◌≤◌, ◌≡◌}
use Rattle.whole.specs.Plain.{sym, ◌∙◌, arith}
use Rattle.paper.specs.Kinds.{number}
use Rattle.paper.specs.Limits as Limits
use Rattle.paper.specs.Faults as Faults
use Rattle.laws_facts.specs.Nets.{net_in, row_at, branch_number_most}
use Rattle.laws_facts.proofs.Nets.{net_sound, travel_word}
use Rattle.plan_rows.specs.ByKind.{slots_by, slots_by_lem}
use Rattle.plan_rows.specs.Planned.{row_of}
use Rattle.plan_rows.specs.Decoded.{from_in, to_most, slots_end, open_word, owner_from, owner_to}
use Rattle.plan_rows.specs.Laws.{number_next}
use Rattle.plan_rows.proofs.planned.Goals as goal
use Rattle.plan_rows.proofs.planned.Goals.{After-number-opens, After-to_at-to}

pub number-from-requires : goal.number-from-requires
number-from-requires c =
    record {
      i_in_bounds = (c.requires.i_in_bounds, omega arith);
      j_value = (from_in (net_sound c.args.net.words.now c.args.net.passes) c.args.i c.requires.i_in_bounds).is_nat;
    }

pub number-fourth-requires : goal.number-fourth-requires
number-fourth-requires c =
    record {
      i_in_bounds = (c.requires.i_in_bounds, omega arith);
      j_value = travel_word c.args.net.words.now c.args.net.passes c.args.i c.requires.i_in_bounds;
    }

pub nonzero_div-delay : goal.nonzero_div-delay
nonzero_div-delay c = omega (arith, c.requires.mapped.1, (net_sound c.args.net.words.now c.args.net.passes).study.step_in.least)

pub nonzero_rem-rest : goal.nonzero_rem-rest
nonzero_rem-rest c = omega (arith, c.requires.mapped.1, (net_sound c.args.net.words.now c.args.net.passes).study.step_in.least)

slots : (c : After-number-opens) → slots_by (number c.kind-kind.result) (c.number-fourth.result / c.args.step) (c.number-fourth.result % c.args.step) ≡ Faults.slots (net_in c.args.net.words.now).head (row_at (net_in c.args.net.words.now) c.args.i)
slots c =
    rw (c.kind-kind.ensures, c.number-fourth.ensures, c.requires.mapped.1) (slots_by_lem (net_in c.args.net.words.now).head (row_at (net_in c.args.net.words.now) c.args.i))

pub slots_of-requires : goal.slots_of-requires
slots_of-requires c =
    omega (arith, slots c.before.before, slots_end (net_sound c.args.net.words.now c.args.net.passes) c.args.i c.requires.i_in_bounds)

pub number-opens-requires : goal.number-opens-requires
number-opens-requires c =
    record {
      i_in_bounds = (c.requires.i_in_bounds, omega arith);
      j_value = open_word c.args.net.words.now c.args.net.passes c.args.i c.requires.i_in_bounds;
    }

nodes : (c : After-to_at-to) → (c.number-from.result ≤ Limits.node_end) × (c.to_at-to.result ≤ Limits.node_end)
nodes c =
    let n = (net_sound c.args.net.words.now c.args.net.passes).node_most in
    (omega (arith, n, c.number-from.ensures, (from_in (net_sound c.args.net.words.now c.args.net.passes) c.args.i c.requires.i_in_bounds).most), omega (arith, n, c.to_at-to.ensures, to_most (net_sound c.args.net.words.now c.args.net.passes) c.args.i c.requires.i_in_bounds))

pub number_of-requires : goal.number_of-requires
number_of-requires c = omega (arith, c.requires.place_value.1, branch_number_most _ (net_sound c.args.net.words.now c.args.net.passes) c.args.i)

pub returns : goal.returns
unfolding row_of
returns c =
    let N = net_in c.args.net.words.now in
    let x = c.slots_of.ensures ∙ slots c.before.before.before.before.before.before in
    let f = (rw (c.kind-kind.ensures, c.number-from.ensures, c.to_at-to.ensures) at c.area_at.ensures) ∙ owner_from (net_sound c.args.net.words.now c.args.net.passes) c.args.i c.requires.i_in_bounds c.requires.mapped.0 in
    let u = (rw (c.kind-kind.ensures, c.number-from.ensures, c.to_at-to.ensures) at c.area_at-2.ensures) ∙ owner_to (net_sound c.args.net.words.now c.args.net.passes) c.args.i c.requires.i_in_bounds c.requires.mapped.0 in
    let b = (rw (c.kind-kind.ensures, c.requires.place_value.1) at c.number_of.ensures) ∙ sym (number_next N c.args.i c.requires.i_in_bounds) in
    rw (x, f, u, b, c.number-fourth.ensures, c.number.ensures, c.kind-kind.ensures, c.number-from.ensures, c.to_at-to.ensures, c.conductance_at.ensures, c.number-opens.ensures, c.requires.mapped.1, c.requires.place_value.0)

pub area_at-requires : goal.area_at-requires
area_at-requires c = nodes c.before.before.before.before.before

pub area_at-requires-2 : goal.area_at-requires-2
area_at-requires-2 c = let n = nodes c.before.before.before.before.before.before in (n.1, n.0)
