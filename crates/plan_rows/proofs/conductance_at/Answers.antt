-- `plan_rows::conductance_at` meets its contract. Assumes nothing.
use Rattle.std.specs.Prelude.{◌≡◌}
use Rattle.whole.specs.Plain.{sym, ap, ◌∙◌, true, arith}
use Rattle.paper.specs.Rows.{is_branch}
use Rattle.paper.specs.Areas.{step}
use Rattle.laws_facts.specs.Nets.{net_in, row_at}
use Rattle.laws_facts.proofs.Nets.{net_sound}
use Rattle.paper.specs.Rows.{branch_kind}
use Rattle.plan_rows.specs.Decoded.{branch, no_branch, sized, conductance_is}
use Rattle.plan_rows.proofs.conductance_at.Goals as goal
use Rattle.plan_rows.proofs.conductance_at.Goals.{Else-not-is_branch, After-is_branch}

asked : (c : After-is_branch) → c.is_branch.result ≡ is_branch (row_at (net_in c.args.net.words.now) c.args.i)
asked c = c.is_branch.ensures ∙ ap branch_kind c.requires.kind_value.0

pub returns-then-not-is_branch : goal.returns-then-not-is_branch
returns-then-not-is_branch c =
    sym (no_branch (net_sound _ c.args.net.passes) c.args.i c.requires.i_in_bounds (sym (asked c.before) ∙ c.if-not-is_branch.true)).1

is-branch : (c : Else-not-is_branch) → is_branch (row_at (net_in c.args.net.words.now) c.args.i) ≡ true
is-branch c = sym (asked c.before) ∙ c.if-not-is_branch.false

pub number-size-requires : goal.number-size-requires
number-size-requires c =
    record {
      i_in_bounds = (c.requires.i_in_bounds, omega arith);
      j_value = (((net_sound c.args.net.words.now c.args.net.passes).row c.args.i c.requires.i_in_bounds).branch (is-branch c)).size_in.is_nat;
    }

pub conductance-requires : goal.conductance-requires
conductance-requires c =
    rw (c.requires.kind_value.1, c.number.ensures, c.requires.kind_value.0, c.number-size.ensures) (sized (net_sound _ c.args.net.passes) c.args.i c.requires.i_in_bounds (is-branch c.before.before))

pub returns : goal.returns
returns c =
    (rw (c.requires.kind_value.1, c.number.ensures, c.number-size.ensures) at c.conductance.ensures)
    ∙ conductance_is (step (net_in c.args.net.words.now)) _ _ c.requires.kind_value.0
    ∙ sym (branch (net_sound _ c.args.net.passes) c.args.i c.requires.i_in_bounds (is-branch c.before.before.before)).1
