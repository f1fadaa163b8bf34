-- `plan_rows::to_at` meets its contract. Assumes nothing.
use Rattle.std.specs.Prelude.{◌≡◌}
use Rattle.whole.specs.Plain.{sym, ap, ◌∙◌, true, arith}
use Rattle.paper.specs.Rows.{is_branch}
use Rattle.laws_facts.specs.Nets.{net_in, row_at}
use Rattle.laws_facts.proofs.Nets.{net_sound}
use Rattle.paper.specs.Rows.{branch_kind}
use Rattle.plan_rows.specs.Decoded.{branch, no_branch}
use Rattle.plan_rows.proofs.to_at.Goals as goal
use Rattle.plan_rows.proofs.to_at.Goals.{Else-not-is_branch, After-is_branch}

asked : (c : After-is_branch) → c.is_branch.result ≡ is_branch (row_at (net_in c.args.net.words.now) c.args.i)
asked c = c.is_branch.ensures ∙ ap branch_kind c.requires.kind_value

pub returns-then-not-is_branch : goal.returns-then-not-is_branch
returns-then-not-is_branch c =
    sym (no_branch (net_sound _ c.args.net.passes) c.args.i c.requires.i_in_bounds (sym (asked c.before) ∙ c.if-not-is_branch.true)).0

is-branch : (c : Else-not-is_branch) → is_branch (row_at (net_in c.args.net.words.now) c.args.i) ≡ true
is-branch c = sym (asked c.before) ∙ c.if-not-is_branch.false

pub number-requires : goal.number-requires
number-requires c =
    record {
      i_in_bounds = (c.requires.i_in_bounds, omega arith);
      j_value = (((net_sound c.args.net.words.now c.args.net.passes).row c.args.i c.requires.i_in_bounds).branch (is-branch c)).to_in.is_nat;
    }

pub returns : goal.returns
returns c =
    c.number.ensures ∙ sym (branch (net_sound _ c.args.net.passes) c.args.i c.requires.i_in_bounds (is-branch c.before)).0
