-- `plan_lay::flag_row` meets its contract. Assumes nothing.
use Rattle.std.specs.Prelude.{◌<◌, ◌≡◌}
use Rattle.whole.specs.Plain.{ℕ, Bool, length, Words, sym, ap, ◌∙◌, true, arith}
use Rattle.paper.specs.Rows.{Row, kind, fixing_kind, is_fixing}
use Rattle.paper.specs.Network.{is_network}
use Rattle.paper.specs.Classes.{fixing_source}
use Rattle.laws_facts.specs.Sound.{SourceSound}
use Rattle.laws_facts.specs.Nets.{net_in, row_at}
use Rattle.laws_facts.proofs.Nets.{net_sound}
use Rattle.plan_lay.specs.Flags.{flag_not, flag_put}
use Rattle.plan_lay.proofs.flag_row.Goals as goal

asked : (r : Row) {k : ℕ} {b : Bool} → k ≡ kind r → b ≡ fixing_kind k → b ≡ is_fixing r
asked r e f = f ∙ ap fixing_kind e

fields : (net : Words) (i : ℕ) → is_network net ≡ true → i < length (net_in net).rows → is_fixing (row_at (net_in net) i) ≡ true → SourceSound (net_in net).nodes (row_at (net_in net) i)
fields net i e h f = ((net_sound net e).row i h).source (fixing_source (row_at (net_in net) i) f)

pub number-node-requires : goal.number-node-requires
number-node-requires c =
    let r = row_at (net_in c.args.net.words.now) c.args.i in
    let f = sym (asked r c.kind.ensures c.is_fixing.ensures) ∙ c.if-is_fixing.true in
    record {
      i_in_bounds = (c.requires, omega arith);
      j_value = (fields c.args.net.words.now c.args.i c.args.net.passes c.requires f).at_in.is_nat;
    }

pub bounds-flags-node : goal.bounds-flags-node
bounds-flags-node c =
    let r = row_at (net_in c.args.net.words.now) c.args.i in
    let f = sym (asked r c.kind.ensures c.is_fixing.ensures) ∙ c.if-is_fixing.true in
    omega (arith, c.number-node.ensures, (fields c.args.net.words.now c.args.i c.args.net.passes c.requires f).at_in.most, (net_sound c.args.net.words.now c.args.net.passes).node_most)

pub returns-then-is_fixing : goal.returns-then-is_fixing
returns-then-is_fixing c =
    let r = row_at (net_in c.args.net.words.now) c.args.i in
    flag_put (net_in c.args.net.words.now) c.args.i c.args.flags.now c.number-node.result (sym (asked r c.kind.ensures c.is_fixing.ensures) ∙ c.if-is_fixing.true) c.number-node.ensures

pub returns-else-is_fixing : goal.returns-else-is_fixing
returns-else-is_fixing c =
    let r = row_at (net_in c.args.net.words.now) c.args.i in
    flag_not (net_in c.args.net.words.now) c.args.i c.args.flags.now (sym (asked r c.kind.ensures c.is_fixing.ensures) ∙ c.if-is_fixing.false)
