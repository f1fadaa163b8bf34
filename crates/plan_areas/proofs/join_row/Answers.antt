-- `plan_areas::join_row` meets its contract: each way out is a row that joins nothing, but for the last. Assumes nothing.
use Rattle.std.specs.Prelude.{◌<◌, ◌≡◌}
use Rattle.whole.specs.Plain.{ℕ, Bool, length, Words, sym, ap, ◌∙◌, true, true≢false, eq-eqb, eqb-true, arith}
use Rattle.paper.specs.Rows.{Row, kind, is_branch, branch_kind}
use Rattle.paper.specs.declared.kinds.Kind.{Kind}
use Rattle.paper.specs.Kinds.{number}
use Rattle.paper.specs.Network.{is_network}
use Rattle.paper.specs.Areas.{step}
use Rattle.laws_facts.specs.Sound.{BranchSound}
use Rattle.laws_facts.specs.Nets.{net_in, row_at}
use Rattle.laws_facts.proofs.Nets.{net_sound}
use Rattle.plan_areas.specs.Marks.{idle_row, busy_row}
use Rattle.plan_areas.specs.Joining.{source_none, line_none, from_none, to_none, joins_both}
use Rattle.plan_areas.proofs.join_row.Goals as goal
use Rattle.plan_areas.proofs.join_row.Goals.{then-one-eq0-via-then-one-eq0, then-one-eq0-via-else-one-eq0+then-two-eq0}

asked : (r : Row) (k : Kind) {b : Bool} → number k ≡ kind r → b ≡ branch_kind (number k) → b ≡ is_branch r
asked r k e f = f ∙ ap branch_kind e

ends : (net : Words) (i : ℕ) → is_network net ≡ true → i < length (net_in net).rows → is_branch (row_at (net_in net) i) ≡ true → BranchSound (step (net_in net)) (net_in net).nodes (row_at (net_in net) i)
ends net i e h b = ((net_sound net e).row i h).branch b

pub returns-then-is_line : goal.returns-then-is_line
returns-then-is_line c =
    let r = row_at (net_in c.args.net.words.now) c.args.i in
    idle_row c.args.area.now r (line_none r (sym c.kind-kind.ensures ∙ eqb-true (number c.kind-kind.result) 4 (sym c.is_line.ensures ∙ c.if-is_line.true)))

pub returns-then-not-is_branch : goal.returns-then-not-is_branch
returns-then-not-is_branch c =
    let r = row_at (net_in c.args.net.words.now) c.args.i in
    idle_row c.args.area.now r (source_none r (sym (asked r c.kind-kind.result c.kind-kind.ensures c.is_branch.ensures) ∙ c.if-not-is_branch.true))

pub number-one-requires : goal.number-one-requires
number-one-requires c =
    let r = row_at (net_in c.args.net.words.now) c.args.i in
    let e = ends c.args.net.words.now c.args.i c.args.net.passes c.requires.0 (sym (asked r c.kind-kind.result c.kind-kind.ensures c.is_branch.ensures) ∙ c.if-not-is_branch.false) in
    record { i_in_bounds = (c.requires.0, omega arith); j_value = e.from_in.is_nat }

pub number-two-requires : goal.number-two-requires
number-two-requires c =
    let r = row_at (net_in c.args.net.words.now) c.args.i in
    let e = ends c.args.net.words.now c.args.i c.args.net.passes c.requires.0 (sym (asked r c.kind-kind.result c.kind-kind.ensures c.is_branch.ensures) ∙ c.if-not-is_branch.false) in
    record { i_in_bounds = (c.requires.0, omega arith); j_value = e.to_in.is_nat }

pub returns-then-one-eq0 : goal.returns-then-one-eq0
returns-then-one-eq0 c =
    let r = row_at (net_in c.args.net.words.now) c.args.i in
    elim c.then-one-eq0.branch [
      | then-one-eq0-via-then-one-eq0 w ↦ idle_row c.args.area.now r (from_none r (sym c.number-one.ensures ∙ w.if-one-eq0.true))
      | then-one-eq0-via-else-one-eq0+then-two-eq0 w ↦ idle_row c.args.area.now r (to_none r (sym c.number-two.ensures ∙ w.if-two-eq0.true))
    ]

pub join-requires : goal.join-requires
join-requires c =
    let r = row_at (net_in c.args.net.words.now) c.args.i in
    let e = ends c.args.net.words.now c.args.i c.args.net.passes c.requires.0 (sym (asked r c.kind-kind.result c.kind-kind.ensures c.is_branch.ensures) ∙ c.if-not-is_branch.false) in
    let n = (net_sound c.args.net.words.now c.args.net.passes).node_most in
    (c.requires.1, (omega (arith, n, e.from_in.most, c.number-one.ensures), omega (arith, n, e.to_in.most, c.number-two.ensures)))

pub returns : goal.returns
returns c =
    let r = row_at (net_in c.args.net.words.now) c.args.i in
    let one = c.number-one.ensures in
    let two = c.number-two.ensures in
    let line : kind r ≡ 4 → ⊥ = λ q. true≢false (sym (eq-eqb (number c.kind-kind.result) 4 (c.kind-kind.ensures ∙ q)) ∙ sym c.is_line.ensures ∙ c.if-is_line.false) in
    let j = joins_both r (sym (asked r c.kind-kind.result c.kind-kind.ensures c.is_branch.ensures) ∙ c.if-not-is_branch.false) line (λ q. c.if-one-eq0.false (one ∙ q)) (λ q. c.if-two-eq0.false (two ∙ q)) in
    busy_row c.args.area.now c.join.new.area r c.join.result j (rw (one, two) at c.join.ensures)
