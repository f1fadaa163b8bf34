-- `plan_lay::lay_source` meets its contract. Assumes nothing.
use Rattle.std.specs.Prelude.{◌≤◌, ◌<◌, ◌≡◌}
use Rattle.whole.specs.Plain.{sym, ap, ◌∙◌, true, length, get_or, eq-eqb, ne_eqb, arith}
use Rattle.whole.specs.Int.{read64}
use Rattle.whole.specs.Truths.{and-false}
use Rattle.paper.specs.Rows.{is_source, at, source_kind}
use Rattle.paper.specs.Areas.{area_of}
use Rattle.laws_facts.specs.Sound.{SourceSound}
use Rattle.laws_facts.specs.Nets.{net_in, row_at}
use Rattle.laws_facts.proofs.Nets.{net_sound}
use Rattle.plan_ends.specs.Kinds.{kind_is}
use Rattle.plan_ends.specs.Own.{own_source}
use Rattle.plan_lay.specs.Grown.{put_yes, put_no}
use Rattle.plan_lay.specs.Sources.{source_by, source_line_lem}
use Rattle.plan_lay.proofs.lay_source.Goals as goal
use Rattle.plan_lay.proofs.lay_source.Goals.{Else-not-is_source, After-number-node, After-pace}

source : (c : Else-not-is_source) → is_source (row_at (net_in c.args.net.words.now) c.args.i) ≡ true
source c = sym (c.is_source.ensures ∙ ap source_kind c.kind-kind.ensures) ∙ c.if-not-is_source.false

sound : (c : Else-not-is_source) → let N = net_in c.args.net.words.now in SourceSound N.nodes (row_at N c.args.i)
sound c = ((net_sound c.args.net.words.now c.args.net.passes).row c.args.i c.requires.i_in_bounds).source (source c)

node : (c : After-number-node) → c.number-node.result ≤ 32
node c = omega (arith, c.number-node.ensures, (sound c.before).at_in.most, (net_sound c.args.net.words.now c.args.net.passes).node_most)

owner : (c : After-number-node) → let N = net_in c.args.net.words.now in get_or c.args.area.now c.number-node.result 0 ≡ area_of N (at (row_at N c.args.i))
owner c = c.requires.mapped.0.area_at c.number-node.result (node c) ∙ ap (area_of (net_in c.args.net.words.now)) c.number-node.ensures

own : (c : After-pace) → source_by (net_in c.args.net.words.now) c.args.a c.args.i ≡ true
unfolding own_source
own c = rw (source c.before.before.before.before.before.before.before.before, eq-eqb _ c.args.a (sym (owner c.before.before.before.before.before.before.before) ∙ c.if-area-node.false))

room : (c : After-pace) → c.args.m < length c.args.sources.now
room c = c.requires.mapped.1 (own c)

pub number-node-requires : goal.number-node-requires
number-node-requires c = record { i_in_bounds = (c.requires.i_in_bounds, omega arith); j_value = (sound c).at_in.is_nat }

pub pace-requires : goal.pace-requires
pace-requires c = record { i_in_bounds = c.requires.i_in_bounds; i_value = source c.before.before.before.before.before.before.before }

pub returns-then-not-is_source : goal.returns-then-not-is_source
unfolding own_source
returns-then-not-is_source c = put_no (rw (sym (c.is_source.ensures ∙ ap source_kind c.kind-kind.ensures) ∙ c.if-not-is_source.true))

pub offset_bounds-area-node : goal.offset_bounds-area-node
offset_bounds-area-node c = omega (arith, node c)

pub bounds-area-node : goal.bounds-area-node
bounds-area-node c = omega (arith, node c.before.before)

pub returns-then-area-node : goal.returns-then-area-node
unfolding own_source
returns-then-area-node c =
    let N = net_in c.args.net.words.now in
    put_no (rw (ne_eqb (area_of N (at (row_at N c.args.i))) c.args.a (λ e. c.if-area-node.true (owner c.before.before.before.before ∙ e)), and-false))

pub returns : goal.returns
returns c =
    let N = net_in c.args.net.words.now in
    let line = source_line_lem N (row_at N c.args.i) ((net_sound c.args.net.words.now c.args.net.passes).row c.args.i c.requires.i_in_bounds) (source c.before.before.before.before.before.before.before.before) in
    rw (kind_is c.kind-kind.ensures, c.number-node.ensures, read64 _ c.value.type_inv ∙ c.value.ensures, read64 _ c.value-2.type_inv ∙ c.value-2.ensures, read64 _ c.pace.type_inv ∙ c.pace.ensures, line)
    (put_yes (own c))

pub offset_bounds-sources-m : goal.offset_bounds-sources-m
offset_bounds-sources-m c = omega (arith, room c)

pub bounds-sources-m : goal.bounds-sources-m
bounds-sources-m c = room c

pub overflow_add-result : goal.overflow_add-result
overflow_add-result c = omega (arith, room c)
