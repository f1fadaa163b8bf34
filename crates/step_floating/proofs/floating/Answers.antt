-- `step_floating::floating` meets its contract: the nodes before those left are reached, so the answer is the first of these that floats. Assumes
-- nothing.
use Rattle.std.specs.Prelude.{◌-◌, ◌≡◌}
use Rattle.whole.specs.Plain.{refl, ◌∙◌, length, arith}
use Rattle.paper.specs.Floating as Paper
use Rattle.step_legs.specs.Free.{first_done}
use Rattle.step_floating.specs.Answer.{state_start}
use Rattle.step_floating.specs.Visits.{leg_first, leg_there, visiting_next, visiting_less, visiting_anew, anew_less, floats_here, floats_on, part_first, part_there, part_more, some_named}
use Rattle.step_floating.proofs.floating.Goals as goal

pub nodes-init : goal.nodes-init
unfolding Paper.floating
nodes-init c =
    let n = length c.args.free.now in
    let e : n - n ≡ 0 = omega arith in
    let k = length c.args.legs.now in
    let z : k - k ≡ 0 = omega arith in
    rw c.start-search.ensures (record { left = rw z; at = rw z (state_start c.requires.0 c.args.free.now) }, (rw e, refl))

pub bounds-search-node : goal.bounds-search-node
bounds-search-node c =
    let p = c.nodes.invariant.1.0 in
    let q = c.in-Some.ensures.cases.0 in
    let e = part_first 0 c.args.free.now p q in
    let h = c.requires.1.node _ (part_there 0 c.args.free.now p q) in
    omega (arith, e, h)

pub visit_leg-requires : goal.visit_leg-requires
visit_leg-requires c =
    let v = c.branches.invariant in
    let w = c.requires.0 in
    let e = c.in-Some-split_first.ensures.cases.0 in
    (rw (leg_first v w e) (w.wired _ (leg_there v w e)), v.at.room)

pub branches-smaller-in-Some-split_first : goal.branches-smaller-in-Some-split_first
branches-smaller-in-Some-split_first c = rw c.visit_leg.ensures (visiting_less c.branches.invariant c.requires.0 c.in-Some-split_first.ensures.cases.0)

pub branches-preserved-in-Some-split_first : goal.branches-preserved-in-Some-split_first
branches-preserved-in-Some-split_first c = rw c.visit_leg.ensures (visiting_next c.branches.invariant c.requires.0 c.in-Some-split_first.ensures.cases.0)

pub branches-smaller : goal.branches-smaller
branches-smaller c = anew_less c.branches.invariant c.in_default-split_first.ensures.cases c.if-search-eq0.false

pub branches-preserved : goal.branches-preserved
branches-preserved c = visiting_anew c.branches.invariant c.in_default-split_first.ensures.cases c.if-search-eq0.false

pub nodes-preserved : goal.nodes-preserved
nodes-preserved c =
    let p = c.nodes.invariant.1.0 in
    let q = c.in-Some.ensures.cases.0 in
    (c.branches.invariant, (part_more 0 c.args.free.now p q, floats_on c.branches.invariant c.requires.1 p q c.nodes.invariant.1.1 c.branches-test.false))

pub returns-in_default : goal.returns-in_default
returns-in_default c = rw (c.nodes.invariant.1.1 ∙ first_done _ c.nodes.nodes.now 0 (omega (arith, c.in_default.ensures.cases)))

pub returns-then-search-eq0 : goal.returns-then-search-eq0
returns-then-search-eq0 c =
    let p = c.nodes.invariant.1.0 in
    let q = c.in-Some.ensures.cases.0 in
    let e = floats_here c.branches.invariant c.in_default-split_first.ensures.cases c.requires.1 p q c.nodes.invariant.1.1 c.branches-test.true c.if-search-eq0.true in
    let f = part_first 0 c.args.free.now p q in
    let h = c.requires.1.above _ (part_there 0 c.args.free.now p q) in
    rw e (some_named _ (λ z. omega (arith, f, h, z)))
