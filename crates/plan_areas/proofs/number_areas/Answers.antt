-- `plan_areas::number_areas` meets its contract: the nodes passed have their areas' numbers. Assumes nothing.
use Rattle.std.specs.Prelude.{◌+◌, ◌-◌, ◌≡◌}
use Rattle.whole.specs.Plain.{arith}
use Rattle.laws_facts.specs.Nets.{net_in}
use Rattle.laws_facts.proofs.Nets.{net_sound}
use Rattle.plan_areas.specs.Numbered.{Numbering, low_in, first_in, next_in, mark_in, count_in, areas_in}
use Rattle.plan_areas.proofs.number_areas.Goals as goal
use Rattle.plan_areas.proofs.number_areas.Goals.{After-number_node-count}

pub loop-n-init : goal.loop-n-init
loop-n-init c = (omega arith, rw c.requires.1 (first_in c.args.net.words.now c.args.net.passes))

pub number_node-count-requires : goal.number_node-count-requires
number_node-count-requires c =
    let net = c.args.net.words.now in
    let w = c.loop-n.invariant.1 in
    let most = (net_sound net c.args.net.passes).node_most in
    let e : c.loop-n.n - 1 + 1 ≡ c.loop-n.n = omega arith in (
      omega (arith, most, c.requires.0),
      (
        omega (arith, most, c.requires.0, rw e at (mark_in net c.args.net.passes c.loop-n.area (c.loop-n.n - 1) c.loop-n.count (omega (arith, c.requires.0)) w)),
        omega (arith, most, c.requires.0, count_in net c.args.net.passes c.loop-n.area (c.loop-n.n - 1) c.loop-n.count w),
      ),
    )

-- after node n's turn
turned : (c : After-number_node-count) → Numbering (low_in c.args.net.words.now) c.number_node-count.new.area c.loop-n.n c.number_node-count.result
turned c =
    let e : c.loop-n.n - 1 + 1 ≡ c.loop-n.n = omega arith in
    let w = next_in c.args.net.words.now c.args.net.passes c.loop-n.area (c.loop-n.n - 1) c.loop-n.count (omega (arith, c.requires.0)) c.loop-n.invariant.1 in
    rw (c.number_node-count.ensures.0, c.number_node-count.ensures.1) (rw e at w)

pub loop-n-preserved : goal.loop-n-preserved
loop-n-preserved c =
    let e : c.loop-n.n + 1 - 1 ≡ c.loop-n.n = omega arith in
    (omega arith, rw e (turned c.before))

pub returns : goal.returns
returns c =
    let e : c.loop-n.n - 1 ≡ (net_in c.args.net.words.now).nodes = omega (arith, c.requires.0) in
    areas_in c.args.net.words.now c.args.net.passes c.loop-n.area c.loop-n.count (rw e at c.loop-n.invariant.1)

pub returns-2 : goal.returns-2
returns-2 c =
    let e : c.loop-n.n ≡ (net_in c.args.net.words.now).nodes = omega (arith, c.requires.0) in
    areas_in c.args.net.words.now c.args.net.passes _ _ (rw e at (turned c.before))
