-- `plan_areas::spread` meets its contract: the rounds that are left lead to all of them. Assumes nothing.
use Rattle.whole.specs.Plain.{refl, true, false, ◌∙◌, arith}
use Rattle.whole.specs.Turns.{turns_end}
use Rattle.laws_facts.specs.Nets.{net_in}
use Rattle.plan_areas.specs.Marks.{round_of, round_next, length_round}
use Rattle.plan_areas.proofs.spread.Goals as goal

pub loop-turn-init : goal.loop-turn-init
loop-turn-init c = (c.requires, refl)

pub round-requires : goal.round-requires
round-requires c = c.loop-turn.invariant.0

pub loop-turn-preserved : goal.loop-turn-preserved
loop-turn-preserved c =
    let rows = (net_in c.args.net.words.now).rows in (
      length_round rows c.loop-turn.area c.round.new.area c.round.result c.round.ensures ∙ c.loop-turn.invariant.0,
      round_next rows c.loop-turn._turn 32 c.loop-turn.area c.round.new.area _ true (omega arith) c.if-not-round.ensures c.loop-turn.invariant.1,
    )

pub returns-then-not-round : goal.returns-then-not-round
returns-then-not-round c =
    let rows = (net_in c.args.net.words.now).rows in
    turns_end 32 32 (round_of rows) c.round.new.area _ (omega arith) (round_next rows c.loop-turn._turn 32 c.loop-turn.area c.round.new.area _ false (omega arith) c.if-not-round.ensures c.loop-turn.invariant.1)

pub returns : goal.returns
returns c =
    turns_end c.loop-turn._turn 32 (round_of (net_in c.args.net.words.now).rows) c.loop-turn.area _ (omega arith) c.loop-turn.invariant.1
