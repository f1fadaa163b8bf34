-- `list_round::all_areas` meets its contract: of every network that the tables are of, area by area. Assumes nothing.
use Rattle.whole.specs.Plain.{arith}
use Rattle.list_round.specs.Passed.{passed_none, all_passed, tabled, stepping, passed_on, refused}
use Rattle.list_round.proofs.all_areas.Goals as goal

pub loop-area-init : goal.loop-area-init
loop-area-init c = (omega arith, omega arith, λ net s. passed_none s)

pub turn_of-turn-requires : goal.turn_of-turn-requires
turn_of-turn-requires c = let s = c.requires.starts in omega (arith, s.left, s.tables.sound.study.steps_in.most)

pub ready-answer-requires : goal.ready-answer-requires
ready-answer-requires c =
    let l = c.loop-area in
    let s = c.requires.starts in
    let p = l.invariant.2 _ s in
    let h = c.loop-area-test.true in
    let q = c.turn_of-turn.ensures in
    record { net = _; low = 1; high = _; tables = tabled s p l.invariant.0 h q; stepping = stepping s p l.invariant.0 h q }

pub returns-in-Err : goal.returns-in-Err
returns-in-Err c =
    let l = c.loop-area in
    record { of = λ net s. refused s (l.invariant.2 net s) l.invariant.0 c.loop-area-test.true c.turn_of-turn.ensures c.ready-answer.ensures c.in-Err.is }

pub loop-area-preserved : goal.loop-area-preserved
loop-area-preserved c =
    let l = c.loop-area in (
      omega arith,
      omega (arith, c.loop-area-test.true),
      λ net s. passed_on s (l.invariant.2 net s) l.invariant.0 c.loop-area-test.true c.turn_of-turn.ensures c.ready-answer.ensures c.in_default.is,
    )

pub returns : goal.returns
returns c = record { of = λ net s. all_passed s (c.loop-area.invariant.2 net s) (omega (arith, c.loop-area-test.false)) }

pub returns-in_default : goal.returns-in_default
returns-in_default c =
    let l = c.loop-area in
    record {
      of = λ net s.
          all_passed s (passed_on s (l.invariant.2 net s) l.invariant.0 c.loop-area-test.true c.turn_of-turn.ensures c.ready-answer.ensures c.in_default.is) (omega arith);
    }
