-- `call_counts::steps_taken` meets its contract: area 1 tells. Assumes nothing.
use Rattle.whole.specs.Plain.{arith}
use Rattle.call_counts.specs.Level.{taken_none, taken_first}
use Rattle.call_counts.proofs.steps_taken.Goals as goal

pub returns-then-areas-lt1 : goal.returns-then-areas-lt1
returns-then-areas-lt1 c = taken_none c.args.records.now c.args.areas c.args.steps c.if-areas-lt1.true

pub returns : goal.returns
returns c = taken_first c.args.records.now c.args.areas c.args.steps c.count_of.result c.if-areas-lt1.false c.count_of.ensures

pub count_of-requires : goal.count_of-requires
count_of-requires c = c.requires.at 1 (omega arith) c.if-areas-lt1.false
