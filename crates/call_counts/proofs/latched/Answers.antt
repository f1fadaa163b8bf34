-- `call_counts::latched` meets its contract. Assumes nothing.
use Rattle.whole.specs.Plain.{eq-eqb, ne_eqb, word}
use Rattle.whole.specs.Int.{read64}
use Rattle.paper.specs.Records.{latch_at}
use Rattle.call_counts.specs.Counts.{latched_by}
use Rattle.call_counts.proofs.latched.Goals as goal

pub returns-then-r-ne-SW : goal.returns-then-r-ne-SW
unfolding latched_by
returns-then-r-ne-SW c = rw (ne_eqb c.args.r.kind 5 c.if-r-ne-SW.true)

pub count_of-count-requires : goal.count_of-count-requires
count_of-count-requires c = c.requires.0 c.if-r-ne-SW.false

pub latch_formed-requires : goal.latch_formed-requires
latch_formed-requires c = rw c.count_of-count.ensures (c.requires.0 c.if-r-ne-SW.false).most

pub returns : goal.returns
unfolding latched_by
returns c = rw (eq-eqb c.args.r.kind 5 c.if-r-ne-SW.false) (rw (read64 (word c.args.records.now (latch_at c.args.i)) c.latch_formed-arg-1.given, c.count_of-count.ensures) at c.latch_formed.ensures)
