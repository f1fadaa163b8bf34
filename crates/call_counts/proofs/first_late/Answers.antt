-- `call_counts::first_late` meets its contract. The invariant: of every network that the plan is of, the rows that are left lead to the answer.
-- Assumes nothing.
use Rattle.std.specs.Prelude.{◌<◌}
use Rattle.whole.specs.Plain.{sym, ap, ◌∙◌, length, arith}
use Rattle.whole.specs.Named.{placed}
use Rattle.call_counts.specs.Lines.{waits_is, late_hit, late_pass, late_none}
use Rattle.call_counts.proofs.first_late.Goals as goal

pub waits_for-requires : goal.waits_for-requires
waits_for-requires c = c.requires.line c.loop-i.i (omega arith)

pub returns-then-waits_for : goal.returns-then-waits_for
returns-then-waits_for c = λ N o.
    let h : c.loop-i.i < length N.rows = omega (arith, o.count) in
    ap placed (sym (late_hit N _ _ _ c.loop-i.i h (sym (waits_is o.planned c.loop-i.i h _ _ _) ∙ sym c.waits_for.ensures ∙ c.if-waits_for.true)) ∙ c.loop-i.invariant N o)

pub loop-i-preserved : goal.loop-i-preserved
loop-i-preserved c = λ N o.
    let h : c.loop-i.i < length N.rows = omega (arith, o.count) in
    late_pass N _ _ _ c.loop-i.i h (sym (waits_is o.planned c.loop-i.i h _ _ _) ∙ sym c.waits_for.ensures ∙ c.if-waits_for.false) ∙ c.loop-i.invariant N o

pub returns : goal.returns
returns c = λ N o. ap placed (sym (late_none N _ _ _ c.loop-i.i (omega (arith, o.count))) ∙ c.loop-i.invariant N o)
