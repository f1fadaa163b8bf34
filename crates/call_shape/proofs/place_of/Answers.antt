-- `call_shape::place_of` meets its contract: the rows that are left lead to the answer. Assumes nothing.
use Rattle.std.specs.Prelude.{◌-◌, ◌≡◌}
use Rattle.whole.specs.Plain.{sym, ap, ◌∙◌, arith}
use Rattle.whole.specs.Named.{placed}
use Rattle.call_shape.specs.Asked.{place_from, place_hit, place_pass}
use Rattle.call_shape.proofs.place_of.Invariants.{number_in}
use Rattle.call_shape.proofs.place_of.Goals as goal

pub loop-i-init : goal.loop-i-init
loop-i-init c = let e : c.args.rows - 0 ≡ c.args.rows = omega arith in ap (place_from (number_in c.args.plan.now) c.args.branch 0) e

pub loop-i-preserved : goal.loop-i-preserved
loop-i-preserved c = place_pass (number_in c.args.plan.now) c.args.branch c.loop-i.i c.args.rows (omega arith) c.if-plan-i.false ∙ c.loop-i.invariant

pub returns : goal.returns
unfolding place_from
returns c = let e : c.args.rows - c.loop-i.i ≡ 0 = omega arith in ap placed (rw e at c.loop-i.invariant)

pub returns-then-plan-i : goal.returns-then-plan-i
returns-then-plan-i c =
    ap placed (sym (place_hit (number_in c.args.plan.now) c.args.branch c.loop-i.i c.args.rows (omega arith) c.if-plan-i.true) ∙ c.loop-i.invariant)
