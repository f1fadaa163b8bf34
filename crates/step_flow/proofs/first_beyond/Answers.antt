-- `step_flow::first_beyond` meets its contract. Assumes nothing.
use Rattle.std.specs.Prelude.{◌≡◌, ◌<◌, ◌^◌, is_some, Option, Some, None}
use Rattle.std.proofs.Common.{rules}
use Rattle.whole.specs.Plain.{refl, sym, ap, ◌∙◌, Bool, true, false, not, cond, mag, pos, neg_ℤ, between}
use mir.Syntax.{w64}
use mir.Val.{to_z, of_z}
use Rattle.whole.specs.Int.{read64}
use Rattle.whole.specs.Named.{placed}
use Rattle.num_quantity.specs.declared.History.{History}
use Rattle.paper.specs.Limits.{history_end}
use Rattle.step_legs.specs.declared.Wire.{Wire}
use Rattle.step_legs.specs.Wires.{wire_at}
use Rattle.step_flow.specs.Beyond.{history_is, passed_beyond, row_hit, row_pass, row_none}
use Rattle.step_flow.proofs.first_beyond.Goals as goal

-- the test, of the leg that the table has
beyond : (w : Wire) → mag w.passed < 2 ^ 63 → {r : Option History} → r ≡ cond (between (neg_ℤ (pos history_end)) (pos history_end) (to_z w64 (of_z w64 w.passed))) (Some (record { value = to_z w64 (of_z w64 w.passed) })) None
    → {b : Bool} → is_some r ≡ not b → passed_beyond w ≡ b
unfolding passed_beyond
beyond w f e {b} g = ap not (sym (history_is w.passed) ∙ sym (ap is_some (simp (read64 w.passed f) at e)) ∙ g) ∙ twice b
  where
    twice : (b : Bool) → not (not b) ≡ b
    twice true = refl
    twice false = refl

pub returns-then-is_none : goal.returns-then-is_none
returns-then-is_none c =
    let legs = c.args.legs.now in
    let j = c.loop-l.l-index in
    let t = beyond (wire_at legs j) (search rules) c.new.ensures c.is_none.ensures ∙ c.if-is_none.true in
    sym (ap placed (sym c.loop-l.invariant ∙ row_hit legs j c.loop-l-test.true t))

pub loop-l-preserved : goal.loop-l-preserved
loop-l-preserved c =
    let legs = c.args.legs.now in
    let j = c.loop-l.l-index in
    let t = beyond (wire_at legs j) (search rules) c.new.ensures c.is_none.ensures ∙ c.if-is_none.false in
    row_pass legs j c.loop-l-test.true t ∙ c.loop-l.invariant

pub returns : goal.returns
returns c = sym (ap placed (sym c.loop-l.invariant ∙ row_none c.args.legs.now c.loop-l.l-index c.loop-l-test.false))
