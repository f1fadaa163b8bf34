-- `step_histories::hear` meets its contract: the first legs have their histories. Assumes nothing.
use Rattle.std.specs.Prelude.{◌+◌, ◌<◌, ◌≡◌}
use Rattle.whole.specs.Plain.{ℕ, refl, ap, ◌∙◌, List, set, length, arith}
use Rattle.std.proofs.Common.{add-one}
use Rattle.whole.specs.Int.{read64}
use Rattle.step_legs.specs.declared.Wire.{Wire}
use Rattle.step_legs.specs.Wires.{wire_at}
use Rattle.step_legs.specs.Written.{written_to, to_here, to_next, to_all}
use Rattle.step_histories.specs.Heard.{heard_leg}
use Rattle.step_histories.proofs.hear.Goals as goal

-- leg j is still to be heard
here : (f : Wire → Wire) (legs m : List Wire) (j : ℕ) → m ≡ written_to f j legs → wire_at m j ≡ wire_at legs j
here f legs m j e = ap (λ (m : List Wire). wire_at m j) e ∙ to_here f j legs

-- a turn
turn : (f : Wire → Wire) (legs : List Wire) {now : List Wire} (j : ℕ) → now ≡ written_to f j legs → j < length legs → set now j (f (wire_at now j)) ≡ written_to f (j + 1) legs
turn f legs {now} j i l = rw (here f legs now j i, i, add-one j) (to_next f j legs l)

pub loop-leg-init : goal.loop-leg-init
unfolding written_to
loop-leg-init c = refl

pub history-leg-requires : goal.history-leg-requires
history-leg-requires c =
    let a = c.args in
    let j = c.loop-leg.leg-index in
    let l : j < length a.legs.now = omega arith in
    rw (here (heard_leg a.plan.now a.records.now a.froms.now a.tos.now a.k) a.legs.now c.loop-leg.legs j c.loop-leg.invariant)
    (record { wired = (c.requires.wires.wired j l, c.requires.kept); ring = c.requires.ring j l })

pub loop-leg-preserved : goal.loop-leg-preserved
unfolding heard_leg
loop-leg-preserved c =
    let a = c.args in
    rw (read64 c.history-leg.result c.history-leg.type_inv, c.history-leg.ensures)
    (turn (heard_leg a.plan.now a.records.now a.froms.now a.tos.now a.k) a.legs.now c.loop-leg.leg-index c.loop-leg.invariant (omega arith))

pub returns : goal.returns
returns c =
    let a = c.args in
    let f = heard_leg a.plan.now a.records.now a.froms.now a.tos.now a.k in
    let e : c.loop-leg.leg-index ≡ length a.legs.now = omega arith in
    c.loop-leg.invariant ∙ rw e (to_all f a.legs.now)
