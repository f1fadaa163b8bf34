-- `step_solve::draws` meets its contract: the sums over the first legs. Assumes nothing.
use Rattle.std.specs.Prelude.{◌<◌, ◌≡◌, ◌+ℤ◌}
use Rattle.whole.specs.Plain.{ℕ, refl, List, length, take, take-length, arith, Words}
use Rattle.whole.specs.Plain.{word}
use mir.Facts.{to_z-of_z}
use mir.Syntax.{w64}
use mir.Val.{SFits}
use Rattle.whole.specs.Size.{fits}
use Rattle.step_legs.specs.declared.Wire.{Wire}
use Rattle.step_legs.specs.Wires.{wire_at, leg_at, legs_in, Sized, carries}
use Rattle.step_legs.specs.Leaving.{legs_length}
use Rattle.step_legs.specs.Shares.{Volts, drawn, drawn_size, drawn_sum}
use Rattle.step_legs.specs.Sums.{Sums, none, sums_start, sums_more, sum_room}
use Rattle.step_solve.proofs.draws.Goals as goal

-- the sum at the leg's node before it and after it
module _ {legs : List Wire} {v w : Words} (s : Sized legs) (u : Volts v) (j : ℕ) (l : j < length legs) (a : Sums none (drawn v) (take j (legs_in legs)) w) where
  abbrev near : ℕ
  near = (wire_at legs j).near

  leg-fits : SFits w64 (drawn v (leg_at legs j))
  leg-fits = fits (drawn_size (carries s j l) u) tt

  room : (near < 33) × SFits w64 (word w near) × SFits w64 (word w near +ℤ drawn v (leg_at legs j))
  room = sum_room (drawn v) legs j l a (s.wires.wired j l).near_end (λ i h. fits (drawn_sum s near i h u) tt)

pub loop-leg-init : goal.loop-leg-init
loop-leg-init c = sums_start (drawn c.args.still.now) c.args.legs.now refl

pub drawn-requires : goal.drawn-requires
drawn-requires c = (carries c.requires.0 c.loop-leg.leg-index c.loop-leg-test.true, c.requires.1)

pub overflow_add-sums : goal.overflow_add-sums
overflow_add-sums c =
    let p = c.requires in
    let j = c.loop-leg.leg-index in
    let l = c.loop-leg-test.true in
    let r = room p.0 p.1 j l c.loop-leg.invariant in
    rw c.drawn.ensures (simp (to_z-of_z, r.1, leg-fits p.0 p.1 j l c.loop-leg.invariant) r.2)

pub loop-leg-preserved : goal.loop-leg-preserved
loop-leg-preserved c =
    let p = c.requires in
    let j = c.loop-leg.leg-index in
    let l = c.loop-leg-test.true in
    let i = c.loop-leg.invariant in
    let r = room p.0 p.1 j l i in
    rw c.drawn.ensures (simp (to_z-of_z, r.1, leg-fits p.0 p.1 j l i, r.2) (sums_more (drawn c.args.still.now) c.args.legs.now j l i (p.0.wires.wired j l).near_end))

pub returns : goal.returns
returns c =
    let legs = c.args.legs.now in
    let e : c.loop-leg.leg-index ≡ length (legs_in legs) = omega (arith, legs_length legs) in
    rw (e, take-length (legs_in legs)) at c.loop-leg.invariant
