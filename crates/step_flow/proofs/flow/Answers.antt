-- `step_flow::flow` meets its contract: the first legs with what is found, and the sums of what they carry. Assumes nothing.
use Rattle.std.proofs.Common.{add-one}
use Rattle.std.specs.Prelude.{◌+◌, ◌<◌, ◌≡◌, ◌+ℤ◌}
use Rattle.whole.specs.Plain.{ℕ, refl, ap, ◌∙◌, List, set, take, length, take_all, arith, Words, word}
use mir.Syntax.{w64}
use mir.Val.{SFits, to_z, of_z}
use mir.Facts.{to_z-of_z}
use Rattle.whole.specs.Size.{fits}
use Rattle.paper.specs.Legs.{current}
use Rattle.step_legs.specs.declared.Wire.{Wire}
use Rattle.step_legs.specs.Wires.{wire_at, leg_at, legs_in, Sized, carries}
use Rattle.step_legs.specs.Leaving.{legs_length}
use Rattle.step_legs.specs.Shares.{Volts, current_size, current_sum}
use Rattle.step_legs.specs.Sums.{Sums, none, sums_start, sums_more, sum_room}
use Rattle.step_legs.specs.Written.{written_to, to_here, to_next, to_all}
use Rattle.step_flow.specs.Flown.{flown}
use Rattle.step_flow.proofs.flow.Goals as goal

-- the leg is what it was at entry
here : (legs : List Wire) (v : Words) (j : ℕ) {now : List Wire} → now ≡ written_to (flown v) j legs → wire_at now j ≡ wire_at legs j
here legs v j i = ap (λ (m : List Wire). wire_at m j) i ∙ to_here (flown v) j legs

-- a turn, with the leg as it leaves it
module _ {legs now : List Wire} {v sums : Words} {j : ℕ} (s : Sized legs) (u : Volts v) (l : j < length legs) (i : now ≡ written_to (flown v) j legs)
    (a : Sums none (current v) (take j (legs_in legs)) sums) {w : Wire} (e : w ≡ flown v (wire_at now j)) where
  abbrev near : ℕ
  near = (wire_at legs j).near

  found : w ≡ flown v (wire_at legs j)
  found = e ∙ ap (flown v) (here legs v j i)

  near_is : w.near ≡ near
  unfolding flown
  near_is = ap (λ (x : Wire). x.near) found

  current_is : w.current ≡ current v (leg_at legs j)
  unfolding flown
  current_is = ap (λ (x : Wire). x.current) found

  near_end : w.near < 33
  near_end = omega (arith, near_is, (s.wires.wired j l).near_end)

  -- the sum at the leg's node
  room : (near < 33) × SFits w64 (word sums near) × SFits w64 (word sums near +ℤ current v (leg_at legs j))
  room = sum_room (current v) legs j l a (s.wires.wired j l).near_end (λ k h. fits (current_sum s near k h u) tt)

  share : SFits w64 (current v (leg_at legs j))
  share = fits (current_size (carries s j l) u) tt

  fit : SFits w64 (to_z w64 (of_z w64 (word sums w.near)) +ℤ to_z w64 (of_z w64 w.current))
  fit = rw (near_is, current_is) (simp (to_z-of_z, room.1, share) room.2)

  next : (set now j w ≡ written_to (flown v) (j + 1) legs)
      × Sums none (current v) (take (j + 1) (legs_in legs)) (set sums w.near (to_z w64 (of_z w64 (to_z w64 (of_z w64 (word sums w.near)) +ℤ to_z w64 (of_z w64 w.current)))))
  next = (
    rw (found, i, add-one j) (to_next (flown v) j legs l),
    rw (near_is, current_is) (simp (to_z-of_z, room.1, share, room.2) (sums_more (current v) legs j l a (s.wires.wired j l).near_end)),
  )

pub loop-leg-init : goal.loop-leg-init
unfolding written_to
loop-leg-init c = record { found = refl; sums = sums_start (current c.args.v.now) c.args.legs.now refl }

pub carried-requires : goal.carried-requires
carried-requires c =
    let legs = c.args.legs.now in
    let j = c.loop-leg.leg-index in
    let l : j < length legs = omega arith in
    rw (here legs c.args.v.now j c.loop-leg.invariant.found) (carries c.requires.0 j l, c.requires.1)

pub bounds-leaving-leg : goal.bounds-leaving-leg
bounds-leaving-leg c = let i = c.loop-leg.invariant in near_end c.requires.0 c.requires.1 (omega arith) i.found i.sums c.carried.ensures

pub bounds-leaving-leg-in-loop-leg : goal.bounds-leaving-leg-in-loop-leg
bounds-leaving-leg-in-loop-leg c = let i = c.loop-leg.invariant in near_end c.requires.0 c.requires.1 (omega arith) i.found i.sums c.carried.ensures

pub offset_bounds-leaving-leg : goal.offset_bounds-leaving-leg
offset_bounds-leaving-leg c =
    let i = c.loop-leg.invariant in
    omega (arith, near_end c.requires.0 c.requires.1 (omega arith) i.found i.sums c.carried.ensures)

pub overflow_add-leaving : goal.overflow_add-leaving
overflow_add-leaving c = let i = c.loop-leg.invariant in fit c.requires.0 c.requires.1 (omega arith) i.found i.sums c.carried.ensures

pub loop-leg-preserved : goal.loop-leg-preserved
loop-leg-preserved c =
    let i = c.loop-leg.invariant in
    let n = next c.requires.0 c.requires.1 (omega arith) i.found i.sums c.carried.ensures in
    record { found = n.0; sums = n.1 }

pub returns-clause-sums : goal.returns-clause-sums
returns-clause-sums c =
    let legs = c.args.legs.now in
    let e : c.loop-leg.leg-index ≡ length legs = omega arith in
    rw (e, take_all (length legs) (legs_in legs) (omega (arith, legs_length legs))) at c.loop-leg.invariant.sums

pub returns-clause-legs_value : goal.returns-clause-legs_value
returns-clause-legs_value c =
    let legs = c.args.legs.now in
    let e : c.loop-leg.leg-index ≡ length legs = omega arith in
    c.loop-leg.invariant.found ∙ rw e (to_all (flown c.args.v.now) legs)
