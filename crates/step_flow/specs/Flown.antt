-- What a step finds of one leg, its current and what it passes on to a later step, and keeps in the leg; all else of it is what it was. Assumes
-- nothing.
use Rattle.std.specs.Prelude.{◌<◌, ◌^◌, ◌≡◌, ◌||◌}
use Rattle.whole.specs.Plain.{ℕ, refl, cond, List, map, eqb, ℤ, neg_ℤ, nat_abs, length, length-map, arith, Words, z}
use Rattle.whole.specs.Folds.{get_d_map}
use Rattle.paper.specs.Legs.{current, echo}
use Rattle.step_legs.specs.declared.Wire.{Wire}
use Rattle.step_legs.specs.Wires.{leg_of, no_wire, wire_at, Wires, Sized}
use Rattle.step_legs.specs.Written.{SameBut, wires_same, written_to, stays, to_all, to_length, to_same}

-- what a leg of a kind passes on, of i + g·u
unfoldable pub passed_by : ℕ → ℤ → ℤ
passed_by k e = cond (eqb k 2) e (cond (eqb k 3 || eqb k 4) (neg_ℤ e) z)

-- the magnitude of i + g·u
abbrev pub Small : ℤ → Type 0
Small e = nat_abs e < 2 ^ 62

-- a leg with what is found of it
unfoldable pub flown : Words → Wire → Wire
flown v w = record w { current = current v (leg_of w); passed = passed_by w.kind (echo v (leg_of w)) }

module _ (v : Words) (legs : List Wire) where
  to_flown : (j : ℕ) → SameBut legs (written_to (flown v) j legs)
  unfolding flown
  to_flown j = to_same (flown v) (λ w. refl) j legs

  pub flown_same : {after : List Wire} → after ≡ map (flown v) legs → SameBut legs after
  flown_same e = rw (e, ← to_all (flown v) legs) (to_flown (length legs))

  -- before leg j
  pub to_sized : (j : ℕ) → Sized legs → Sized (written_to (flown v) j legs)
  unfolding flown
  to_sized j s = record {
    wires = wires_same (to_flown j) s.wires;
    h_end = λ i h. rw (stays (flown v) (λ w. w.h) (λ w. refl) j legs i) (s.h_end i (omega (arith, to_length (flown v) j legs)));
  }

  pub flown_count : length (map (flown v) legs) ≡ length legs
  flown_count = length-map legs (flown v)

  pub flown_at : (j : ℕ) → j < length legs → wire_at (map (flown v) legs) j ≡ flown v (wire_at legs j)
  flown_at j h = get_d_map (flown v) legs j no_wire no_wire h

  pub wires_stay : Wires legs → Wires (map (flown v) legs)
  wires_stay s = wires_same (flown_same refl) s
