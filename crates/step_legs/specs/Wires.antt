-- The legs of a step: a wire for each end of the area's own. Assumes nothing.
use Rattle.std.specs.Prelude.{◌≤◌, ◌<◌}
use Rattle.whole.specs.Plain.{ℕ, List, map, T, non_neg, get_or, length, nat, count, z}
use Rattle.whole.specs.Size.{∣◌∣≤◌}
use Rattle.paper.specs.Limits as Limits
use Rattle.paper.specs.Legs.{Leg, leg}
use Rattle.paper.specs.Solve.{leaves}
use Rattle.step_legs.specs.declared.Wire.{Wire}

abbrev pub leg_of : Wire → Leg
leg_of w = leg w.near w.far (nat w.g) w.h

-- what stands where no leg does
abbrev pub no_wire : Wire
no_wire = record { near = 0; far = 0; row = 0; end = 0; kind = 0; g = z; h = z; current = z; passed = z }

-- what of a wire the network and the switches settle; and what is known of it before the step finds what it carries
abbrev pub settled : Wire → Wire
settled w = record w { h = z; current = z; passed = z }

abbrev pub unfound : Wire → Wire
unfound w = record w { current = z; passed = z }

-- leg j, and all of them
abbrev pub wire_at : List Wire → ℕ → Wire
wire_at legs j = get_or legs j no_wire

abbrev pub leg_at : List Wire → ℕ → Leg
leg_at legs j = leg_of (wire_at legs j)

unfoldable pub wires_in : List Wire → List Wire
wires_in legs = map unfound legs

unfoldable pub legs_in : List Wire → List Leg
legs_in legs = map leg_of legs

-- a leg within its ends, whatever its history
pub record Wired (w : Wire) : Type 0 where
  pub near_end : w.near ≤ Limits.node_end
  pub far_end : w.far ≤ Limits.node_end
  pub row_below : w.row < Limits.row_end
  pub end_end : w.end ≤ 2
  pub kind_end : w.kind ≤ 9
  pub g_sign : T (non_neg w.g)
  pub g_end : ∣ w.g ∣≤ 1000000000

pub record Carries (w : Wire) : Type 0 where
  pub wired : Wired w
  pub h_end : ∣ w.h ∣≤ 100000000000000000

-- What makes every sum over the legs at one node fit a word: "With these ends a sum over 64 branches stays inside 64 signed bits."
pub record Wires (legs : List Wire) : Type 0 where
  pub wired : (j : ℕ) → j < length legs → Wired (wire_at legs j)
  pub few : (p : ℕ) → count (leaves p) (legs_in legs) ≤ Limits.branch_end

pub record Sized (legs : List Wire) : Type 0 where
  pub wires : Wires legs
  pub h_end : (j : ℕ) → j < length legs → ∣ (wire_at legs j).h ∣≤ 100000000000000000

pub carries : {legs : List Wire} → Sized legs → (j : ℕ) → j < length legs → Carries (wire_at legs j)
carries s j h = record { wired = s.wires.wired j h; h_end = s.h_end j h }
