-- What an area's legs that are line ends write into a line store. Assumes nothing.
use Rattle.std.specs.Prelude.{◌+◌, ◌%◌, ◌≤◌, ◌<◌, ◌≡◌, ◌&&◌}
use Rattle.whole.specs.Plain.{ℕ, Bool, not, List, eqb, length, Words, fold}
use Rattle.paper.specs.Limits as Limits
use Rattle.paper.specs.Advance.{put_if}
use Rattle.plan_rows.specs.Planned.{Plan, row_in}
use Rattle.step_legs.specs.declared.Wire.{Wire}
use Rattle.step_legs.specs.Wires.{wire_at, Wires}

-- which end of its row a leg is
abbrev pub is_from_end : Wire → Bool
is_from_end w = eqb w.end 1

abbrev pub is_to_end : Wire → Bool
is_to_end w = not (eqb w.end 1)

-- a leg's part in the store of one side's ends: what it passes on
unfoldable pub sent_put : Plan → ℕ → (Wire → Bool) → Wire → Words → Words
sent_put plan k side w store =
    let r = row_in plan w.row in
    put_if (eqb w.kind 4 && side w) store (r.place + k % r.slots) w.passed

abbrev pub leg_sent : Plan → ℕ → (Wire → Bool) → Words → Wire → Words
leg_sent plan k side store w = sent_put plan k side w store

unfoldable pub sent_by : Plan → ℕ → (Wire → Bool) → List Wire → Words → Words
sent_by plan k side legs store = fold (leg_sent plan k side) store legs

-- a line has slots, and they are in the store
pub record Slotted (plan : Plan) (w : Wire) : Type 0 where
  pub row_below : w.row < Limits.row_end
  pub some : w.kind ≡ 4 → 1 ≤ (row_in plan w.row).slots
  pub inside : w.kind ≡ 4 → (row_in plan w.row).place + (row_in plan w.row).slots ≤ Limits.store_words

-- the legs of a step, and the stores to be written
pub record Sendable (plan : Plan) (legs : List Wire) (froms tos : Words) : Type 0 where
  pub wires : Wires legs
  pub slotted : (j : ℕ) → j < length legs → Slotted plan (wire_at legs j)
  pub froms_long : length froms ≡ Limits.store_words
  pub tos_long : length tos ≡ Limits.store_words
