-- Where each word of the records stands: counts by area, voltages by node, then by row (not by branch number: a row's place needs no counting) the
-- from-side currents, the to-end currents and the histories, by node the peaks and their steps, and by row the latches; and where a line's slots stand in
-- either store. Assumes nothing.
use Rattle.std.specs.Prelude.{◌+◌, ◌-◌}
use Rattle.whole.specs.Plain.{ℕ, take, sum}
use Rattle.paper.specs.Faults.{slots}
use Rattle.paper.specs.Areas.{Net}

-- areas and nodes from 1, rows from 0
abbrev pub count_at : ℕ → ℕ
count_at a = a - 1

abbrev pub volt_at : Net → ℕ → ℕ
volt_at N n = 32 + n - 1

abbrev pub current_at : ℕ → ℕ
current_at r = 64 + r

abbrev pub to_current_at : ℕ → ℕ
to_current_at r = 144 + r

abbrev pub history_at : ℕ → ℕ
history_at r = 224 + r

abbrev pub peak_at : Net → ℕ → ℕ
peak_at N n = 304 + n - 1

abbrev pub peak_step_at : Net → ℕ → ℕ
peak_step_at N n = 336 + n - 1

abbrev pub latch_at : ℕ → ℕ
latch_at r = 368 + r

-- "slots stand in table order": where the row in place r, from 0, has its slots in either store
unfoldable pub offset : Net → ℕ → ℕ
offset N r = sum (slots N.head) (take r N.rows)

unfoldable pub slot_count : Net → ℕ
slot_count N = sum (slots N.head) N.rows
