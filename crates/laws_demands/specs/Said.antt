-- One step of one area in document 01's words: what the records and line stores say before it (m) and after it (n). Definitions only, to be held
-- beside the paper. Assumes nothing.
use Rattle.whole.specs.Plain.{ℕ, zero, suc, true, false, cond, List, eqb, ℤ, pos, neg_ℤ}
use Rattle.whole.specs.Plain.{nat_abs, length, get_or, z, word, numbers, total}
use Rattle.std.specs.Prelude.{Float, ◌≤◌, ◌<◌, ◌≡◌, ◌≢◌, ◌+ℤ◌, ◌-ℤ◌, ◌*ℤ◌}
use Rattle.std.specs.Float.{nan}
use Rattle.paper.specs.Rows.{is_branch, is_r, is_l, is_c, is_line, is_breaker, is_switch, is_fixing, from, to, at, limit}
use Rattle.paper.specs.Conductance.{conductance}
use Rattle.paper.specs.Areas.{Net, area_of, area_count, row_area, step, fixed, free_of}
use Rattle.paper.specs.Sources.{source, injected}
use Rattle.paper.specs.Records.{count_at, volt_at, current_at, to_current_at, history_at, peak_at, peak_step_at, latch_at, new_peak, new_peak_step, count_of, owner_of}
use Rattle.paper.specs.Latch.{new_latch}
use Rattle.paper.specs.Legs.{Branch, both_legs, received, heard, is_open, legs_of}
use Rattle.paper.specs.Doubles.{as_voltage, nearest_of}
use Rattle.paper.specs.Elimination.{voltages}
use Rattle.paper.specs.Solve.{system, still_of}
use Rattle.paper.specs.Advance.{Memory, written}
use Rattle.laws_facts.specs.Nets.{row_at}
use Rattle.laws_local.specs.Nodes.{NodeOf}
use Rattle.laws_local.specs.Slots.{slot_of}
use Rattle.laws_local.specs.Outcome.{step_of, legs_now, volts_of}

-- ---- an area's number: "Areas are numbered from 1"

pub record IsArea (N : Net) (a : ℕ) : Type 0 where
  pub one : 1 ≤ a
  pub most : a ≤ area_count N

-- ---- what stands in the records and stores

-- "0 is ground"
abbrev pub voltage : Net → Memory → ℕ → ℤ
voltage N m zero = z
voltage N m (suc n) = word m.records (volt_at N (suc n))

-- a node's peak and the peak's step (02)
abbrev pub peak_in : Net → Memory → ℕ → ℤ
peak_in N m p = word m.records (peak_at N p)

abbrev pub peak_step_in : Net → Memory → ℕ → ℤ
peak_step_in N m p = word m.records (peak_step_at N p)

-- of the row in place i: the current that leaves its from node, that which leaves a line's to node, the history, and an SW's latch (02)
abbrev pub from_current : Memory → ℕ → ℤ
from_current m i = word m.records (current_at i)

abbrev pub to_current : Memory → ℕ → ℤ
to_current m i = word m.records (to_current_at i)

abbrev pub history : Memory → ℕ → ℤ
history m i = word m.records (history_at i)

abbrev pub latch : Memory → ℕ → ℤ
latch m i = word m.records (latch_at i)

-- what the two ends of the line in place i sent at step s
abbrev pub from_sent : Net → Memory → ℕ → ℕ → ℤ
from_sent N m i s = word m.froms (slot_of N i s)

abbrev pub to_sent : Net → Memory → ℕ → ℕ → ℤ
to_sent N m i s = word m.tos (slot_of N i s)

-- "g the conductance, u the voltage from minus to": g·u, and at a line's end g·v
abbrev pub g : Net → ℕ → ℤ
g N i = pos (conductance (step N) (row_at N i))

abbrev pub gu : Net → Memory → ℕ → ℤ
gu N n i = g N i *ℤ (voltage N n (from (row_at N i)) -ℤ voltage N n (to (row_at N i)))

abbrev pub gv : Net → Memory → ℕ → ℕ → ℤ
gv N n i p = g N i *ℤ voltage N n p

-- ---- "Branch equations"

-- an R, L, C, SW or SWT
pub record Obeys (N : Net) (k : ℕ) (m n : Memory) (i : ℕ) : Type 0 where
  -- "R and closed SW: i = g·u. Open SW: i = 0 and no conductance."
  pub resistor : is_r (row_at N i) ≡ true → from_current n i ≡ gu N n i
  pub closed : is_switch (row_at N i) ≡ true → is_open N m.records k i ≡ false → from_current n i ≡ gu N n i
  pub opened : is_switch (row_at N i) ≡ true → is_open N m.records k i ≡ true → from_current n i ≡ z
  -- "A closed switch now parts after the first step k, at or after open - 1 and later than its closing step, at which its current is zero or of opposite
  -- sign to that of step k - 1" (02)
  pub parted : is_breaker (row_at N i) ≡ true → latch n i ≡ new_latch k (row_at N i) (from_current m i) (from_current n i) (latch m i)
  -- "L: i = g·u + h; next h is i + g·u."
  pub inductor : is_l (row_at N i) ≡ true → from_current n i ≡ gu N n i +ℤ history m i
  pub inductor_next : is_l (row_at N i) ≡ true → history n i ≡ from_current n i +ℤ gu N n i
  -- "C: i = g·u + h; next h is -i - g·u."
  pub capacitor : is_c (row_at N i) ≡ true → from_current n i ≡ gu N n i +ℤ history m i
  pub capacitor_next : is_c (row_at N i) ≡ true → history n i ≡ neg_ℤ (from_current n i) -ℤ gu N n i

-- one end of a LINE: "at each end i = g·v + h, where v is that end's voltage" and h is what it receives of what the far end sent, by steps. "It then
-- sends -(g·v + i)."
pub record EndObeys (N : Net) (k i p : ℕ) (n : Memory) (current sends : ℤ) (far : ℕ → ℤ) : Type 0 where
  pub equation : current ≡ gv N n i p +ℤ received N.head (row_at N i) k far
  pub sent : sends ≡ neg_ℤ (gv N n i p +ℤ current)

-- ---- "Balance."

-- what leaves node p through row i: "A line counts at each end with that end's own current."
abbrev pub at_end : ℕ → ℕ → ℤ → ℤ
at_end p q x = cond (eqb q p) x z

unfoldable pub leaves : Net → Memory → ℕ → ℕ → ℤ
leaves N n p i =
    let r = row_at N i in
    cond (is_line r) (at_end p (from r) (from_current n i) +ℤ at_end p (to r) (to_current n i))
    (cond (is_branch r) (at_end p (from r) (from_current n i) +ℤ at_end p (to r) (neg_ℤ (from_current n i))) z)

-- "the exact whole-number sum of currents leaving, minus injection"
unfoldable pub imbalance_at : Net → ℕ → Memory → ℕ → ℤ
imbalance_at N k n p = total (leaves N n p) (numbers 0 (length N.rows)) -ℤ injected N k p

-- ---- "Elimination", over the free nodes in rising order: the doubles x

abbrev pub legs_at : Net → ℕ → ℕ → Memory → List Branch
legs_at N a k m = legs_of N a k m.records (heard N a k m.froms m.tos)

abbrev pub solution : Net → ℕ → ℕ → Memory → List Float
solution N a k m = voltages (length (free_of N a)) (system (both_legs (legs_at N a k m)) (free_of N a) (still_of N a k) (injected N k))

-- what area a's next step writes, if it is accepted: the paper's proposed voltages, and the currents, histories and sent values that go with them
abbrev pub offer : Net → ℕ → Memory → Memory
offer N a m = written N a (step_of N a m) (legs_now N a m) (volts_of N a (step_of N a m) (legs_now N a m)) m

-- ---- area a's step k: what it comes to, before it is weighed

pub record Offered (N : Net) (a k : ℕ) (m n : Memory) : Type 0 where
  -- "an accepted advance answers the area's new count"
  pub next : k ≡ suc (count_of m.records a)
  pub count : word n.records (count_at a) ≡ pos k
  -- a fixed node has its source's value
  pub fixed_node : (p i : ℕ) → NodeOf N a p → i < length N.rows → is_fixing (row_at N i) ≡ true → at (row_at N i) ≡ p → voltage N n p ≡ source N k (row_at N i)
  -- a free node has the double of the stated elimination, rounded to the nearest whole number
  pub free_node : (q : ℕ) → q < length (free_of N a) → nearest_of (get_or (solution N a k m) q nan) ≡ as_voltage (voltage N n (get_or (free_of N a) q 0))
  -- "each node's largest magnitude and the first step where it came" (02), fixed nodes' too
  pub peak : (p : ℕ) → NodeOf N a p → peak_in N n p ≡ new_peak k (voltage N n p) (peak_in N m p)
  pub peak_step_lem : (p : ℕ) → NodeOf N a p → peak_step_in N n p ≡ new_peak_step k (voltage N n p) (peak_in N m p) (peak_step_in N m p)
  -- each branch of the area obeys its own equation
  pub plain : (i : ℕ) → i < length N.rows → is_branch (row_at N i) ≡ true → is_line (row_at N i) ≡ false → row_area N (row_at N i) ≡ a → Obeys N k m n i
  pub from_end : (i : ℕ) → i < length N.rows → is_line (row_at N i) ≡ true → area_of N (from (row_at N i)) ≡ a
      → EndObeys N k i (from (row_at N i)) n (from_current n i) (from_sent N n i k) (to_sent N m i)
  pub to_end : (i : ℕ) → i < length N.rows → is_line (row_at N i) ≡ true → area_of N (to (row_at N i)) ≡ a
      → EndObeys N k i (to (row_at N i)) n (to_current n i) (to_sent N n i k) (from_sent N m i)
  -- every word of the records and of the two stores that is not the area's own is as it was
  pub records : (j : ℕ) → owner_of N j ≢ a → word n.records j ≡ word m.records j
  pub froms : (j : ℕ) → ((i : ℕ) → i < length N.rows → is_line (row_at N i) ≡ true → area_of N (from (row_at N i)) ≡ a → j ≢ slot_of N i k) → word n.froms j ≡ word m.froms j
  pub tos : (j : ℕ) → ((i : ℕ) → i < length N.rows → is_line (row_at N i) ≡ true → area_of N (to (row_at N i)) ≡ a → j ≢ slot_of N i k) → word n.tos j ≡ word m.tos j

-- ---- T-step: the same, accepted

pub record Stepped (N : Net) (a k : ℕ) (m n : Memory) : Type 0 where
  pub offered : Offered N a k m n
  -- "At each free node the exact whole-number sum of currents leaving, minus injection, has magnitude at most the limit."
  pub balance : (p : ℕ) → NodeOf N a p → fixed N p ≡ false → nat_abs (imbalance_at N k n p) ≤ limit N.head
