-- The areas' counts of steps, those at a line's two ends, and a breaker's latch against them, by the plan's rows. Assumes nothing.
use Rattle.std.specs.Prelude.{◌+◌, ◌≤◌, ◌<◌, ◌≡◌, ◌&&◌, ◌||◌, ◌∷◌}
use Rattle.whole.specs.Plain.{ℕ, Bool, true, false, not, and-true, [], leb, ltb, eqb, ℤ, pos}
use Rattle.whole.specs.Plain.{non_neg, length, eq-eqb, ne_eqb, le-leb, lt-leb, Words, word, nat}
use Rattle.whole.specs.Truths.{and-false}
use Rattle.paper.specs.Limits as Limits
use Rattle.paper.specs.Rows.{is_line}
use Rattle.paper.specs.Records.{count_at, latch_at, count_of}
use Rattle.plan_rows.specs.declared.Row.{Row}
use Rattle.plan_rows.specs.Planned.{Plan, row_in}
use Rattle.plan_rows.specs.Switching.{may_part_by}

abbrev pub line_kind : ℕ → Bool
line_kind k = is_line (pos k ∷ [])

-- "areas at a line's two ends differ by at most d in count"
unfoldable pub near_by : Words → Row → Bool
near_by recs r =
    let f = count_of recs r.from_area in
    let t = count_of recs r.to_area in
    not (line_kind r.kind) || (leb f (t + r.delay) && leb t (f + r.delay))

-- 13 WAIT: "a far area's count is below k - d"
unfoldable pub waits_by : ℕ → ℕ → Words → Row → Bool
waits_by a k recs r =
    let f = count_of recs r.from_area in
    let t = count_of recs r.to_area in
    line_kind r.kind && ((eqb r.from_area a && ltb (t + r.delay) k) || (eqb r.to_area a && ltb (f + r.delay) k))

-- not "a set latch that is below open - 1, not above close or past the area's count": with count c, of the latch p
unfoldable pub latch_formed_by : Row → ℤ → ℕ → Bool
latch_formed_by r p c = eqb (nat p) 0 || (non_neg p && may_part_by (nat p) r && leb (nat p) c)

unfoldable pub latched_by : Words → Row → ℕ → Bool
latched_by recs r i = not (eqb r.kind 5) || latch_formed_by r (word recs (latch_at i)) (count_of recs r.from_area)

-- case by case
module _ (r : Row) (p : ℤ) (c : ℕ) where
  pub latch_below : non_neg p ≡ false → (nat p ≡ 0 → ⊥) → latch_formed_by r p c ≡ false
  unfolding latch_formed_by
  latch_below s n = rw (ne_eqb (nat p) 0 n, s)

  pub latch_none : nat p ≡ 0 → latch_formed_by r p c ≡ true
  unfolding latch_formed_by
  latch_none e = rw (eq-eqb (nat p) 0 e)

  pub latch_past : non_neg p ≡ true → (nat p ≡ 0 → ⊥) → c < nat p → latch_formed_by r p c ≡ false
  unfolding latch_formed_by
  latch_past s n h = rw (ne_eqb (nat p) 0 n, s, lt-leb (nat p) c h) (and-false (may_part_by (nat p) r))

  pub latch_within : non_neg p ≡ true → (nat p ≡ 0 → ⊥) → nat p ≤ c → latch_formed_by r p c ≡ may_part_by (nat p) r
  unfolding latch_formed_by
  latch_within s n h = rw (ne_eqb (nat p) 0 n, s, le-leb (nat p) c h) (and-true (may_part_by (nat p) r))

-- ---- what is known where counts are read

-- an area's word is there, and a number of steps
pub record CountIn (recs : Words) (a : ℕ) : Type 0 where
  pub least : 1 ≤ a
  pub there : a ≤ length recs
  pub number : word recs (count_at a) ≡ pos (count_of recs a)
  pub most : count_of recs a ≤ Limits.steps_end

-- of all areas
pub record CountsIn (recs : Words) (areas : ℕ) : Type 0 where
  pub at : (a : ℕ) → 1 ≤ a → a ≤ areas → CountIn recs a

-- a line: the areas at its two ends are counted, and its delay is small
pub record EndsIn (recs : Words) (r : Row) : Type 0 where
  pub from : CountIn recs r.from_area
  pub to : CountIn recs r.to_area
  pub delay : r.delay ≤ Limits.travel_end

abbrev pub LineIn : Words → Row → Type 0
LineIn recs r = line_kind r.kind ≡ true → EndsIn recs r

-- an SW: its area is counted
abbrev pub BreakerIn : Words → Row → Type 0
BreakerIn recs r = r.kind ≡ 5 → CountIn recs r.from_area

-- every line and every SW of the plan
pub record Counted (plan : Plan) (rows : ℕ) (recs : Words) : Type 0 where
  pub few : rows ≤ Limits.row_end
  pub line : (i : ℕ) → i < rows → LineIn recs (row_in plan i)
  pub breaker : (i : ℕ) → i < rows → BreakerIn recs (row_in plan i)
