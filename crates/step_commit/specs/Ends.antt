-- What an end of a row puts, from what is found of it; what the two put into the stores in turn is what the paper puts for the row. Assumes nothing.
use Rattle.std.specs.Prelude.{◌+◌, ◌*◌, ◌%◌, ◌≡◌, ◌&&◌, ◌||◌, ◌∷◌}
use Rattle.whole.specs.Plain.{ℕ, refl, sym, ap, ◌∙◌, Bool, true, false, cond, and-false}
use Rattle.whole.specs.Plain.{List, [], map, ℤ, pos, set, arith, Words, word, fold}
use Rattle.paper.specs.Rows.{Row, kind, is_line, is_breaker, is_l, is_c}
use Rattle.paper.specs.Areas.{Net}
use Rattle.paper.specs.Records.{current_at, to_current_at, history_at, latch_at}
use Rattle.paper.specs.Legs.{Leg, idle, current, passed_on}
use Rattle.paper.specs.Advance.{put_if}
use Rattle.laws_facts.specs.Nets.{row_at}
use Rattle.plan_rows.specs.Planned.{Plan, row_in}
use Rattle.step_legs.specs.declared.Wire.{Wire}
use Rattle.step_legs.specs.Wires.{leg_of, wires_in}
use Rattle.step_own.specs.Ends.{wire_of}
use Rattle.step_flow.specs.Flown.{passed_by, flown}
use Rattle.step_latch.specs.Parting.{parts_by, leg_parts, latch_put}
use Rattle.step_records.specs.Records.{leg_put}
use Rattle.step_send.specs.Stores.{is_from_end, is_to_end, sent_put}

-- ---- what a leg has at the end of the step is what is found of it, whatever stood there before
module _ {A : Type 0} (put : Wire → A → A) (v : Words) where
  abbrev pub found : Wire → A → A
  found w = put (flown v w)

  pub by_wires : (legs : List Wire) (x : A) → fold (λ x w. put w x) x (map (flown v) legs) ≡ fold (λ x w. found w x) x (wires_in legs)
  unfolding fold wires_in flown
  by_wires [] x = refl
  by_wires (w ∷ legs) x = by_wires legs (put (flown v w) x)

-- ---- a row's two ends
pub record EndOf (r : Row) (i e : ℕ) (w : Wire) : Type 0 where
  pub row : w.row ≡ i
  pub side : w.end ≡ e
  pub kind_is_lem : w.kind ≡ kind r

-- the wires of row i are its ends
module _ (N : Net) (k : ℕ) (recs froms tos : Words) (i : ℕ) where
  pub from_end : EndOf (row_at N i) i 1 (wire_of N k recs froms tos (2 * i))
  from_end = record { row = omega arith; side = omega arith; kind_is_lem = ap (λ (j : ℕ). kind (row_at N j)) (omega arith) }

  pub to_end : EndOf (row_at N i) i 2 (wire_of N k recs froms tos (2 * i + 1))
  to_end = record { row = omega arith; side = omega arith; kind_is_lem = ap (λ (j : ℕ). kind (row_at N j)) (omega arith) }

-- what it puts into the records: at a from end, where the row is an SW's that parts, its latch first
abbrev parts_at : Plan → ℕ → Row → ℕ → Words → ℤ → Bool
parts_at plan k r i x now = is_breaker r && parts_by k (row_in plan i) (word x (current_at i)) now (word x (latch_at i))

module _ (plan : Plan) (k : ℕ) (v : Words) {r : Row} {i : ℕ} {w : Wire} (x : Words) where
  pub from_puts : EndOf r i 1 w
      → found (leg_put plan k) v w x
      ≡ put_if (is_l r || is_c r) (set (put_if (parts_at plan k r i x (current v (leg_of w))) x (latch_at i) (pos k)) (current_at i) (current v (leg_of w))) (history_at i) (passed_on v r (leg_of w))
  unfolding leg_put latch_put leg_parts passed_by passed_on flown
  from_puts f = rw (f.row, f.side, f.kind_is_lem)

  pub to_puts : EndOf r i 2 w → found (leg_put plan k) v w x ≡ put_if (is_line r) x (to_current_at i) (current v (leg_of w))
  unfolding leg_put flown
  to_puts t = rw (t.row, t.side, t.kind_is_lem)

-- a word that is put where a leg is the area's, and one that never is
put_own : (o a : Bool) (f : Leg → ℤ) (l : Leg) (x : Words) (i : ℕ) → cond o (put_if (a && true) x i (f l)) x ≡ put_if (a && o) x i (f (cond o l idle))
unfolding put_if
put_own true a f l x i = refl
put_own false a f l x i = rw and-false

put_none : (o a : Bool) (x : Words) (i : ℕ) (y : ℤ) → cond o (put_if (a && false) x i y) x ≡ x
unfolding put_if
put_none true a x i y = rw and-false
put_none false a x i y = refl

module _ (v : Words) {r : Row} {i : ℕ} {w₁ w₂ : Wire} (f : EndOf r i 1 w₁) (t : EndOf r i 2 w₂) (o₁ o₂ : Bool) (x : Words) where
  abbrev l₁ : Leg
  l₁ = cond o₁ (leg_of w₁) idle

  abbrev l₂ : Leg
  l₂ = cond o₂ (leg_of w₂) idle

  abbrev both : (Wire → Words → Words) → Words
  both put = let y = cond o₁ (put w₁ x) x in cond o₂ (put w₂ y) y

  module _ (plan : Plan) (k : ℕ) where
    abbrev at : ℕ
    at = (row_in plan i).place + k % (row_in plan i).slots

    pub from_put : put_if (is_line r && o₁) x at (passed_on v r l₁) ≡ both (found (sent_put plan k is_from_end) v)
    unfolding sent_put passed_by passed_on flown
    from_put = rw (f.row, f.side, f.kind_is_lem, t.row, t.side, t.kind_is_lem) (sym (put_none o₂ (is_line r) _ at _ ∙ put_own o₁ (is_line r) (passed_on v r) (leg_of w₁) x at))

    pub to_put : put_if (is_line r && o₂) x at (passed_on v r l₂) ≡ both (found (sent_put plan k is_to_end) v)
    unfolding sent_put passed_by passed_on flown
    to_put = rw (f.row, f.side, f.kind_is_lem, t.row, t.side, t.kind_is_lem, put_none o₁ (is_line r) x at _) (sym (put_own o₂ (is_line r) (passed_on v r) (leg_of w₂) x at))
