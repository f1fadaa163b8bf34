-- One row at one step, as two legs, one for the current that leaves its from node and one for that which leaves its to node:
-- "i = g·u + h" with u the voltage of `near` less that of `far`. A line's end is a leg of its own, to ground: "at each end i = g·v + h, where v
-- is that end's voltage and h is what the far end sent", or lies between two values that it sent. An area's step knows only its own legs. Assumes nothing.
use Rattle.std.specs.Prelude.{◌+◌, ◌-◌, ◌%◌, ◌&&◌, ◌||◌, ◌∷◌, ◌+ℤ◌, ◌-ℤ◌, ◌*ℤ◌}
use Rattle.whole.specs.Plain.{ℕ, Bool, true, false, cond, not, List, [], map, leb, ltb}
use Rattle.whole.specs.Plain.{eqb, ℤ, pos, neg_ℤ, get_or, length, Words, z, word, numbers}
use Rattle.whole.specs.Mixing.{mixed}
use Rattle.paper.specs.Rows.{Row, is_branch, is_line, is_switch, is_l, is_c, from, to, closes, step_length}
use Rattle.paper.specs.Conductance.{conductance}
use Rattle.paper.specs.Faults.{delay, rest, slots}
use Rattle.paper.specs.Areas.{Net, area_of, row_area, step}
use Rattle.paper.specs.Where.{history_at, latch_at, offset}
use Rattle.paper.specs.Latch.{holds}

pub record Leg : Type 0 where
  pub near : ℕ
  pub far : ℕ
  pub g : ℕ
  pub h : ℤ

abbrev pub leg : ℕ → ℕ → ℕ → ℤ → Leg
leg near far g h = record { near = near; far = far; g = g; h = h }

-- a leg that carries nothing
abbrev pub idle : Leg
idle = leg 0 0 0 z

-- one end of a row: whether it is the area's own, and its leg
pub record End : Type 0 where
  pub own : Bool
  pub wire : Leg

abbrev pub own_end : Leg → End
own_end l = record { own = true; wire = l }

abbrev pub other_end : End
other_end = record { own = false; wire = idle }

pub record Branch : Type 0 where
  pub row : Row
  pub is_from_end : End
  pub is_to_end : End

abbrev pub branch : Row → End → End → Branch
branch r f t = record { row = r; is_from_end = f; is_to_end = t }

-- ---- what a line's ends receive

-- the value sent at step s: "values before step 1 are 0"
unfoldable pub sent_at : (ℕ → ℤ) → ℕ → ℤ
sent_at sent s = cond (ltb 0 s) (sent s) z

-- "an end receives the value sent at step k - q plus (that of step k - q - 1 minus it) · r / step, rounded down": of what the far end sent, by steps
unfoldable pub received : Row → Row → ℕ → (ℕ → ℤ) → ℤ
received head r k sent =
    let s = k - delay (step_length head) r in
    mixed (step_length head) (rest (step_length head) r) (sent_at sent s) (sent_at sent (s - 1))

-- of what stands in the far end's store, the value of step s in place s mod its slots
unfoldable pub sent_to : Net → ℕ → ℕ → Row → Words → ℤ
sent_to N k i r store = received N.head r k (λ s. word store (offset N i + s % slots N.head r))

pub record Heard : Type 0 where
  pub at_from : ℤ
  pub at_to : ℤ

abbrev pub here : Net → ℕ → ℕ → Bool
here N a n = eqb (area_of N n) a

-- the from end hears the to-end store, the to end the from-end store; an end of another area hears nothing here
unfoldable pub heard_by : Net → ℕ → ℕ → Words → Words → ℕ → Heard
heard_by N a k froms tos i =
    let r = get_or N.rows i [] in
    record {
      at_from = cond (is_line r && here N a (from r)) (sent_to N k i r tos) z;
      at_to = cond (is_line r && here N a (to r)) (sent_to N k i r froms) z;
    }

unfoldable pub heard : Net → ℕ → ℕ → Words → Words → List Heard
heard N a k froms tos = map (heard_by N a k froms tos) (numbers 0 (length N.rows))

-- ---- the legs

-- whether the row in place i is open at step k: an SWT is "Closed at steps close to open - 1."; an SW from its closing step on, until it has parted
unfoldable pub is_open : Net → Words → ℕ → ℕ → Bool
is_open N recs k i = let r = get_or N.rows i [] in is_switch r && not (leb (closes r) k && holds r (word recs (latch_at i)) k)

-- its conductance then: "Open SW: i = 0 and no conductance."
unfoldable pub conducts : Net → Words → ℕ → ℕ → ℕ
conducts N recs k i = cond (is_open N recs k i) 0 (conductance (step N) (get_or N.rows i []))

unfoldable pub line_end : Bool → ℕ → ℕ → ℤ → End
line_end own n g h = cond own (own_end (leg n 0 g h)) other_end

unfoldable pub line_legs : Net → ℕ → ℕ → Row → Heard → Branch
line_legs N a k r e =
    let g = conductance (step N) r in
    branch r (line_end (here N a (from r)) (from r) g e.at_from) (line_end (here N a (to r)) (to r) g e.at_to)

unfoldable pub plain_legs : Row → ℕ → ℤ → Branch
plain_legs r g h =
    branch r (own_end (leg (from r) (to r) g h)) (own_end (leg (to r) (from r) g (neg_ℤ h)))

-- the row in place i at step k of area a; a row of another area, and a source, is idle
unfoldable pub legs_by : Net → ℕ → ℕ → Words → List Heard → ℕ → Branch
legs_by N a k recs ears i =
    let r = get_or N.rows i [] in
    cond (is_line r) (line_legs N a k r (get_or ears i (record { at_from = z; at_to = z })))
    (cond (is_branch r && eqb (row_area N r) a) (plain_legs r (conducts N recs k i) (word recs (history_at i)))
    (branch r other_end other_end))

unfoldable pub legs_of : Net → ℕ → ℕ → Words → List Heard → List Branch
legs_of N a k recs ears = map (legs_by N a k recs ears) (numbers 0 (length N.rows))

abbrev pub branch_in : List Branch → ℕ → Branch
branch_in bs i = get_or bs i (branch [] other_end other_end)

unfoldable pub both_legs : List Branch → List Leg
both_legs [] = []
both_legs (b ∷ bs) = b.is_from_end.wire ∷ (b.is_to_end.wire ∷ both_legs bs)

-- ---- a leg's current, at the voltages by node

unfoldable pub through : Words → Leg → ℤ
through v l = pos l.g *ℤ (word v l.near -ℤ word v l.far)

-- "i = g·u + h"
unfoldable pub current : Words → Leg → ℤ
current v l = through v l +ℤ l.h

-- i + g·u
unfoldable pub echo : Words → Leg → ℤ
echo v l = current v l +ℤ through v l

-- L: "next h is i + g·u"; C: "next h is -i - g·u"; LINE: "It then sends -(g·v + i)."
unfoldable pub passed_on : Words → Row → Leg → ℤ
passed_on v r l = cond (is_l r) (echo v l) (cond (is_c r || is_line r) (neg_ℤ (echo v l)) z)
