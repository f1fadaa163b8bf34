-- What may be wrong with a row whose spelling is right: refusals 2 to 6, by the rows before it. One definition, for the reader's lines and
-- for the rows of a lent network record; `head` is the study's row. Assumes nothing.
use Rattle.std.specs.Prelude.{◌+◌, ◌*◌, ◌/◌, ◌%◌, ◌&&◌, ◌||◌, ◌∷◌}
use Rattle.whole.specs.Plain.{ℕ, Bool, true, false, cond, not, List, [], tail, leb}
use Rattle.whole.specs.Plain.{ltb, eqb, get_or, Words, between, any, count, sum}
use Rattle.paper.specs.Limits as Limits
use Rattle.paper.specs.Rows.{Row, Field, fields_of, kind, is_branch, is_source, is_line, is_switch, is_fixing, from, to, travel, closes, opens, at, step_length}
use Rattle.paper.specs.Conductance.{conductance}

-- a field that names a node, or one that does not, out of its range
unfoldable pub outside : Bool → List Field → Words → Bool
outside names [] w = false
outside names (f ∷ fs) [] = true
outside true (f ∷ fs) (x ∷ w) = (f.names && not (between f.low f.high x)) || outside true fs w
outside false (f ∷ fs) (x ∷ w) = (not f.names && not (between f.low f.high x)) || outside false fs w

-- 2 NODE: "node over 32, both ends equal, source or line end on ground"
unfoldable pub node_fault : Row → Bool
node_fault r =
    outside true (fields_of (kind r)) (tail r)
    || (is_branch r && eqb (from r) (to r))
    || (is_source r && eqb (at r) 0)
    || (is_line r && (eqb (from r) 0 || eqb (to r) 0))

-- 3 VALUE: "a field, or its conductance, out of range"; SW: "1 ≤ close < open"
unfoldable pub value_fault : Row → Row → Bool
value_fault head r =
    outside false (fields_of (kind r)) (tail r)
    || (is_switch r && leb (opens r) (closes r))
    || (is_branch r && not (leb Limits.conductance_low (conductance (step_length head) r) && leb (conductance (step_length head) r) Limits.conductance_end))

-- 4 TRAVEL: "travel shorter than a step"
unfoldable pub travel_fault : Row → Row → Bool
travel_fault head r = is_line r && ltb (travel r) (step_length head)

-- "A node with a VS is fixed"; "A VC fixes its node like a VS."
unfoldable pub fixes : ℕ → Row → Bool
fixes n r = is_fixing r && eqb (at r) n

-- 5 DOUBLE: "a second VS on a node"; "5 covers any two of VS and VC"
unfoldable pub double_fault : List Row → Row → Bool
double_fault before r = is_fixing r && any (fixes (at r)) before

-- "q whole steps and a rest r in ns": q is 01's d, "LINE of d = travel / step"
abbrev pub delay : ℕ → Row → ℕ
delay step r = travel r / step

abbrev pub rest : ℕ → Row → ℕ
rest step r = travel r % step

-- how many values older than that of step k - q an end reads: that of step k - q - 1 where r is not 0, and none where it is
unfoldable pub depth : Row → Row → ℕ
depth head r = cond (eqb (rest (step_length head) r) 0) 0 1

-- "a store needs 2q + 1 slots where r is not 0", and 2q where it is: q for what is on its way, q for a lead of the far area, and the older one
unfoldable pub slots : Row → Row → ℕ
slots head r = cond (is_line r) (2 * delay (step_length head) r + depth head r) 0

-- 6 FULL: "65th branch, 17th source, or" the slots "summed over lines past 4,096"; "6 counts the new slots"
unfoldable pub full_fault : Row → List Row → Row → Bool
full_fault head before r =
    (is_branch r && leb Limits.branch_end (count is_branch before))
    || (is_source r && leb Limits.source_end (count is_source before))
    || ltb Limits.store_words (sum (slots head) before + slots head r)

-- "in it 1 to 6 in turn": the number of the first fault, or 0
unfoldable pub line_fault : Row → List Row → Row → ℕ
line_fault head before r =
    cond (node_fault r) 2
    (cond (value_fault head r) 3
    (cond (travel_fault head r) 4
    (cond (double_fault before r) 5
    (cond (full_fault head before r) 6 0))))

-- the same after the rows seen so far, of which the first is the study's
unfoldable pub row_fault : List Row → Row → ℕ
row_fault seen r = line_fault (get_or seen 0 []) (tail seen) r
