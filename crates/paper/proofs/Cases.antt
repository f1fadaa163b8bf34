-- What E1 to E10 leave open, as a second table in their form, a third over lent words, and two laws of a row's legs. Assumes nothing.
use Rattle.std.specs.Prelude.{Ok, Err}
use Rattle.std.specs.Prelude.{◌+◌, ◌-◌, ◌*◌, ◌^◌, ◌≤◌, ◌≡◌, ◌∷◌, ◌++◌, ◌+ℤ◌, ◌-ℤ◌, ◌*ℤ◌}
use Rattle.whole.specs.Plain.{ℕ, refl, List, [], map, ℤ, pos, negsuc, neg_ℤ}
use Rattle.whole.specs.Plain.{le-ltb, arith, set, replicate, Words, z, word}
use Rattle.paper.specs.declared.Fault.TheVariants.{Value, Double}
use Rattle.paper.specs.declared.Unread.TheVariants.{Line}
use Rattle.paper.specs.declared.Refusal.TheVariants.{Network, State, Area, Done, Range, History}
use Rattle.paper.specs.Replies.{Advance}
use Rattle.whole.specs.Int.{ring_laws}
use Rattle.whole.specs.Mixing.{mixed_same}
use Rattle.paper.specs.Limits as Limits
use Rattle.paper.specs.Rows.{Row, from, to, step_length}
use Rattle.paper.specs.Faults.{delay, rest}
use Rattle.paper.specs.Legs.{received, sent_at, plain_legs, through, current}
use Rattle.paper.specs.Reading.{read_of}
use Rattle.paper.specs.Advance.{Memory, memory, advance_of}
use Rattle.paper.specs.Resetting.{fresh}
use Rattle.paper.specs.Computing.{computing}
use Rattle.paper.proofs.Examples.{Example, runs, lists, call, volts, amps, siemens, lines, place_of, looked, goes, played, replay, tabbed}

unfoldable pub cases : List Example
cases =
    -- "to the nearest whole number, halves away from zero"
    runs (lines ("study 1000 1 1000000000000000" ∷ "VS 1 1 1 0" ∷ "R 1 2 2000" ∷ "R 2 0 2000" ∷ [])) (Ok tt)
    (call 1 (Ok 1) (volts 2 (pos 1) ∷ []) ∷ [])
    ∷ runs (lines ("study 1000 1 1000000000000000" ∷ "VS 1 -1 1 0" ∷ "R 1 2 2000" ∷ "R 2 0 2000" ∷ [])) (Ok tt)
    (call 1 (Ok 1) (volts 2 (negsuc 0) ∷ []) ∷ [])
    -- "Conductances, rounded to nearest, halves up": 2.5 becomes 3, and 0.5 becomes 1 and is in range
    ∷ runs (lines ("study 1 1 0" ∷ "VS 1 1 1 0" ∷ "R 1 0 400000000000" ∷ "L 1 0 1000000000" ∷ [])) (Ok tt)
    (call 1 (Ok 1) (siemens 1 3 ∷ siemens 2 1 ∷ []) ∷ [])
    -- "peak · n / rise rounded toward zero while n < rise"
    ∷ runs (lines ("study 1000 5 0" ∷ "VS 1 -1000 2 3" ∷ [])) (Ok tt)
    (call 1 (Ok 1) (volts 1 z ∷ []) ∷ call 1 (Ok 2) (volts 1 z ∷ [])
    ∷ call 1 (Ok 3) (volts 1 (negsuc 332) ∷ []) ∷ call 1 (Ok 4) (volts 1 (negsuc 665) ∷ []) ∷ call 1 (Ok 5) (volts 1 (negsuc 999) ∷ []) ∷ [])
    -- "An IS injects into its node."
    ∷ runs (lines ("study 1000 1 0" ∷ "IS 1 600000000 1 0" ∷ "R 1 0 1000000" ∷ "IS 1 400000000 1 0" ∷ [])) (Ok tt)
    (call 1 (Ok 1) (volts 1 (pos 1000) ∷ []) ∷ [])
    -- "a history has the sign its current has in leaving that node": an L that ends at the free node
    ∷ runs (lines ("study 1000 2 0" ∷ "VS 1 1000 1 0" ∷ "R 1 2 2000" ∷ "L 0 2 1000" ∷ [])) (Ok tt)
    (call 1 (Ok 1) (volts 2 (pos 500) ∷ []) ∷ call 1 (Ok 2) (volts 2 z ∷ amps 2 (negsuc (5 * 10 ^ 11 - 1)) ∷ []) ∷ [])
    -- "Each x within the voltage range goes to the nearest whole number": 20,000,000.25 is judged before it is rounded
    ∷ runs (lines ("study 1000 1 1" ∷ "IS 1 80000001 1 0" ∷ "R 1 0 250000000000" ∷ [])) (Ok tt) (call 1 (Err (Range 1)) [] ∷ [])
    -- "Closed at steps close to open - 1.": open at `open`, which "remains as `SWT`" (02)
    ∷ runs (lines ("study 1000 2 0" ∷ "VS 1 1000 1 0" ∷ "SWT 1 2 2000 1 2" ∷ "R 2 0 2000" ∷ [])) (Ok tt)
    (call 1 (Ok 1) (volts 2 (pos 500) ∷ []) ∷ call 1 (Ok 2) (volts 2 z ∷ []) ∷ [])
    -- "in it 1 to 6 in turn": 3 before 4, and 5 before 6
    ∷ runs (lines ("study 1000 1 0" ∷ "LINE 1 2 999 999" ∷ [])) (Err (Line 2 Value)) []
    ∷ runs (lines ("study 1000 1 0" ∷ "VS 1 0 1 0" ∷ (replicate 15 "IS 1 0 1 0" ++ ("VS 1 0 1 0" ∷ [])))) (Err (Line 18 Double)) []
    -- "f = a(q,p)/a(p,p)": one quotient, for 49 times the double of 1/49 is not 1, and node 2 would be under a half
    ∷ runs (lines ("study 1000 1 1" ∷ "R 1 2 20408163265" ∷ "R 2 0 500000000000" ∷ "IS 2 1 1 0" ∷ [])) (Ok tt)
    (call 1 (Ok 1) (volts 1 (pos 1) ∷ volts 2 (pos 1) ∷ []) ∷ [])
    -- "for each later column c, rising": falling, node 1 would be under a half
    ∷ runs
    (lines ("study 1000 1 3" ∷ "IS 1 1 1 0" ∷ "R 1 2 500000000000" ∷ "R 1 3 500000000000" ∷ "R 2 0 250000000000" ∷ "R 3 0 1000000000000" ∷ []))
    (Ok tt) (call 1 (Ok 1) (volts 1 (pos 1) ∷ volts 2 z ∷ volts 3 z ∷ []) ∷ [])
    -- "for a line a fifth field, the to-end current"
    ∷ lists (lines ("study 1000 1 0" ∷ "VS 1 1000 1 0" ∷ "LINE 1 2 400000 1000" ∷ []))
    (lines ("v 1 1 1000" ∷ "v 1 2 0" ∷ "i 1 1 2500000000 0" ∷ "done 1" ∷ []))
    -- "A table with only `study` is accepted: no nodes, no areas."
    ∷ lists (lines ("study 1000 1 0" ∷ [])) (lines ("done 1" ∷ []))
    ∷ runs (lines ("study 1000 1 0" ∷ [])) (Ok tt) (call 1 (Err Area) [] ∷ [])
    ∷ []

pub cases_hold : map replay cases ≡ cases
unfolding computing place_of looked goes played replay tabbed lines cases
cases_hold = refl

-- ---- what is lent, judged

-- a lent word, and what is put there
pub data Put : Type 0 where
  in_network : ℕ → ℤ → Put
  in_records : ℕ → ℤ → Put
  in_froms : ℕ → ℤ → Put
  in_tos : ℕ → ℤ → Put

-- a text read and reset, words put over what is lent then, and an advance of an area with its answer
pub data Lending : Type 0 where
  lends : List ℕ → List Put → ℕ → Advance → Lending

unfoldable pub put_on : Words → Memory → List Put → ℕ → Advance
put_on net m [] a = (advance_of net a m).answer
put_on net m (in_network i x ∷ ps) a = put_on (set net i x) m ps a
put_on net m (in_records i x ∷ ps) a = put_on net (memory (set m.records i x) m.froms m.tos) ps a
put_on net m (in_froms i x ∷ ps) a = put_on net (memory m.records (set m.froms i x) m.tos) ps a
put_on net m (in_tos i x ∷ ps) a = put_on net (memory m.records m.froms (set m.tos i x)) ps a

unfoldable pub lent_again : Lending → Lending
lent_again (lends text ps a x) = lends text ps a (put_on (read_of text (replicate Limits.network_words z)).network fresh ps a)

-- an R from node 1 to ground; a line of d = 2 from area 1 to a VS in area 2. Words 0 and 1 are the counts, 64, 144 and 224 the first row's
-- from-side current, to-end current and history
unfoldable pub plain : List ℕ
plain = lines ("study 1000 9 0" ∷ "R 1 0 2000" ∷ [])

unfoldable pub wired : List ℕ
wired = lines ("study 1000 9 0" ∷ "LINE 1 2 1000 2000" ∷ "VS 2 20000000 1 0" ∷ [])

unfoldable pub lendings : List Lending
lendings =
    -- 8: "not one the reader could write", in a spare word of the head, of a row and past the rows
    lends plain (in_network 4 (pos 1) ∷ []) 1 (Err Network)
    ∷ lends plain (in_network 12 (pos 1) ∷ []) 1 (Err Network) ∷ lends plain (in_network 1023 (pos 1) ∷ []) 1 (Err Network)
    -- 10: "counts are 0 to steps"; before 11; and 12 once "the area has taken all steps"
    ∷ lends plain (in_records 0 (negsuc 0) ∷ []) 1 (Err State) ∷ lends plain (in_records 0 (pos 10) ∷ []) 1 (Err State)
    ∷ lends plain (in_records 0 (negsuc 0) ∷ []) 2 (Err State)
    ∷ lends plain (in_records 0 (pos 8) ∷ []) 1 (Ok 9) ∷ lends plain (in_records 0 (pos 9) ∷ []) 1 (Err Done)
    -- "areas at a line's two ends differ by at most d in count"
    ∷ lends wired (in_records 0 (pos 2) ∷ []) 2 (Ok 1) ∷ lends wired (in_records 0 (pos 3) ∷ []) 2 (Err State)
    ∷ lends wired (in_records 1 (pos 2) ∷ []) 1 (Ok 1) ∷ lends wired (in_records 1 (pos 3) ∷ []) 1 (Err State)
    -- "current magnitudes are at most 1.4·10^17"
    ∷ lends wired (in_records 64 (pos (14 * 10 ^ 16)) ∷ in_records 144 (negsuc (14 * 10 ^ 16 - 1)) ∷ []) 1 (Ok 1)
    ∷ lends wired (in_records 64 (pos (14 * 10 ^ 16 + 1)) ∷ []) 1 (Err State) ∷ lends wired (in_records 144 (negsuc (14 * 10 ^ 16)) ∷ []) 1 (Err State)
    -- "unused words are zero": a to current or a history of an R, a history of a line, a current of a source, a slot past 2q
    ∷ lends plain (in_records 144 (pos 1) ∷ []) 1 (Err State) ∷ lends plain (in_records 224 (pos 1) ∷ []) 1 (Err State)
    ∷ lends wired (in_records 224 (pos 1) ∷ []) 1 (Err State) ∷ lends wired (in_records 65 (pos 1) ∷ []) 1 (Err State) ∷ lends wired (in_tos 4 (pos 1) ∷ []) 1 (Err State)
    -- "sent values are in range", in either store
    ∷ lends wired (in_froms 3 (negsuc (10 ^ 17 - 1)) ∷ in_tos 3 (pos (10 ^ 17)) ∷ []) 1 (Ok 1)
    ∷ lends wired (in_froms 3 (pos (10 ^ 17 + 1)) ∷ []) 1 (Err State) ∷ lends wired (in_tos 3 (pos (10 ^ 17 + 1)) ∷ []) 1 (Err State)
    -- 17 at a to end: it hears 10^17 and would send -1.4·10^17
    ∷ lends wired (in_records 0 (pos 2) ∷ in_records 1 (pos 2) ∷ in_froms 1 (pos (10 ^ 17)) ∷ []) 2 (Err (History 1))
    ∷ []

pub lendings_hold : map lent_again lendings ≡ lendings
unfolding computing put_on lent_again tabbed lines plain wired lendings
lendings_hold = refl

-- ---- legs

turned : (g a b h : ℤ) → g *ℤ (b -ℤ a) +ℤ neg_ℤ h ≡ neg_ℤ (g *ℤ (a -ℤ b) +ℤ h)
turned g a b h = simp ring_laws

-- what leaves one end of an R, L, C or SW enters at the other
pub opposite : (r : Row) (g : ℕ) (h : ℤ) (v : Words)
    → current v (plain_legs r g h).is_to_end.wire ≡ neg_ℤ (current v (plain_legs r g h).is_from_end.wire)
unfolding plain_legs current through
opposite r g h v = turned (pos g) (word v (from r)) (word v (to r)) h

-- "values before step 1 are 0": so an end receives 0 until step q
pub early : (head r : Row) (k : ℕ) (sent : ℕ → ℤ) → k ≤ delay (step_length head) r → received head r k sent ≡ z
unfolding received sent_at
early head r k sent h =
    let s = k - delay (step_length head) r in
    rw (le-ltb 0 s (omega arith), le-ltb 0 (s - 1) (omega arith)) (mixed_same (step_length head) (rest (step_length head) r) z)
