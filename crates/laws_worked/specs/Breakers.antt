-- K6: breakers open at current zero, worked; and an SWT opens as a switch of document 01 did. Assumes nothing.
use Rattle.std.specs.Prelude.{Ok, Err}
use Rattle.std.specs.Prelude.{◌-◌, ◌*◌, ◌^◌, ◌≡◌, ◌&&◌, ◌∷◌, ◌++◌}
use Rattle.whole.specs.Plain.{ℕ, refl, Bool, true, false, not, List, [], map, leb, ltb}
use Rattle.whole.specs.Plain.{ℤ, pos, negsuc, get_or, replicate, eqb-true, Words, z}
use Rattle.paper.specs.declared.Fault.TheVariants.{Form, Value, Full}
use Rattle.paper.specs.declared.Unread.TheVariants.{Line}
use Rattle.paper.specs.declared.Refusal.TheVariants.{State, Done, Floating}
use Rattle.paper.specs.Rows.{Row, kind, is_timed, closes, opens}
use Rattle.paper.specs.Areas.{Net}
use Rattle.paper.specs.Latch.{crosses, holds}
use Rattle.paper.specs.Legs.{is_open}
use Rattle.paper.specs.Computing.{computing}
use Rattle.paper.proofs.Examples.{Example, Call, runs, call, volts, amps, parted, lines, place_of, looked, goes, played, replay, tabbed}
use Rattle.paper.proofs.Cases.{Lending, lends, in_records, put_on, lent_again}
use Rattle.laws_asked.specs.Asked.{saves, put_over, saved_again}

-- ---- "zero or of opposite sign": zero has no opposite sign
pub signs : map (λ (p : ℤ × ℤ). crosses p.0 p.1) ((pos 5, negsuc 0) ∷ (negsuc 0, pos 5) ∷ (pos 5, z) ∷ (z, z) ∷ (z, pos 5) ∷ (z, negsuc 0) ∷ (pos 5, pos 1) ∷ (negsuc 0, negsuc 5) ∷ [])
    ≡ (true ∷ true ∷ true ∷ true ∷ false ∷ false ∷ false ∷ false ∷ [])
unfolding crosses
signs = refl

-- ---- a breaker opens on a line

-- areas 1 and 2 at a step; after area 1's: the switch's current and latch, and node 2's voltage
abbrev both : ℕ → ℤ → ℕ → ℕ → List Call → List Call
both k i p v rest = call 1 (Ok k) (amps 1 i ∷ parted 1 (pos p) ∷ volts 2 (pos v) ∷ []) ∷ call 2 (Ok k) [] ∷ rest

abbrev on : ℤ
on = pos (2 * 10 ^ 9)

unfoldable pub breaks : List Example
breaks =
    -- its current does not come to zero but turns at step 5: from step 6 on it is open
    runs (lines ("study 1000 8 1000000000" ∷ "VS 1 1000 1 0" ∷ "SW 1 2 1000 1 3" ∷ "LINE 2 3 400000 2000" ∷ [])) (Ok tt)
    (both 1 on 0 998 (both 2 on 0 998 (both 3 on 0 998 (both 4 on 0 998 (both 5 (negsuc (2 * 10 ^ 9 - 1)) 5 1002 (both 6 z 5 1996 (both 7 z 5 1996 (both 8 z 5 1996 []))))))))
    -- "The old behaviour remains as `SWT`."
    ∷ runs (lines ("study 1000 4 1000000000" ∷ "VS 1 1000 1 0" ∷ "SWT 1 2 1000 1 3" ∷ "LINE 2 3 400000 2000" ∷ [])) (Ok tt)
    (both 1 on 0 998 (both 2 on 0 998 (both 3 z 0 0 (both 4 z 0 0 []))))
    -- open is close + 1: "later than its closing step" is step 2, at which the current is zero; then "floating is judged by it"
    ∷ runs (lines ("study 1000 4 0" ∷ "VS 1 1000 1 0" ∷ "SW 1 2 2000 1 2" ∷ [])) (Ok tt)
    (call 1 (Ok 1) (parted 1 z ∷ []) ∷ call 1 (Ok 2) (parted 1 (pos 2) ∷ []) ∷ call 1 (Err (Floating 2)) (parted 1 (pos 2) ∷ []) ∷ [])
    ∷ runs (lines ("study 1000 4 0" ∷ "VS 1 1000 1 0" ∷ "SWT 1 2 2000 1 2" ∷ [])) (Ok tt) (call 1 (Ok 1) (parted 1 z ∷ []) ∷ call 1 (Err (Floating 2)) [] ∷ [])
    -- zero at its closing step, and of one sign after it: it never parts
    ∷ runs (lines ("study 1000 6 1000000000" ∷ "VS 1 1000 2 0" ∷ "SW 1 2 1000000 1 2" ∷ "R 2 0 1000000" ∷ [])) (Ok tt)
    (call 1 (Ok 1) (amps 1 z ∷ parted 1 z ∷ []) ∷ call 1 (Ok 2) (amps 1 (pos 500000000) ∷ parted 1 z ∷ []) ∷ call 1 (Ok 3) (amps 1 (pos 500000000) ∷ parted 1 z ∷ [])
    ∷ call 1 (Ok 4) (parted 1 z ∷ []) ∷ call 1 (Ok 5) (parted 1 z ∷ []) ∷ call 1 (Ok 6) (amps 1 (pos 500000000) ∷ parted 1 z ∷ []) ∷ [])
    -- a current of zero before open - 1 does not part it
    ∷ runs (lines ("study 1000 4 0" ∷ "VS 1 1000 3 0" ∷ "SW 1 2 1000000 1 4" ∷ "R 2 0 1000000" ∷ [])) (Ok tt)
    (call 1 (Ok 1) (amps 1 z ∷ parted 1 z ∷ []) ∷ call 1 (Ok 2) (amps 1 z ∷ parted 1 z ∷ []) ∷ call 1 (Ok 3) (amps 1 (pos 500000000) ∷ parted 1 z ∷ [])
    ∷ call 1 (Ok 4) (amps 1 (pos 500000000) ∷ parted 1 z ∷ []) ∷ [])
    -- at the last step too
    ∷ runs (lines ("study 1000 2 0" ∷ "VS 1 1000 1 0" ∷ "SW 1 2 2000 1 2" ∷ [])) (Ok tt) (call 1 (Ok 1) [] ∷ call 1 (Ok 2) (parted 1 (pos 2) ∷ []) ∷ call 1 (Err Done) (parted 1 (pos 2) ∷ []) ∷ [])
    -- SWT as SW in the text
    ∷ runs (lines ("study 1000 1 0" ∷ "SWT 1 2 2000 1" ∷ [])) (Err (Line 2 Form)) []
    ∷ runs (lines ("study 1000 1 0" ∷ "SWT 1 2 2000 3 3" ∷ [])) (Err (Line 2 Value)) []
    ∷ runs (lines ("study 1000 1 0" ∷ "SWX 1 2 2000 1 2" ∷ [])) (Err (Line 2 Form)) []
    ∷ runs (lines ("study 1000 1 0" ∷ (replicate 64 "R 1 0 1000" ++ ("SWT 1 0 1000 1 2" ∷ [])))) (Err (Line 66 Full)) []
    ∷ []

pub breaks_hold : map replay breaks ≡ breaks
unfolding computing place_of looked goes played replay tabbed lines breaks
breaks_hold = refl

-- ---- "10 also covers a set latch that is below open - 1, not above close or past the area's count, or one on another kind of branch": words 368 to 371 are
-- the rows' latches, and word 0 the count

-- closes at step 2 and may part from step 4 on; closes at step 4 and may part from step 5 on
unfoldable pub early : List ℕ
early = lines ("study 1000 9 0" ∷ "VS 1 1000 1 0" ∷ "SW 1 2 2000 2 5" ∷ "R 2 0 2000" ∷ "SWT 2 0 2000 2 5" ∷ [])

unfoldable pub late : List ℕ
late = lines ("study 1000 9 0" ∷ "VS 1 1000 1 0" ∷ "SW 1 2 2000 4 5" ∷ [])

-- an SW in area 2, row 2, that may part from step 2 on
unfoldable pub beyond : List ℕ
beyond = lines ("study 1000 9 0" ∷ "VS 1 1000 1 0" ∷ "LINE 1 2 400000 2000" ∷ "SW 2 3 2000 1 2" ∷ "R 3 0 2000" ∷ [])

unfoldable pub latch_lendings : List Lending
latch_lendings =
    lends early (in_records 0 (pos 6) ∷ in_records 369 (pos 4) ∷ []) 1 (Ok 7) ∷ lends early (in_records 0 (pos 6) ∷ in_records 369 (pos 3) ∷ []) 1 (Err State)
    ∷ lends early (in_records 0 (pos 6) ∷ in_records 369 (pos 6) ∷ []) 1 (Ok 7) ∷ lends early (in_records 0 (pos 6) ∷ in_records 369 (pos 7) ∷ []) 1 (Err State)
    ∷ lends early (in_records 0 (pos 6) ∷ in_records 369 (negsuc 4) ∷ []) 1 (Err State)
    -- not above close; and a switch that has parted is open
    ∷ lends late (in_records 0 (pos 6) ∷ in_records 369 (pos 4) ∷ []) 1 (Err State) ∷ lends late (in_records 0 (pos 6) ∷ in_records 369 (pos 5) ∷ []) 1 (Err (Floating 2))
    ∷ lends late (in_records 0 (pos 6) ∷ []) 1 (Ok 7)
    -- on a VS, an R, an SWT, on no row, and past the last section
    ∷ lends early (in_records 0 (pos 6) ∷ in_records 368 (pos 4) ∷ []) 1 (Err State) ∷ lends early (in_records 0 (pos 6) ∷ in_records 370 (pos 4) ∷ []) 1 (Err State)
    ∷ lends early (in_records 0 (pos 6) ∷ in_records 371 (pos 4) ∷ []) 1 (Err State) ∷ lends early (in_records 0 (pos 6) ∷ in_records 372 (pos 4) ∷ []) 1 (Err State)
    ∷ lends early (in_records 0 (pos 6) ∷ in_records 448 (pos 4) ∷ []) 1 (Err State)
    -- the count is that of the switch's own area
    ∷ lends beyond (in_records 0 (pos 1) ∷ in_records 1 (pos 2) ∷ in_records 370 (pos 2) ∷ []) 1 (Ok 2)
    ∷ lends beyond (in_records 0 (pos 2) ∷ in_records 1 (pos 1) ∷ in_records 370 (pos 2) ∷ []) 1 (Err State)
    ∷ []

pub latch_lendings_hold : map lent_again latch_lendings ≡ latch_lendings
unfolding computing put_on lent_again tabbed lines early late beyond latch_lendings
latch_lendings_hold = refl

-- ---- written out again
unfoldable pub switches : List ℕ
switches = lines ("study 1000 8 0" ∷ "SWT 1 2 2000 5 9" ∷ "SW 1 2 2000 5 9" ∷ [])

pub switches_saved : saved_again (saves switches [] 8192 (Ok 48) switches) ≡ saves switches [] 8192 (Ok 48) switches
unfolding computing tabbed lines put_over saved_again switches
switches_saved = refl

-- ---- an SWT, as document 01 had a switch: "Closed at steps close to open - 1."
unfoldable pub open_before : Row → ℕ → Bool
open_before r k = not (leb (closes r) k && ltb k (opens r))

pub timed_as_before : (N : Net) (recs : Words) (k i : ℕ) → is_timed (get_or N.rows i []) ≡ true → is_open N recs k i ≡ open_before (get_or N.rows i []) k
unfolding is_open holds open_before
timed_as_before N recs k i e = rw (eqb-true (kind (get_or N.rows i [])) 9 e)
