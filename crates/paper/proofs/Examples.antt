-- E1 to E10, as one table with one theorem over it: played over, the table is as it stands. "Step length is 1000 ns and source
-- `VS 1 1000 1 0` throughout." Assumes nothing.
use Rattle.std.specs.Prelude.{Ok, Err}
use Rattle.std.specs.Prelude.{◌-◌, ◌*◌, ◌^◌, ◌≡◌, ◌∷◌, ◌++◌}
use Rattle.whole.specs.Plain.{ℕ, refl, cond, List, [], map, eqb, ltb, ℤ, pos}
use Rattle.whole.specs.Plain.{negsuc, get_or, replicate, length, Words, z, word, count, numbers}
use Prim.Native.String.{String}
use Rattle.paper.specs.Replies.{Reading, Advance}
use Rattle.paper.specs.declared.Fault.TheVariants.{Travel}
use Rattle.paper.specs.declared.Unread.TheVariants.{Line}
use Rattle.paper.specs.declared.Refusal.TheVariants.{Wait, Floating, Unbalanced, History}
use Rattle.paper.specs.Limits as Limits
use Rattle.paper.specs.Rows.{bytes}
use Rattle.paper.specs.Text.{LF, TAB}
use Rattle.paper.specs.Conductance.{conductance}
use Rattle.paper.specs.Network.{table_of}
use Rattle.paper.specs.Areas.{Net, net_of, branch_number, step}
use Rattle.paper.specs.Records.{volt_at, current_at, peak_at, peak_step_at, latch_at}
use Rattle.paper.specs.Reading.{read_of}
use Rattle.paper.specs.Advance.{Memory, Advanced, advance_of}
use Rattle.paper.specs.Resetting.{fresh}
use Rattle.paper.specs.Listing.{listing}
use Rattle.paper.specs.Computing.{computing}

-- ---- the form of the table

-- what is looked at after a call: a node's voltage, a branch's current (its from side), a branch's conductance, a node's peak and its step, a branch's latch
pub data Fact : Type 0 where
  volts : ℕ → ℤ → Fact
  amps : ℕ → ℤ → Fact
  siemens : ℕ → ℕ → Fact
  peaks : ℕ → ℤ → ℤ → Fact
  parted : ℕ → ℤ → Fact

-- an advance of an area, its answer, and what is then so
pub record Call : Type 0 where
  pub area : ℕ
  pub says : Advance
  pub shows : List Fact

abbrev pub call : ℕ → Advance → List Fact → Call
call a x fs = record { area = a; says = x; shows = fs }

-- a text, the reader's answer, and calls from a reset; or a text and its whole listing
pub data Example : Type 0 where
  runs : List ℕ → Reading → List Call → Example
  lists : List ℕ → List ℕ → Example

-- ---- playing it

-- where a branch's row stands, from 0
unfoldable pub place_of : Net → ℕ → ℕ
place_of N b = count (λ i. ltb (branch_number N i) b) (numbers 1 (length N.rows))

unfoldable pub looked : Net → Words → Fact → Fact
looked N recs (volts n x) = volts n (word recs (volt_at N n))
looked N recs (amps b x) = amps b (word recs (current_at (place_of N b)))
looked N recs (siemens b g) = siemens b (conductance (step N) (get_or N.rows (place_of N b) []))
looked N recs (peaks n p s) = peaks n (word recs (peak_at N n)) (word recs (peak_step_at N n))
looked N recs (parted b p) = parted b (word recs (latch_at (place_of N b)))

-- a call as it really goes, and then the rest
unfoldable pub goes : Net → Call → (Memory → List Call) → Advanced → List Call
goes N c rest r = call c.area r.answer (map (looked N r.after.records) c.shows) ∷ rest r.after

-- each call, one after the other
unfoldable pub played : Words → Net → List Call → Memory → List Call
played net N [] m = []
played net N (c ∷ cs) m = goes N c (played net N cs) (advance_of net c.area m)

unfoldable pub replay : Example → Example
replay (runs text answer calls) =
    let r = read_of text (replicate Limits.network_words z) in
    runs text r.answer (played r.network (net_of (table_of r.network)) calls fresh)
replay (lists text out) = lists text (listing text)

-- ---- the table

-- lines with a space for each tab
unfoldable pub tabbed : List ℕ → List ℕ
tabbed [] = LF ∷ []
tabbed (b ∷ t) = cond (eqb b 32) TAB b ∷ tabbed t

unfoldable pub lines : List String → List ℕ
lines [] = []
lines (s ∷ ss) = tabbed (bytes s) ++ lines ss

-- E5, in turn: both areas, and node 2 after the second
abbrev both : ℕ → ℕ → List Call → List Call
both k v rest = call 1 (Ok k) [] ∷ call 2 (Ok k) (volts 2 (pos v) ∷ []) ∷ rest

unfoldable pub table : List Example
table =
    -- "Whole for E1"
    lists
    (lines ("study 1000 1 0" ∷ "VS 1 1000 1 0" ∷ "R 1 2 2000" ∷ "R 2 0 2000" ∷ []))
    (lines ("v 1 1 1000" ∷ "v 1 2 500" ∷ "i 1 1 250000000000" ∷ "i 1 2 250000000000" ∷ "done 1" ∷ []))
    -- "E2: R 1-2 of 1000, R 2-0 of 2000: voltage 667, imbalance 500,000,000; that limit accepts, one less gives 16."
    ∷ runs (lines ("study 1000 1 500000000" ∷ "VS 1 1000 1 0" ∷ "R 1 2 1000" ∷ "R 2 0 2000" ∷ [])) (Ok tt)
    (call 1 (Ok 1) (volts 2 (pos 667) ∷ []) ∷ [])
    ∷ runs (lines ("study 1000 1 499999999" ∷ "VS 1 1000 1 0" ∷ "R 1 2 1000" ∷ "R 2 0 2000" ∷ [])) (Ok tt)
    (call 1 (Err (Unbalanced 2)) (volts 2 z ∷ []) ∷ [])
    -- "E3: L 1-0 of 1,000,000: currents 5·10^8, then 15·10^8."
    ∷ runs (lines ("study 1000 2 0" ∷ "VS 1 1000 1 0" ∷ "L 1 0 1000000" ∷ [])) (Ok tt)
    (call 1 (Ok 1) (amps 1 (pos (5 * 10 ^ 8)) ∷ []) ∷ call 1 (Ok 2) (amps 1 (pos (15 * 10 ^ 8)) ∷ []) ∷ [])
    -- "E4: C 1-0 of 1,000: 2·10^9, -2·10^9, 2·10^9."
    ∷ runs (lines ("study 1000 3 0" ∷ "VS 1 1000 1 0" ∷ "C 1 0 1000" ∷ [])) (Ok tt)
    (call 1 (Ok 1) (amps 1 (pos (2 * 10 ^ 9)) ∷ [])
    ∷ call 1 (Ok 2) (amps 1 (negsuc (2 * 10 ^ 9 - 1)) ∷ [])
    ∷ call 1 (Ok 3) (amps 1 (pos (2 * 10 ^ 9)) ∷ []) ∷ [])
    -- "E5: LINE 1-2 of 400,000, travel 2,000, limit 0: node 2 is 0, 0, 2000, 2000, 2000, 2000, 0, 0."
    ∷ runs (lines ("study 1000 8 0" ∷ "VS 1 1000 1 0" ∷ "LINE 1 2 400000 2000" ∷ [])) (Ok tt)
    (both 1 0 (both 2 0 (both 3 2000 (both 4 2000 (both 5 2000 (both 6 2000 (both 7 0 (both 8 0 []))))))))
    -- "E6: E5's area 1 alone: two advances, then 13."
    ∷ runs (lines ("study 1000 8 0" ∷ "VS 1 1000 1 0" ∷ "LINE 1 2 400000 2000" ∷ [])) (Ok tt)
    (call 1 (Ok 1) [] ∷ call 1 (Ok 2) [] ∷ call 1 (Err (Wait 1)) [] ∷ [])
    -- "E7: only SW 1-2, closed from step 5: 14 at node 2, step 1."
    ∷ runs (lines ("study 1000 8 0" ∷ "VS 1 1000 1 0" ∷ "SW 1 2 2000 5 1000001" ∷ [])) (Ok tt)
    (call 1 (Err (Floating 2)) [] ∷ [])
    -- "E8: E7 with C 2-0 of 1,000: step 1 is accepted, node 2 is 0."
    ∷ runs (lines ("study 1000 8 0" ∷ "VS 1 1000 1 0" ∷ "SW 1 2 2000 5 1000001" ∷ "C 2 0 1000" ∷ [])) (Ok tt)
    (call 1 (Ok 1) (volts 2 z ∷ []) ∷ [])
    -- "E9: travel 2,500 on E5", which "is accepted" since travel times may lie between steps; 4 "now means travel shorter than a step"
    ∷ lists (lines ("study 1000 8 0" ∷ "VS 1 1000 1 0" ∷ "LINE 1 2 400000 2500" ∷ []))
    (lines ("v 1 1 1000" ∷ "v 1 2 0" ∷ "i 1 1 2500000000 0" ∷
    "v 2 1 1000" ∷ "v 2 2 0" ∷ "i 2 1 2500000000 0" ∷
    "v 3 1 1000" ∷ "v 3 2 1000" ∷ "i 3 1 2500000000 0" ∷
    "v 4 1 1000" ∷ "v 4 2 2000" ∷ "i 4 1 2500000000 0" ∷
    "v 5 1 1000" ∷ "v 5 2 2000" ∷ "i 5 1 1250000000 0" ∷
    "v 6 1 1000" ∷ "v 6 2 2000" ∷ "i 6 1 -1250000000 0" ∷
    "v 7 1 1000" ∷ "v 7 2 1750" ∷ "i 7 1 -2500000000 0" ∷
    "v 8 1 1000" ∷ "v 8 2 1000" ∷ "i 8 1 -2500000000 0" ∷
    "done 8" ∷ []))
    ∷ runs (lines ("study 1000 8 0" ∷ "VS 1 1000 1 0" ∷ "LINE 1 2 400000 999" ∷ [])) (Err (Line 3 Travel)) []
    -- "E10: E3's VS with peak 20,000,000 and L of 500: g is 10^9; steps 1 and 2 pass, step 3 gives 17."
    ∷ runs (lines ("study 1000 5 0" ∷ "VS 1 20000000 1 0" ∷ "L 1 0 500" ∷ [])) (Ok tt)
    (call 1 (Ok 1) (siemens 1 (10 ^ 9) ∷ []) ∷ call 1 (Ok 2) [] ∷ call 1 (Err (History 1)) [] ∷ [])
    ∷ []

pub examples : map replay table ≡ table
unfolding computing place_of looked goes played replay tabbed lines table
examples = refl
