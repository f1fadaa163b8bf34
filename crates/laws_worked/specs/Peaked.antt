-- K3: peaks while running, worked. Assumes nothing.
use Rattle.std.specs.Prelude.{Ok, Err}
use Rattle.std.specs.Prelude.{◌≡◌, ◌∷◌}
use Rattle.whole.specs.Plain.{ℕ, refl, List, [], map, pos, negsuc, replicate, set, Words, z}
use Rattle.paper.specs.declared.Refusal.TheVariants.{State, Wait}
use Rattle.paper.specs.Replies.{Looking, told_of}
use Rattle.paper.specs.declared.Unlooked.TheVariants as Look
use Rattle.paper.specs.Limits as Limits
use Rattle.paper.specs.Reading.{read_of}
use Rattle.paper.specs.Resetting.{fresh}
use Rattle.paper.specs.Looking.{look_of, looking_number}
use Rattle.paper.specs.Computing.{computing}
use Rattle.paper.proofs.Examples.{Example, Call, runs, call, volts, peaks, lines, place_of, looked, goes, played, replay, tabbed}
use Rattle.paper.proofs.Cases.{Lending, lends, in_records, put_on, lent_again, plain, wired}

-- ---- peaks: "They equal the maximum over all accepted steps of that node's area and its first place"

-- areas 1 and 2 at a step, and the peak of node 2 after the second
abbrev both : ℕ → ℕ → ℕ → List Call → List Call
both k p s rest = call 1 (Ok k) (peaks 1 (pos 1000) (pos 1) ∷ []) ∷ call 2 (Ok k) (peaks 2 (pos p) (pos s) ∷ []) ∷ rest

-- areas 1 to 3 at a step
abbrev all : ℕ → List Call → List Call
all k rest = call 1 (Ok k) [] ∷ call 2 (Ok k) [] ∷ call 3 (Ok k) [] ∷ rest

unfoldable pub peak_cases : List Example
peak_cases =
    -- E5: node 2 is 2000 from step 3 to 6 and 0 after them
    runs (lines ("study 1000 8 0" ∷ "VS 1 1000 1 0" ∷ "LINE 1 2 400000 2000" ∷ [])) (Ok tt)
    (both 1 0 1 (both 2 0 1 (both 3 2000 3 (both 4 2000 3 (both 5 2000 3 (both 6 2000 3 (both 7 2000 3 (both 8 2000 3 []))))))))
    -- a magnitude has no sign, and a node at rest has its peak of 0 at step 1
    ∷ runs (lines ("study 1000 4 0" ∷ "VS 1 -300 2 3" ∷ "R 1 0 1000000" ∷ [])) (Ok tt)
    (call 1 (Ok 1) (peaks 1 z (pos 1) ∷ []) ∷ call 1 (Ok 2) (peaks 1 z (pos 1) ∷ [])
    ∷ call 1 (Ok 3) (peaks 1 (pos 100) (pos 3) ∷ []) ∷ call 1 (Ok 4) (peaks 1 (pos 200) (pos 4) ∷ []) ∷ [])
    -- a peak stays where the voltage has fallen again, and one area's step leaves the others' peaks
    ∷ runs (lines ("study 1000 6 0" ∷ "VS 1 1000 1 0" ∷ "LINE 1 2 400000 1000" ∷ "LINE 2 3 400000 1000" ∷ [])) (Ok tt)
    (all 1 (all 2 (all 3 (all 4 (all 5 (call 1 (Ok 6) [] ∷ call 2 (Ok 6) (volts 2 (pos 1000) ∷ []) ∷ call 3 (Ok 6)
    (peaks 1 (pos 1000) (pos 1) ∷ peaks 2 (pos 2000) (pos 4) ∷ peaks 3 (pos 2000) (pos 3) ∷ []) ∷ []))))))
    -- "before any step both are 0", and a refused step changes none
    ∷ runs (lines ("study 1000 8 0" ∷ "VS 1 1000 1 0" ∷ "LINE 1 2 400000 2000" ∷ [])) (Ok tt)
    (call 1 (Ok 1) (peaks 2 z z ∷ []) ∷ call 1 (Ok 2) [] ∷ call 1 (Err (Wait 1)) (peaks 1 (pos 1000) (pos 1) ∷ peaks 2 z z ∷ []) ∷ [])
    ∷ []

pub peaks_hold : map replay peak_cases ≡ peak_cases
unfolding computing place_of looked goes played replay tabbed lines peak_cases
peaks_hold = refl

-- ---- "10 also covers a peak out of range, one below the voltage's magnitude, or a step past the count": word 32 is node 1's voltage, 304 its peak, 336 the
-- peak's step, and word 0 its area's count
unfoldable pub peak_lendings : List Lending
peak_lendings =
    lends plain (in_records 304 (pos 20000000) ∷ []) 1 (Ok 1) ∷ lends plain (in_records 304 (pos 20000001) ∷ []) 1 (Err State)
    ∷ lends plain (in_records 304 (negsuc 0) ∷ []) 1 (Err State)
    ∷ lends plain (in_records 32 (negsuc 4) ∷ in_records 304 (pos 5) ∷ []) 1 (Ok 1)
    ∷ lends plain (in_records 32 (negsuc 4) ∷ in_records 304 (pos 4) ∷ []) 1 (Err State) ∷ lends plain (in_records 32 (pos 5) ∷ in_records 304 (pos 4) ∷ []) 1 (Err State)
    ∷ lends plain (in_records 0 (pos 8) ∷ in_records 336 (pos 8) ∷ []) 1 (Ok 9) ∷ lends plain (in_records 0 (pos 8) ∷ in_records 336 (pos 9) ∷ []) 1 (Err State)
    ∷ lends plain (in_records 0 (pos 8) ∷ in_records 336 (negsuc 0) ∷ []) 1 (Err State)
    -- a step of 0 beside a count passes
    ∷ lends plain (in_records 0 (pos 8) ∷ in_records 304 (pos 7) ∷ []) 1 (Ok 9)
    -- the count is that of the node's area
    ∷ lends wired (in_records 1 (pos 2) ∷ in_records 337 (pos 2) ∷ []) 1 (Ok 1) ∷ lends wired (in_records 1 (pos 2) ∷ in_records 336 (pos 2) ∷ []) 1 (Err State)
    -- a peak and a step of no node, and the words past the last section
    ∷ lends plain (in_records 305 (pos 1) ∷ []) 1 (Err State) ∷ lends plain (in_records 337 (pos 1) ∷ []) 1 (Err State)
    ∷ lends plain (in_records 448 (pos 1) ∷ []) 1 (Err State) ∷ lends plain (in_records 1023 (pos 1) ∷ []) 1 (Err State)
    ∷ []

pub peak_lendings_hold : map lent_again peak_lendings ≡ peak_lendings
unfolding computing put_on lent_again tabbed lines plain wired peak_lendings
peak_lendings_hold = refl

-- ---- asking by node number: "before any step both are 0"; 9, 8, 10 and 2 in turn
unfoldable pub asked_of : List ℕ → Words → ℕ → Looking
asked_of text recs n = look_of (read_of text (replicate Limits.network_words z)).network recs n

pub asked_hold : map (asked_of plain fresh.records) (0 ∷ 1 ∷ 2 ∷ []) ≡ ((Err Look.Node) ∷ (Ok (told_of z 0 0)) ∷ (Err Look.Node) ∷ [])
unfolding computing asked_of tabbed lines plain
asked_hold = refl

-- node 2's voltage, peak and the peak's step are three numbers apart, after two steps of its area: each is told as itself, and of node 2 alone
unfoldable pub kept : Words
kept = set (set (set (set fresh.records 1 (pos 2)) 33 (negsuc 4)) 305 (pos 7)) 337 (pos 1)

pub asked_told : map (asked_of wired kept) (1 ∷ 2 ∷ 3 ∷ []) ≡ (Ok (told_of z 0 0) ∷ (Ok (told_of (negsuc 4) 7 1)) ∷ (Err Look.Node) ∷ [])
unfolding computing asked_of tabbed lines wired kept
asked_told = refl

-- each for a number that no node has: 9 before 8, 8, 10, 2
unfoldable pub refusals : List Looking
refusals = look_of fresh.records (replicate 512 z) 2 ∷ asked_of plain (replicate 512 z) 2 ∷ look_of fresh.records fresh.records 2 ∷ asked_of plain (replicate 1024 (pos 1)) 2
    ∷ asked_of plain fresh.records 2 ∷ []

pub asked_refused : map looking_number refusals ≡ (9 ∷ 9 ∷ 8 ∷ 10 ∷ 2 ∷ [])
unfolding computing asked_of tabbed lines plain refusals
asked_refused = refl
