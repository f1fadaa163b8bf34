-- Worked examples of the requests of document 02, in the form of E1 to E10: a table for each request and one theorem over it. Assumes nothing.
use Rattle.std.specs.Prelude.{Ok, Err}
use Rattle.std.specs.Prelude.{◌≡◌, ◌∷◌}
use Rattle.whole.specs.Plain.{ℕ, refl, List, [], map, ℤ, pos, negsuc, take, set, replicate, Words, z}
use Rattle.paper.specs.declared.Refusal.TheVariants.{Floating}
use Rattle.paper.specs.declared.Unfit.TheVariants.{Network, Store}
use Rattle.paper.specs.Replies.{Writing}
use Rattle.paper.specs.Limits as Limits
use Rattle.paper.specs.Answers.{writing_bytes}
use Rattle.paper.specs.Reading.{read_of}
use Rattle.paper.specs.Writing.{Written-out, write_of}
use Rattle.paper.specs.Computing.{computing}
use Rattle.paper.proofs.Examples.{Example, runs, call, volts, lines, place_of, looked, goes, played, replay, tabbed}

-- ---- K4: "The answer, and the node it names, stay as they are."

unfoldable pub searched : List Example
searched =
    -- E7
    runs (lines ("study 1000 8 0" ∷ "VS 1 1000 1 0" ∷ "SW 1 2 2000 5 1000001" ∷ [])) (Ok tt) (call 1 (Err (Floating 2)) [] ∷ [])
    -- an area without a path, and one whose path ends at ground
    ∷ runs (lines ("study 1000 1 0" ∷ "VS 1 1000 1 0" ∷ "R 2 3 1000" ∷ [])) (Ok tt) (call 1 (Ok 1) [] ∷ call 2 (Err (Floating 2)) [] ∷ [])
    ∷ runs (lines ("study 1000 1 0" ∷ "VS 1 1000 1 0" ∷ "R 2 3 1000" ∷ "R 3 4 1000" ∷ "C 4 0 1000" ∷ "R 5 6 1000" ∷ [])) (Ok tt)
    (call 2 (Ok 1) (volts 2 z ∷ []) ∷ call 3 (Err (Floating 5)) [] ∷ [])
    -- a chain, whole, and parted by an open switch
    ∷ runs
    (lines
    ("study 1000 1 0" ∷ "VS 1 1000 1 0" ∷ "R 1 2 1000" ∷ "R 2 3 1000" ∷ "R 3 4 1000" ∷ "R 4 5 1000" ∷ "R 5 6 1000" ∷ "R 6 7 1000" ∷ "R 7 8 1000"
    ∷ "R 8 9 1000" ∷ "R 9 10 1000" ∷ []))
    (Ok tt) (call 1 (Ok 1) (volts 10 (pos 1000) ∷ []) ∷ [])
    ∷ runs
    (lines
    ("study 1000 1 0" ∷ "VS 1 1000 1 0" ∷ "R 1 2 1000" ∷ "R 2 3 1000" ∷ "R 3 4 1000" ∷ "R 4 5 1000" ∷ "R 5 6 1000" ∷ "R 6 7 1000" ∷ "R 7 8 1000"
    ∷ "SW 8 9 1000 2 3" ∷ "R 9 10 1000" ∷ "R 10 11 1000" ∷ "R 11 12 1000" ∷ "R 12 13 1000" ∷ "R 13 14 1000" ∷ "R 14 15 1000" ∷ "R 15 16 1000"
    ∷ "R 16 17 1000" ∷ "R 17 18 1000" ∷ "R 18 19 1000" ∷ "R 19 20 1000" ∷ "R 20 21 1000" ∷ "R 21 22 1000" ∷ "R 22 23 1000" ∷ "R 23 24 1000"
    ∷ "R 24 25 1000" ∷ "R 25 26 1000" ∷ "R 26 27 1000" ∷ "R 27 28 1000" ∷ "R 28 29 1000" ∷ "R 29 30 1000" ∷ "R 30 31 1000" ∷ "R 31 32 1000" ∷ []))
    (Ok tt) (call 1 (Err (Floating 9)) [] ∷ [])
    ∷ []

pub searched_hold : map replay searched ≡ searched
unfolding computing place_of looked goes played replay tabbed lines searched
searched_hold = refl

-- ---- K1: "from an accepted network record to lines in table order"

-- a text read, words put over its record, an area of so many bytes, and what is answered and written there
pub data Saving : Type 0 where
  saves : List ℕ → List (ℕ × ℤ) → ℕ → Writing → List ℕ → Saving

unfoldable pub put_over : Words → List (ℕ × ℤ) → Words
put_over net [] = net
put_over net (p ∷ ps) = put_over (set net p.0 p.1) ps

abbrev pub as_written : List ℕ → List (ℕ × ℤ) → ℕ → Written-out → Saving
as_written text ps area r = saves text ps area r.answer (take (writing_bytes r.answer) r.out)

unfoldable pub saved_again : Saving → Saving
saved_again (saves text ps area x bytes) =
    as_written text ps area (write_of (put_over (read_of text (replicate Limits.network_words z)).network ps) (replicate area 7))

unfoldable pub e1 : List ℕ
e1 = lines ("study 1000 1 0" ∷ "VS 1 1000 1 0" ∷ "R 1 2 2000" ∷ "R 2 0 2000" ∷ [])

unfoldable pub mixed : List ℕ
mixed = lines ("study 1000 8 0" ∷ "R 1 2 2000" ∷ "VS 1 -1000 1 0" ∷ "LINE 2 3 400000 2000" ∷ "IS 3 5 1 0" ∷ [])

unfoldable pub savings : List Saving
savings =
    -- E1's four lines
    saves e1 [] 8192 (Ok 51) e1
    -- sources stay among the branches, and a peak keeps its minus
    ∷ saves mixed [] 8192 (Ok 73) mixed
    ∷ saves (lines ("study 1 1 0" ∷ [])) [] 8192 (Ok 12) (lines ("study 1 1 0" ∷ []))
    -- a resistor drawn anew, in a longer area
    ∷ saves e1 ((19, pos 3000) ∷ []) 9000 (Ok 51) (lines ("study 1000 1 0" ∷ "VS 1 1000 1 0" ∷ "R 1 2 3000" ∷ "R 2 0 2000" ∷ []))
    -- "9 for an output area under 8,192 bytes", "then 8"
    ∷ saves e1 [] 8191 (Err Store) []
    ∷ saves e1 ((19, pos 999) ∷ []) 8191 (Err Store) []
    ∷ saves e1 ((19, pos 999) ∷ []) 8192 (Err Network) []
    ∷ saves e1 ((19, negsuc 1999) ∷ []) 8192 (Err Network) []
    -- a row count that is one short of the rows
    ∷ saves e1 ((3, pos 2) ∷ []) 8192 (Err Network) []
    ∷ []
