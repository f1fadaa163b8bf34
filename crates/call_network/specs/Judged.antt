-- What is judged of a lent network record: each row by its eight words after what is seen of those before, and the words that no row has.
-- Assumes nothing.
use Rattle.std.specs.Prelude.{◌+◌, ◌*◌, ◌&&◌, ◌∷◌, Result, Ok, Err}
use Rattle.std.specs.Simd.{first_chunks}
use Rattle.whole.specs.Plain.{ℕ, suc, Bool, List, [], leb, eqb, not, cond, length, take, drop, Words, z, word}
use Rattle.whole.specs.Plain.{every, up_to}
use Rattle.paper.specs.Limits as Limits
use Rattle.paper.specs.Rows.{kind, fields_of}
use Rattle.paper.specs.Network.{is_network}
use Rattle.paper.specs.declared.Unfit.{Unfit}
use Rattle.paper.specs.declared.Unfit.TheVariants.{Network, Store}
use Rattle.text_faults.specs.declared.Seen.{Seen}
use Rattle.text_faults.specs.Seen.{seen_fault}

-- the eight words of row i
abbrev pub words_of : Words → ℕ → Words
words_of net i = take 8 (drop (8 + 8 * i) net)

-- the rows, each its eight words
abbrev pub rows_in : Words → ℕ → List Words
rows_in net rows = take rows (first_chunks 8 127 (drop 8 net))

-- the study's row, as its eight words would be
abbrev pub study_words : Words → Words
study_words net = z ∷ word net 0 ∷ word net 1 ∷ word net 2 ∷ z ∷ z ∷ z ∷ z ∷ []

-- "unused ones 0": the words after those of its kind
unfoldable pub spare_zero : Words → Bool
spare_zero w = every (up_to 0) (drop (suc (length (fields_of (kind w)))) w)

abbrev pub known_row : Words → Bool
known_row w = leb 1 (kind w) && leb (kind w) 9

-- a row that the reader could have written after those that are seen
unfoldable pub good_row : Seen → Words → Bool
good_row s w = known_row w && spare_zero w && eqb (seen_fault s w) 0

-- the head's last four words, and those after the last row
unfoldable pub blank : Words → ℕ → Bool
blank net rows = every (up_to 0) (take 4 (drop 4 net)) && every (up_to 0) (drop (8 + 8 * rows) net)

-- refusal 9 of its length, 8, or none
abbrev pub admitted : Words → Result (Unit {0}) Unfit
admitted net = cond (not (eqb (length net) Limits.network_words)) (Err Store) (cond (not (is_network net)) (Err Network) (Ok tt))
