-- The network record: word 0 the step length, 1 the steps, 2 the limit, 3 the number of rows, 4 to 7 zero, and from word 8 on eight words for
-- each row, sources among the branches, in table order; the rest zero. Nothing derived is kept. Assumes nothing.
use Rattle.std.specs.Prelude.{◌&&◌, ◌∷◌, ◌++◌}
use Rattle.whole.specs.Plain.{ℕ, zero, suc, Bool, true, bool_beq, List, [], tail, leb, eqb, ℤ}
use Rattle.whole.specs.Plain.{pos, get_or, length, take, drop, Words, z, word, nat, between, filled, empty, fold}
use Rattle.whole.specs.Plain.{same_words}
use Rattle.paper.specs.Limits as Limits
use Rattle.paper.specs.Rows.{Row, kind, no_kind, is_study, fields_of}
use Rattle.paper.specs.Faults.{row_fault}

-- the study's row and then the others: what the text says, and the record
abbrev pub Table : Type 0
Table = List Row

abbrev pub row_words : ℕ
row_words = 8

abbrev pub head_words : ℕ
head_words = 8

-- ---- a table as a record

unfoldable pub laid : List Row → Words
laid [] = []
laid (r ∷ rs) = filled row_words z r ++ laid rs

-- "An accepted reading writes all 1,024 words, unused ones 0"
unfoldable pub network_of : Table → Words
network_of t = filled Limits.network_words z (filled head_words z (tail (get_or t 0 []) ++ (pos (length (tail t)) ∷ [])) ++ laid (tail t))

-- ---- a record as a table

-- the words of a row that its kind has
unfoldable pub row_of_words : Words → Row
row_of_words w = take (suc (length (fields_of (kind w)))) w

unfoldable pub rows_of : ℕ → Words → List Row
rows_of zero w = []
rows_of (suc n) w = row_of_words (take row_words w) ∷ rows_of n (drop row_words w)

abbrev pub count_of_rows : Words → ℤ
count_of_rows net = word net 3

unfoldable pub table_of : Words → Table
table_of net = (z ∷ take 3 net) ∷ rows_of (nat (count_of_rows net)) (drop head_words net)

-- ---- 8 NETWORK: "lent network record not one the reader could write"

-- a row that the reader takes after those seen
unfoldable pub sound : Table → Row → Bool
sound seen r = leb (suc (kind r)) no_kind && bool_beq (empty seen) (is_study r) && eqb (row_fault seen r) 0

pub record Replay : Type 0 where
  pub ok : Bool
  pub seen : Table

unfoldable pub replayed : Replay → Row → Replay
replayed s r = record { ok = s.ok && sound s.seen r; seen = s.seen ++ (r ∷ []) }

unfoldable pub passes : Table → Bool
passes t = (fold replayed (record { ok = true; seen = [] }) t).ok

unfoldable pub is_network : Words → Bool
is_network net =
    between z (pos Limits.row_end) (count_of_rows net)
    && passes (table_of net)
    && same_words net (network_of (table_of net))
