-- Reading a study text into a lent network record. "Reading: 9, 7, then the first faulty line, in it 1 to 6 in turn". Assumes nothing.
use Rattle.std.specs.Prelude.{Ok, Err}
use Rattle.std.specs.Prelude.{◌||◌, ◌∷◌, ◌++◌}
use Rattle.whole.specs.Plain.{ℕ, zero, suc, cond, not, List, [], ltb, eqb, length, Words, empty}
use Rattle.whole.specs.Plain.{lead, final, fold}
use Rattle.paper.specs.Replies.{Reading}
use Rattle.paper.specs.declared.Unread.TheVariants.{Line, Size, Store}
use Rattle.paper.specs.Limits as Limits
use Rattle.paper.specs.Rows.{Row}
use Rattle.paper.specs.Faulted.{fault_from}
use Rattle.paper.specs.Faults.{row_fault}
use Rattle.paper.specs.Text.{LF, split, formed, row_of}
use Rattle.paper.specs.Network.{Table, network_of}

-- the rows read so far; or the first faulty line, and its fault
pub data Lines : Type 0 where
  good : Table → Lines
  bad : ℕ → ℕ → Lines

-- lines are counted from 1
abbrev pub line_number : Table → ℕ
line_number seen = suc (length seen)

-- the line's fault from 1 to 6, or 0
unfoldable pub fault_of : Table → List ℕ → ℕ
fault_of seen line = cond (formed (empty seen) line) (row_fault seen (row_of line)) 1

abbrev pub taken : Table → Row → ℕ → Lines
taken seen r zero = good (seen ++ (r ∷ []))
taken seen r (suc f) = bad (line_number seen) (suc f)

unfoldable pub line_read : Lines → List ℕ → Lines
line_read (good seen) line = taken seen (row_of line) (fault_of seen line)
line_read (bad l f) line = bad l f

-- "Lines end in LF, the last one too"; "empty text (line 1)"
unfoldable pub closed : List ℕ → Lines → Lines
closed rest (good seen) = cond (not (empty rest) || empty seen) (bad (line_number seen) 1) (good seen)
closed rest (bad l f) = bad l f

unfoldable pub lines_of : List ℕ → Lines
lines_of text = let pieces = split LF text in closed (final [] pieces) (fold line_read (good []) (lead pieces))

-- ---- the answer

-- "the answer carries the line number"
unfoldable pub faulty : ℕ → ℕ → Reading
faulty l f = Err (Line l (fault_from f))

pub record Read-out : Type 0 where
  pub answer : Reading
  pub network : Words

abbrev pub read_out : Reading → Words → Read-out
read_out a n = record { answer = a; network = n }

-- "Every refusal leaves all lent memory unchanged."
abbrev pub read_end : Words → Lines → Read-out
read_end net (good t) = read_out (Ok tt) (network_of t)
read_end net (bad l f) = read_out (faulty l f) net

unfoldable pub read_of : List ℕ → Words → Read-out
read_of text net =
    cond (not (eqb (length net) Limits.network_words)) (read_out (Err Store) net)
    (cond (ltb Limits.text_end (length text)) (read_out (Err Size) net)
    (read_end net (lines_of text)))
