-- The lines of a text, one after the other. Assumes nothing.
use Rattle.std.specs.Prelude.{◌≡◌, ◌&&◌, ◌∷◌}
use Rattle.whole.specs.Plain.{ℕ, suc, refl, ap, Bool, true, false, not, cond, bool_beq, and-false, List, []}
use Rattle.whole.specs.Plain.{tail, eqb, length, drop, empty, lead, final, fold}
use Rattle.whole.specs.Folds.{and_left, and_right}
use Rattle.paper.specs.Rows.{no_kind, fields_of}
use Rattle.paper.specs.Faults.{row_fault}
use Rattle.paper.specs.Text.{LF, TAB, split, cut, all_spelt, line_kind, formed, row_of}
use Rattle.paper.specs.Network.{Table}
use Rattle.paper.specs.Reading.{Lines, good, bad, line_number, fault_of, taken, line_read, closed, lines_of}
use Rattle.text_line.specs.Parts.{ended, line_of, split_ended, split_open}

-- what is left of a text, read after what has been
unfoldable pub lines_from : Lines → List ℕ → Lines
lines_from ls s = closed (final [] (split LF s)) (fold line_read ls (lead (split LF s)))

pub from_start : (s : List ℕ) → lines_from (good []) s ≡ lines_of s
unfolding lines_from lines_of
from_start s = refl

pub from_end : (ls : Lines) → lines_from ls [] ≡ closed [] ls
unfolding lines_from split final lead fold
from_end ls = refl

-- a text has a first piece
pieces : (a : List ℕ) (s : List ℕ) (ls : Lines)
    → closed (final [] (a ∷ split LF s)) (fold line_read ls (lead (a ∷ split LF s))) ≡ closed (final [] (split LF s)) (fold line_read (line_read ls a) (lead (split LF s)))
unfolding split final lead fold
pieces a [] ls = refl
pieces a (b ∷ t) ls = by_test (eqb b LF) (split LF t)
  where
    by_test : (x : Bool) (ps : List (List ℕ))
        → closed (final [] (a ∷ cut x b ps)) (fold line_read ls (lead (a ∷ cut x b ps))) ≡ closed (final [] (cut x b ps)) (fold line_read (line_read ls a) (lead (cut x b ps)))
    by_test true ps = refl
    by_test false [] = refl
    by_test false (p ∷ ps) = refl

pub from_line : (ls : Lines) (s : List ℕ) → ended s ≡ true → lines_from ls s ≡ lines_from (line_read ls (line_of s)) (drop (suc (length (line_of s))) s)
unfolding lines_from
from_line ls s e = rw (split_ended s e) (pieces (line_of s) (drop (suc (length (line_of s))) s) ls)

-- a fault is the text's
bad_fold : (l f : ℕ) (ps : List (List ℕ)) → fold line_read (bad l f) ps ≡ bad l f
unfolding fold line_read
bad_fold l f [] = refl
bad_fold l f (p ∷ ps) = bad_fold l f ps

pub from_bad : (l f : ℕ) (s : List ℕ) → lines_from (bad l f) s ≡ bad l f
unfolding lines_from closed
from_bad l f s = rw (bad_fold l f (lead (split LF s)))

-- "Lines end in LF, the last one too"
pub from_open : (t : Table) (b : ℕ) (s : List ℕ) → ended (b ∷ s) ≡ false → lines_from (good t) (b ∷ s) ≡ bad (line_number t) 1
unfolding lines_from closed final lead fold
from_open t b s e = rw (split_open (b ∷ s) e)

-- ---- one line

abbrev pub spelled : List ℕ → Bool
spelled line = not (eqb (line_kind line) no_kind) && all_spelt (fields_of (line_kind line)) (tail (split TAB line))

no_form : (a b c : Bool) → (a && c) ≡ false → ((a && b) && c) ≡ false
no_form true true c e = e
no_form true false c e = refl
no_form false b c e = refl

module _ (t : Table) (line : List ℕ) where
  pub line_form : spelled line ≡ false → line_read (good t) line ≡ bad (line_number t) 1
  unfolding line_read fault_of formed
  line_form e = ap (λ (x : Bool). taken t (row_of line) (cond x (row_fault t (row_of line)) 1)) (no_form (not (eqb (line_kind line) no_kind)) (bool_beq (empty t) (eqb (line_kind line) 0)) (all_spelt (fields_of (line_kind line)) (tail (split TAB line))) e)

  pub line_place : spelled line ≡ true → bool_beq (empty t) (eqb (line_kind line) 0) ≡ false → line_read (good t) line ≡ bad (line_number t) 1
  unfolding line_read fault_of formed
  line_place e f = rw (f, and-false (not (eqb (line_kind line) no_kind)))

  pub line_fault : spelled line ≡ true → bool_beq (empty t) (eqb (line_kind line) 0) ≡ true → line_read (good t) line ≡ taken t (row_of line) (row_fault t (row_of line))
  unfolding line_read fault_of formed
  line_fault e f = let k = not (eqb (line_kind line) no_kind) in let s = all_spelt (fields_of (line_kind line)) (tail (split TAB line)) in rw (and_left k s e, f, and_right k s e)
