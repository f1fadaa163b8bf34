-- T-total: every call ends in an acceptance or in a refusal of the paper's table, 1 to 7 and 9 from reading, 8 and 9 from resetting and from
-- writing, 8 to 17 from advancing, 2 and 8 to 10 from asking for a node; and a reading's refusal names a line of the text. Assumes nothing.
use Rattle.std.specs.Prelude.{Ok, Err}
use Rattle.std.specs.Prelude.{◌≤◌, ◌≡◌, ◌⊎◌, ◌||◌}
use Rattle.whole.specs.Plain.{ℕ, zero, suc, refl, inl, inr, not, List, [], ltb, eqb, lit≤, length}
use Rattle.whole.specs.Plain.{arith, Words, empty, final, lead, fold}
use Rattle.paper.specs.Replies.{Reading, Resetting, Advance, Writing, Looking}
use Rattle.paper.specs.declared.Fault.TheVariants.{Form, Node, Value, Travel, Double, Full}
use Rattle.paper.specs.declared.Unread.TheVariants.{Line, Size}
use Rattle.paper.specs.declared.Refusal.TheVariants.{Network, Store, State, Area, Done, Wait, Floating, Range, Unbalanced, History}
use Rattle.paper.specs.declared.Unread.TheVariants as R
use Rattle.paper.specs.declared.Unfit.TheVariants as S
use Rattle.paper.specs.declared.Unlooked.TheVariants as L
use Rattle.whole.specs.Folds.{fold_keeps}
use Rattle.paper.specs.Limits as Limits
use Rattle.paper.specs.Answers.{reading_number, resetting_number, advance_number, writing_number}
use Rattle.paper.specs.Rows.{Row}
use Rattle.paper.specs.Text.{LF, split, row_of}
use Rattle.paper.specs.Network.{Table}
use Rattle.paper.specs.Reading.{Lines, good, bad, line_number, fault_of, taken, line_read, closed, lines_of, faulty, Read-out, read_end, read_of}
use Rattle.paper.specs.Looking.{looking_number}
use Rattle.paper.proofs.Kept.{either}

-- ---- the numbers

pub reading_number_lem : (x : Reading) → (reading_number x ≤ 7) ⊎ (reading_number x ≡ 9)
reading_number_lem (Ok tt) = inl (lit≤ tt)
reading_number_lem (Err (Line l Form)) = inl (lit≤ tt)
reading_number_lem (Err (Line l Node)) = inl (lit≤ tt)
reading_number_lem (Err (Line l Value)) = inl (lit≤ tt)
reading_number_lem (Err (Line l Travel)) = inl (lit≤ tt)
reading_number_lem (Err (Line l Double)) = inl (lit≤ tt)
reading_number_lem (Err (Line l Full)) = inl (lit≤ tt)
reading_number_lem (Err Size) = inl (lit≤ tt)
reading_number_lem (Err R.Store) = inr refl

pub resetting_number_lem : (x : Resetting) → (resetting_number x ≡ 0) ⊎ ((resetting_number x ≡ 8) ⊎ (resetting_number x ≡ 9))
resetting_number_lem (Ok tt) = inl refl
resetting_number_lem (Err S.Network) = inr (inl refl)
resetting_number_lem (Err S.Store) = inr (inr refl)

pub writing_number_lem : (x : Writing) → (writing_number x ≡ 0) ⊎ ((writing_number x ≡ 8) ⊎ (writing_number x ≡ 9))
writing_number_lem (Ok n) = inl refl
writing_number_lem (Err S.Network) = inr (inl refl)
writing_number_lem (Err S.Store) = inr (inr refl)

pub advance_number_lem : (x : Advance) → (advance_number x ≡ 0) ⊎ ((8 ≤ advance_number x) × (advance_number x ≤ 17))
advance_number_lem (Ok k) = inl refl
advance_number_lem (Err Network) = inr (lit≤ tt, lit≤ tt)
advance_number_lem (Err Store) = inr (lit≤ tt, lit≤ tt)
advance_number_lem (Err State) = inr (lit≤ tt, lit≤ tt)
advance_number_lem (Err Area) = inr (lit≤ tt, lit≤ tt)
advance_number_lem (Err Done) = inr (lit≤ tt, lit≤ tt)
advance_number_lem (Err (Wait b)) = inr (lit≤ tt, lit≤ tt)
advance_number_lem (Err (Floating n)) = inr (lit≤ tt, lit≤ tt)
advance_number_lem (Err (Range n)) = inr (lit≤ tt, lit≤ tt)
advance_number_lem (Err (Unbalanced n)) = inr (lit≤ tt, lit≤ tt)
advance_number_lem (Err (History b)) = inr (lit≤ tt, lit≤ tt)

pub looking_number_lem : (x : Looking) → (looking_number x ≡ 0) ⊎ ((looking_number x ≡ 2) ⊎ ((8 ≤ looking_number x) × (looking_number x ≤ 10)))
looking_number_lem (Ok t) = inl refl
looking_number_lem (Err L.Node) = inr (inl refl)
looking_number_lem (Err L.Network) = inr (inr (lit≤ tt, lit≤ tt))
looking_number_lem (Err L.Store) = inr (inr (lit≤ tt, lit≤ tt))
looking_number_lem (Err L.State) = inr (inr (lit≤ tt, lit≤ tt))

-- ---- "the answer carries the line number (0 for 7 and 9)": a line of the text, from 1

abbrev pub OnLine : Reading → Type 0
OnLine (Ok tt) = Unit {0}
OnLine (Err (Line l f)) = 1 ≤ l
OnLine (Err Size) = Unit {0}
OnLine (Err R.Store) = Unit {0}

Numbered : Lines → Type 0
Numbered (good t) = Unit {0}
Numbered (bad l f) = 1 ≤ l

taken_numbered : (seen : Table) (r : Row) (f : ℕ) → Numbered (taken seen r f)
unfolding Numbered
taken_numbered seen r zero = tt
taken_numbered seen r (suc f) = omega arith

read_numbered : (l : Lines) (line : List ℕ) → Numbered l → Numbered (line_read l line)
unfolding Numbered line_read
read_numbered (good seen) line p = taken_numbered seen (row_of line) (fault_of seen line)
read_numbered (bad l f) line p = p

closed_numbered : (rest : List ℕ) (l : Lines) → Numbered l → Numbered (closed rest l)
unfolding Numbered closed
closed_numbered rest (good seen) p = either Numbered (not (empty rest) || empty seen) (bad (line_number seen) 1) (good seen) (omega arith) tt
closed_numbered rest (bad l f) p = p

lines_numbered : (text : List ℕ) → Numbered (lines_of text)
unfolding lines_of Numbered
lines_numbered text =
    closed_numbered (final [] (split LF text)) (fold line_read (good []) (lead (split LF text))) (fold_keeps Numbered line_read read_numbered (good []) (lead (split LF text)) tt)

faulty_line : (l f : ℕ) → 1 ≤ l → OnLine (faulty l f)
unfolding faulty
faulty_line l f h = h

end_line : (net : Words) (l : Lines) → Numbered l → OnLine (read_end net l).answer
unfolding Numbered
end_line net (good t) p = tt
end_line net (bad l f) p = faulty_line l f p

pub read_place : (text : List ℕ) (net : Words) → OnLine (read_of text net).answer
unfolding read_of
read_place text net =
    either (λ (r : Read-out). OnLine r.answer) (not (eqb (length net) Limits.network_words)) _ _ tt
    (either (λ (r : Read-out). OnLine r.answer) (ltb Limits.text_end (length text)) _ _ tt (end_line net (lines_of text) (lines_numbered text)))
