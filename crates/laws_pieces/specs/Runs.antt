-- A piece as a part of the paper's run, and a run with some bytes before it. Assumes nothing.
use Rattle.std.specs.Prelude.{Ok, Err}
use Rattle.paper.specs.Replies.{Advance}
use Rattle.std.specs.Prelude.{◌≡◌, ◌∷◌, ◌++◌}
use Rattle.whole.specs.Plain.{ℕ, suc, refl, sym, ap, ◌∙◌, List, []}
use Rattle.whole.specs.Plain.{append_assoc, append-nil, pos, Words}
use Rattle.whole.specs.Turns.{turns}
use Rattle.whole.specs.TurnLaws.{turns_view}
use Rattle.paper.specs.Rows.{bytes, steps}
use Rattle.paper.specs.Areas.{Net, area_count}
use Rattle.paper.specs.Advance.{Memory, advance_of}
use Rattle.paper.specs.Listing.{Run, going, went, area_run, listed, step_run, closing, step_lines, stop_line, line_of}
use Rattle.paper.specs.Listing as Listing
use Rattle.paper.specs.Pieces.{Piece, writing, ended, went_on, area_piece, full_step, step_piece}

abbrev pub as_run : Piece → Run
as_run (writing m out) = going m out
as_run (ended l) = Listing.ended l.written

went_as : (k a : ℕ) (out : List ℕ) (m : Memory) (x : Advance) → as_run (went_on k a out m x) ≡ went k a out m x
went_as k a out m (Ok c) = refl
went_as k a out m (Err x) = refl

area_as : (net : Words) (k a : ℕ) (s : Piece) → as_run (area_piece net k a s) ≡ area_run net k a (as_run s)
unfolding area_piece area_run Listing.went_on
area_as net k a (writing m out) = went_as k a out (advance_of net a m).after (advance_of net a m).answer
area_as net k a (ended l) = refl

full_as : (N : Net) (k : ℕ) (s : Piece) → as_run (full_step N k s) ≡ listed N k (as_run s)
unfolding full_step listed
full_as N k (writing m out) = refl
full_as N k (ended l) = refl

pub step_as : (net : Words) (N : Net) (k : ℕ) (s : Piece) → as_run (step_piece net N k s) ≡ step_run net N k (as_run s)
unfolding step_piece step_run
step_as net N k s =
    full_as N k _ ∙ ap (listed N k) (turns_view as_run (area_piece net k) (area_run net k) 1 (suc (area_count N)) s (λ a x l h. area_as net k a x))

-- ---- bytes before a run

abbrev pub before : List ℕ → Run → Run
before p (going m out) = going m (p ++ out)
before p (Listing.ended out) = Listing.ended (p ++ out)

went_before : (p : List ℕ) (k a : ℕ) (out : List ℕ) (m : Memory) (x : Advance) → went k a (p ++ out) m x ≡ before p (went k a out m x)
went_before p k a out m (Ok c) = refl
went_before p k a out m (Err x) = ap Listing.ended (append_assoc p out (stop_line k a x))

area_before : (p : List ℕ) (net : Words) (k a : ℕ) (s : Run) → area_run net k a (before p s) ≡ before p (area_run net k a s)
unfolding area_run Listing.went_on
area_before p net k a (going m out) = went_before p k a out (advance_of net a m).after (advance_of net a m).answer
area_before p net k a (Listing.ended out) = refl

listed_before : (p : List ℕ) (N : Net) (k : ℕ) (s : Run) → listed N k (before p s) ≡ before p (listed N k s)
unfolding listed
listed_before p N k (going m out) = ap (going m) (append_assoc p out (step_lines N m.records k))
listed_before p N k (Listing.ended out) = refl

step_before : (p : List ℕ) (net : Words) (N : Net) (k : ℕ) (s : Run) → step_run net N k (before p s) ≡ before p (step_run net N k s)
unfolding step_run
step_before p net N k s =
    ap (listed N k) (sym (turns_view (before p) (area_run net k) (area_run net k) 1 (suc (area_count N)) s (λ a x l h. sym (area_before p net k a x))))
    ∙ listed_before p N k (turns 1 (suc (area_count N)) (area_run net k) s)

closing_before : (p : List ℕ) (N : Net) (s : Run) → closing N (before p s) ≡ p ++ closing N s
unfolding closing
closing_before p N (going m out) = append_assoc p out (line_of (bytes "done") (pos (steps N.head) ∷ []))
closing_before p N (Listing.ended out) = refl

-- ---- what is still to list, k steps taken

unfoldable pub run_from : Words → Net → ℕ → Memory → List ℕ
run_from net N k m = closing N (turns (suc k) (suc (steps N.head)) (step_run net N) (going m []))

pub run_from_lem : (net : Words) (N : Net) (k : ℕ) (m : Memory) (out : List ℕ)
    → closing N (turns (suc k) (suc (steps N.head)) (step_run net N) (going m out)) ≡ out ++ run_from net N k m
unfolding run_from
run_from_lem net N k m out =
    ap (λ (o : List ℕ). closing N (turns (suc k) (suc (steps N.head)) (step_run net N) (going m o))) (sym (append-nil out))
    ∙ ap (closing N) (sym (turns_view (before out) (step_run net N) (step_run net N) (suc k) (suc (steps N.head)) (going m []) (λ j x l h. sym (step_before out net N j x))))
    ∙ closing_before out N (turns (suc k) (suc (steps N.head)) (step_run net N) (going m []))
