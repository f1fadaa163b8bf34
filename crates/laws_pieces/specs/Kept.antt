-- T-kept, of listing: a call refused with 8, 9 or 10 writes nothing and leaves all lent memory as it was. Assumes nothing.
use Rattle.paper.specs.Replies.{Advance}
use Rattle.std.specs.Prelude.{Ok, Err}
use Rattle.std.specs.Prelude.{◌+◌, ◌≡◌, ◌||◌}
use Rattle.whole.specs.Plain.{ℕ, suc, refl, sym, ◌∙◌, Bool, true, false, not, true≢false, List, [], leb}
use Rattle.whole.specs.Plain.{ltb, length, arith, Words}
use Rattle.paper.specs.Replies.{Listing}
use Rattle.paper.specs.declared.Pause.TheVariants.{More, Done, Stopped}
use Rattle.paper.specs.declared.Unlisted.TheVariants.{Network, Store, State}
use Rattle.whole.specs.TurnLaws.{turns_keeps}
use Rattle.paper.specs.Limits as Limits
use Rattle.paper.specs.Network.{is_network, table_of}
use Rattle.paper.specs.Areas.{Net, net_of, area_count}
use Rattle.paper.specs.Records.{well_formed}
use Rattle.paper.specs.Rows.{steps}
use Rattle.paper.specs.Advance.{Memory, fits, advance_of}
use Rattle.paper.proofs.Kept.{either}
use Rattle.paper.specs.Pieces.{Listed, Piece, writing, ended, went_on, area_piece, full_step, step_piece, if_room, turn_piece, closing, level, steps_taken, piece_of, on_level, list_of}

-- an answer of a call that ran
abbrev pub ran : Listing → Bool
ran (Ok More) = true
ran (Ok Done) = true
ran (Ok (Stopped a x)) = true
ran (Err Network) = false
ran (Err Store) = false
ran (Err State) = false

record Ran (s : Piece) : Type 0 where
  ran_so : (l : Listed) → s ≡ ended l → ran l.answer ≡ true

goes_on : (m : Memory) (out : List ℕ) → Ran (writing m out)
goes_on m out = record { ran_so = λ l e. let z : ◌≡◌ {A = ℕ} 0 1 = cc in absurd (omega arith) }

has_ended : (l : Listed) → ran l.answer ≡ true → Ran (ended l)
has_ended l h = record { ran_so = λ k e. let q : l ≡ k = cc in rw (← q) h }

went : (k a : ℕ) (out : List ℕ) (m : Memory) (x : Advance) → Ran (went_on k a out m x)
went k a out m (Ok c) = goes_on m out
went k a out m (Err x) = has_ended _ refl

area_ran : (net : Words) (k a : ℕ) (s : Piece) → Ran s → Ran (area_piece net k a s)
unfolding area_piece
area_ran net k a (writing m out) h = went k a out (advance_of net a m).after (advance_of net a m).answer
area_ran net k a (ended l) h = h

full_ran : (N : Net) (k : ℕ) (s : Piece) → Ran s → Ran (full_step N k s)
unfolding full_step
full_ran N k (writing m out) h = goes_on m _
full_ran N k (ended l) h = h

room_ran : (net : Words) (N : Net) (k : ℕ) (m : Memory) (out : List ℕ) (b : Bool) → Ran (if_room net N k m out b)
unfolding step_piece
room_ran net N k m out true = full_ran N k _ (turns_keeps Ran 1 (suc (area_count N)) (area_piece net k) (λ a x l h q. area_ran net k a x q) (writing m out) (goes_on m out))
room_ran net N k m out false = has_ended _ refl

turn_ran : (net : Words) (N : Net) (room k : ℕ) (s : Piece) → Ran s → Ran (turn_piece net N room k s)
unfolding turn_piece
turn_ran net N room k (writing m out) h = room_ran net N k m out (leb (length out + Limits.step_bytes) room)
turn_ran net N room k (ended l) h = h

closing_ran : (N : Net) (s : Piece) → Ran s → ran (closing N s).answer ≡ true
unfolding closing
closing_ran N (writing m out) h = refl
closing_ran N (ended l) h = h.ran_so l refl

piece_ran : (net : Words) (N : Net) (m : Memory) (room : ℕ) → ran (piece_of net N m room).answer ≡ true
unfolding piece_of
piece_ran net N m room =
    closing_ran N _ (turns_keeps Ran (suc (steps_taken N m.records)) (suc (steps N.head)) (turn_piece net N room) (λ k x l h q. turn_ran net N room k x q) (writing m []) (goes_on m []))

record Kept (m : Memory) (l : Listed) : Type 0 where
  nothing : ran l.answer ≡ false → (l.written ≡ []) × (l.after ≡ m)

on_level_lem : (net : Words) (N : Net) (m : Memory) (room : ℕ) → Kept m (on_level net N m room)
unfolding on_level
on_level_lem net N m room =
    either (Kept m) (not (well_formed N m.records m.froms m.tos) || not (level N m.records)) _ _
    (record { nothing = λ h. (refl, refl) })
    (record { nothing = λ h. absurd (true≢false (sym (piece_ran net N m room) ∙ h)) })

kept : (net : Words) (m : Memory) (room : ℕ) → Kept m (list_of net m room)
unfolding list_of
kept net m room =
    either (Kept m) (not (fits net m) || ltb room Limits.step_bytes) _ _ (record { nothing = λ h. (refl, refl) })
    (either (Kept m) (not (is_network net)) _ _ (record { nothing = λ h. (refl, refl) }) (on_level_lem net (net_of (table_of net)) m room))

pub list_refused : (net : Words) (m : Memory) (room : ℕ) → ran (list_of net m room).answer ≡ false → ((list_of net m room).written ≡ []) × ((list_of net m room).after ≡ m)
list_refused net m room = (kept net m room).nothing
