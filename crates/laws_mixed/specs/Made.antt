-- What a call of `list` leaves in lent memory is what the advances that it makes leave: those that are accepted, in their order. Assumes nothing.
use Rattle.std.specs.Prelude.{Ok, Err}
use Rattle.paper.specs.Replies.{Advance}
use Rattle.std.specs.Prelude.{◌+◌, ◌≡◌, ◌||◌, ◌∷◌, ◌++◌}
use Rattle.whole.specs.Plain.{ℕ, suc, refl, sym, ap, ◌∙◌, subst, Bool, true, false, not, List, [], leb}
use Rattle.whole.specs.Plain.{ltb, length, Words}
use Rattle.whole.specs.TurnLaws.{turns_keeps}
use Rattle.paper.specs.Limits as Limits
use Rattle.paper.specs.Network.{is_network, table_of}
use Rattle.paper.specs.Areas.{Net, net_of, area_count}
use Rattle.paper.specs.Records.{well_formed}
use Rattle.paper.specs.Rows.{steps}
use Rattle.paper.specs.Answers.{accepted}
use Rattle.paper.specs.Advance.{Memory, fits, advance_of}
use Rattle.paper.proofs.Kept.{either, advance_refused}
use Rattle.paper.specs.Pieces.{Listed, Piece, writing, ended, went_on, area_piece, full_step, step_piece, if_room, turn_piece, closing, level, steps_taken, piece_of, on_level, list_of}
use Rattle.laws_runs.specs.Runs.{after}

-- each call of w is accepted
unfoldable pub AllTook : Words → List ℕ → Memory → Type 0
AllTook net [] m = Unit {0}
AllTook net (a ∷ w) m = (accepted (advance_of net a m).answer ≡ true) × AllTook net w (advance_of net a m).after

-- some advances, all of them accepted, lead from m to n
pub record Made (net : Words) (m n : Memory) : Type 0 where
  pub calls : List ℕ
  pub took : AllTook net calls m
  pub leaves : n ≡ after net calls m

abbrev left : Piece → Memory
left (writing m out) = m
left (ended l) = l.after

module _ (net : Words) where
  pub after_append : (w v : List ℕ) (m : Memory) → after net (w ++ v) m ≡ after net v (after net w m)
  unfolding after
  after_append [] v m = refl
  after_append (a ∷ w) v m = after_append w v (advance_of net a m).after

  took_append : (w v : List ℕ) (m : Memory) → AllTook net w m → AllTook net v (after net w m) → AllTook net (w ++ v) m
  unfolding after AllTook
  took_append [] v m p q = q
  took_append (a ∷ w) v m p q = (p.0, took_append w v (advance_of net a m).after p.1 q)

  module _ (m : Memory) where
    none : Made net m m
    unfolding after AllTook
    none = record { calls = []; took = tt; leaves = refl }

    one_more : (n : Memory) (a : ℕ) (b : Bool) → accepted (advance_of net a n).answer ≡ b → Made net m n → Made net m (advance_of net a n).after
    unfolding after AllTook
    one_more n a true e p = record {
      calls = p.calls ++ (a ∷ []);
      took = took_append p.calls (a ∷ []) m p.took (rw (← p.leaves) (e, tt));
      leaves = ap (λ (x : Memory). (advance_of net a x).after) p.leaves ∙ sym (after_append p.calls (a ∷ []) m);
    }
    one_more n a false e p = subst (Made net m) (sym (advance_refused net a n e)) p

    went_made : (k a : ℕ) (out : List ℕ) (n : Memory) (x : Advance) → Made net m n → Made net m (left (went_on k a out n x))
    went_made k a out n (Ok c) p = p
    went_made k a out n (Err x) p = p

    area_made : (k a : ℕ) (s : Piece) → Made net m (left s) → Made net m (left (area_piece net k a s))
    unfolding area_piece
    area_made k a (writing n out) p =
        went_made k a out (advance_of net a n).after (advance_of net a n).answer (one_more n a (accepted (advance_of net a n).answer) refl p)
    area_made k a (ended l) p = p

    full_made : (N : Net) (k : ℕ) (s : Piece) → Made net m (left s) → Made net m (left (full_step N k s))
    unfolding full_step
    full_made N k (writing n out) p = p
    full_made N k (ended l) p = p

    room_made : (N : Net) (k : ℕ) (n : Memory) (out : List ℕ) (b : Bool) → Made net m n → Made net m (left (if_room net N k n out b))
    unfolding step_piece
    room_made N k n out true p = full_made N k _ (turns_keeps (λ s. Made net m (left s)) 1 (suc (area_count N)) (area_piece net k) (λ a s l h q. area_made k a s q) (writing n out) p)
    room_made N k n out false p = p

    turn_made : (N : Net) (room k : ℕ) (s : Piece) → Made net m (left s) → Made net m (left (turn_piece net N room k s))
    unfolding turn_piece
    turn_made N room k (writing n out) p = room_made N k n out (leb (length out + Limits.step_bytes) room) p
    turn_made N room k (ended l) p = p

    closing_made : (N : Net) (s : Piece) → Made net m (left s) → Made net m (closing N s).after
    unfolding closing
    closing_made N (writing n out) p = p
    closing_made N (ended l) p = p

    piece_made : (N : Net) (room : ℕ) → Made net m (piece_of net N m room).after
    unfolding piece_of
    piece_made N room =
        closing_made N _ (turns_keeps (λ s. Made net m (left s)) (suc (steps_taken N m.records)) (suc (steps N.head)) (turn_piece net N room) (λ k s l h q. turn_made N room k s q) (writing m []) none)

    abbrev Leaves : Listed → Type 0
    Leaves l = Made net m l.after

    on_level_lem : (N : Net) (room : ℕ) → Leaves (on_level net N m room)
    unfolding on_level
    on_level_lem N room = either Leaves (not (well_formed N m.records m.froms m.tos) || not (level N m.records)) _ _ none (piece_made N room)

    -- a listing that is refused makes none
    pub list_is_calls : (room : ℕ) → Made net m (list_of net m room).after
    unfolding list_of
    list_is_calls room =
        either Leaves (not (fits net m) || ltb room Limits.step_bytes) _ _ none (either Leaves (not (is_network net)) _ _ none (on_level_lem (net_of (table_of net)) room))
