-- The listing by pieces: what one call writes into a lent buffer, full step after full step, until the next might not fit, an area is refused or
-- the study is done. Assumes nothing.
use Rattle.std.specs.Prelude.{Ok, Err}
use Rattle.std.specs.Prelude.{◌+◌, ◌≡◌, ◌||◌, ◌∷◌, ◌++◌}
use Rattle.whole.specs.Plain.{ℕ, suc, sym, ◌∙◌, Bool, true, false, cond, not, List, [], leb}
use Rattle.whole.specs.Plain.{ltb, eqb, pos, length, drop, Words, every, numbers}
use Rattle.paper.specs.Replies.{Advance, Listing}
use Rattle.paper.specs.declared.Refusal.{Refusal}
use Rattle.paper.specs.declared.Pause.TheVariants.{More, Done, Stopped}
use Rattle.paper.specs.declared.Unlisted.{Unlisted}
use Rattle.paper.specs.declared.Unlisted.TheVariants.{Network, Store, State}
use Rattle.whole.specs.Turns.{turns}
use Rattle.paper.specs.Limits as Limits
use Rattle.paper.specs.Rows.{bytes, steps}
use Rattle.paper.specs.Network.{is_network, table_of}
use Rattle.paper.specs.Areas.{Net, net_of, area_count}
use Rattle.paper.specs.Records.{count_of, well_formed}
use Rattle.paper.specs.Answers.{refusal_number, refusal_place}
use Rattle.paper.specs.Advance.{Memory, fits, advance_of}
use Rattle.paper.specs.Listing.{line_of, step_lines, stop_line}

abbrev pub unlisted_number : Unlisted → ℕ
unlisted_number Network = 8
unlisted_number Store = 9
unlisted_number State = 10

-- the paper's number for what it refuses; More and Stopped are no refusals of the call and stand outside its table
abbrev pub listing_number : Listing → ℕ
listing_number (Ok Done) = 0
listing_number (Ok More) = 100
listing_number (Ok (Stopped a x)) = 101
listing_number (Err x) = unlisted_number x

-- of the area that was refused; 0 where none was
abbrev pub of_stop : (ℕ → Refusal → ℕ) → Listing → ℕ
of_stop f (Ok (Stopped a x)) = f a x
of_stop f (Ok More) = 0
of_stop f (Ok Done) = 0
of_stop f (Err x) = 0

-- its number, the paper's number for its answer, and the node or branch that this carries
abbrev pub stop_area : Listing → ℕ
stop_area = of_stop (λ a x. a)

abbrev pub stop_number : Listing → ℕ
stop_number = of_stop (λ a x. refusal_number x)

abbrev pub stop_place : Listing → ℕ
stop_place = of_stop (λ a x. refusal_place x)

pub record Listed : Type 0 where
  pub answer : Listing
  pub written : List ℕ
  pub after : Memory

abbrev pub listed : Listing → List ℕ → Memory → Listed
listed x out m = record { answer = x; written = out; after = m }

-- ---- a piece

pub data Piece : Type 0 where
  writing : Memory → List ℕ → Piece
  ended : Listed → Piece

-- the areas before a refused one have taken the step, and none of its lines are listed
abbrev pub went_on : ℕ → ℕ → List ℕ → Memory → Advance → Piece
went_on k a out m (Ok c) = writing m out
went_on k a out m (Err x) = ended (listed (Ok (Stopped a x)) (out ++ stop_line k a x) m)

unfoldable pub area_piece : Words → ℕ → ℕ → Piece → Piece
area_piece net k a (writing m out) = let r = advance_of net a m in went_on k a out r.after r.answer
area_piece net k a (ended l) = ended l

unfoldable pub full_step : Net → ℕ → Piece → Piece
full_step N k (writing m out) = writing m (out ++ step_lines N m.records k)
full_step N k (ended l) = ended l

-- "advances areas in rising order step by step and, after each full step, writes"
unfoldable pub step_piece : Words → Net → ℕ → Piece → Piece
step_piece net N k s = full_step N k (turns 1 (suc (area_count N)) (area_piece net k) s)

abbrev pub if_room : Words → Net → ℕ → Memory → List ℕ → Bool → Piece
if_room net N k m out true = step_piece net N k (writing m out)
if_room net N k m out false = ended (listed (Ok More) out m)

unfoldable pub turn_piece : Words → Net → ℕ → ℕ → Piece → Piece
turn_piece net N room k (writing m out) = if_room net N k m out (leb (length out + Limits.step_bytes) room)
turn_piece net N room k (ended l) = ended l

unfoldable pub closing : Net → Piece → Listed
closing N (writing m out) = listed (Ok Done) (out ++ line_of (bytes "done") (pos (steps N.head) ∷ [])) m
closing N (ended l) = l

-- ---- the call

-- the steps that all areas have taken; where there are none, all steps
unfoldable pub steps_taken : Net → Words → ℕ
steps_taken N recs = cond (eqb (area_count N) 0) (steps N.head) (count_of recs 1)

unfoldable pub level : Net → Words → Bool
level N recs = every (λ a. eqb (count_of recs a) (steps_taken N recs)) (numbers 1 (area_count N))

unfoldable pub piece_of : Words → Net → Memory → ℕ → Listed
piece_of net N m room = closing N (turns (suc (steps_taken N m.records)) (suc (steps N.head)) (turn_piece net N room) (writing m []))

unfoldable pub on_level : Words → Net → Memory → ℕ → Listed
on_level net N m room =
    cond (not (well_formed N m.records m.froms m.tos) || not (level N m.records)) (listed (Err State) [] m)
    (piece_of net N m room)

-- 9, 8, then 10; a buffer that is too short for a full step is a lent length that is wrong
unfoldable pub list_of : Words → Memory → ℕ → Listed
list_of net m room =
    cond (not (fits net m) || ltb room Limits.step_bytes) (listed (Err Store) [] m)
    (cond (not (is_network net)) (listed (Err Network) [] m)
    (on_level net (net_of (table_of net)) m room))

-- ---- what the contract says of the answer, the bytes written and every lent word, and that it leaves nothing open

pub record Lists (net : Words) (m : Memory) (out : List ℕ) (x : Listing) (n : ℕ) (b : List ℕ) (after : Memory) : Type 0 where
  pub answer : x ≡ (list_of net m (length out)).answer
  pub count : n ≡ length (list_of net m (length out)).written
  pub buffer : b ≡ (list_of net m (length out)).written ++ drop (length (list_of net m (length out)).written) out
  pub memory : after ≡ (list_of net m (length out)).after

pub list_one : (net : Words) (m : Memory) (out : List ℕ) {x y : Listing} {i j : ℕ} {a b : List ℕ} {v w : Memory}
    → Lists net m out x i a v → Lists net m out y j b w → (x ≡ y) × ((i ≡ j) × ((a ≡ b) × (v ≡ w)))
list_one net m out p q = (p.answer ∙ sym q.answer, (p.count ∙ sym q.count, (p.buffer ∙ sym q.buffer, p.memory ∙ sym q.memory)))
