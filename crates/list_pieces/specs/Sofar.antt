-- A piece so far: the bytes in the buffer, and the steps that are left, which lead to the piece as it is to be. Assumes nothing.
use Rattle.std.specs.Prelude.{Ok, Err, ◌+◌, ◌≤◌, ◌<◌, ◌≡◌, ◌∷◌, ◌++◌}
use Rattle.whole.specs.Plain.{ℕ, suc, refl, sym, ap, ◌∙◌, Bool, true, false, List, []}
use Rattle.whole.specs.Plain.{leb, pos, length, le-leb, lt-leb, arith, Words}
use Rattle.std.proofs.Common.{add-one}
use Rattle.paper.specs.Replies.{Listing}
use Rattle.paper.specs.declared.Pause.TheVariants.{More, Done, Stopped}
use Rattle.whole.specs.Turns.{turns, turns_more, turns_done}
use Rattle.paper.specs.Limits as Limits
use Rattle.paper.specs.Rows.{steps}
use Rattle.paper.specs.Rows as Rows
use Rattle.paper.specs.Areas.{Net}
use Rattle.paper.specs.Advance.{Memory}
use Rattle.paper.specs.Listing.{line_of}
use Rattle.paper.specs.Pieces.{Listed, listed, Piece, writing, ended, step_piece, if_room, turn_piece, closing, steps_taken, piece_of}
use Rattle.laws_facts.specs.Nets.{net_in}
use Rattle.laws_pieces.specs.Calls.{turns_ended}
use Rattle.list_digits.specs.Puts.{Puts, puts_none, puts_then}
use Rattle.list_round.specs.declared.Stopped.{Stopped as Stop}
use Rattle.list_round.specs.Round.{Round}
use Rattle.list_step.specs.Bounds.{done_short}
use Rattle.list_turn.specs.Turned.{Turned}
use Rattle.list_turn.specs.Turned.{turn_piece as piece}

-- what a call gives of l: an answer, a number of bytes, the buffer and memory
pub record Gives (l : Listed) (out : List ℕ) (x : Listing) (count : ℕ) (b : List ℕ) (after : Memory) : Type 0 where
  pub answer : x ≡ l.answer
  pub puts : Puts out 0 l.written count b
  pub fit : count ≤ length out
  pub memory : after ≡ l.after

module _ (net : Words) (l : Listed) (out : List ℕ) where
  abbrev N : Net
  N = net_in net

  abbrev last : ℕ
  last = suc (steps N.head)

  abbrev piece_from : ℕ → Piece → Listed
  piece_from k s = closing N (turns k last (turn_piece net N (length out)) s)

  pub record Sofar (k : ℕ) (m : Memory) (at : ℕ) (b : List ℕ) : Type 0 where
    pub written : List ℕ
    pub puts : Puts out 0 written at b
    pub leads : piece_from (suc k) (writing m written) ≡ l
    pub room : at + 32 ≤ length out

  module _ {k at : ℕ} {m : Memory} {b : List ℕ} (f : Sofar k m at b) where
    place : at ≡ length f.written
    place = omega (arith, f.puts.place)

    -- all steps are taken
    pub sofar_done : {n : ℕ} {b' : List ℕ} → steps N.head ≤ k → Puts b at (line_of (Rows.bytes "done") (pos (steps N.head) ∷ [])) n b' → Gives l out (Ok Done) n b' m
    unfolding closing
    sofar_done h p =
        let e : listed (Ok Done) (f.written ++ line_of (Rows.bytes "done") (pos (steps N.head) ∷ [])) m ≡ l = ap (closing N) (sym (turns_done (suc k) last (turn_piece net N (length out)) (writing m f.written) (omega arith))) ∙ f.leads in
        rw (← e) (record { answer = refl; puts = puts_then f.puts p; fit = omega (arith, f.room, p.place, done_short (steps N.head)); memory = refl })

    -- what the next turn comes to, by whether there is room
    turned : (t : Bool) → k < steps N.head → leb (length f.written + Limits.step_bytes) (length out) ≡ t → piece_from (suc (suc k)) (if_room net N (suc k) m f.written t) ≡ l
    unfolding turn_piece
    turned t h e =
        let q = turns_more (suc k) last (turn_piece net N (length out)) (writing m f.written) (omega arith) in
        rw (← e) (ap (closing N) (sym (rw (add-one (suc k)) at q)) ∙ f.leads)

    -- the next step might not fit
    pub sofar_more : k < steps N.head → length out < at + Limits.step_bytes → Gives l out (Ok More) at b m
    unfolding closing
    sofar_more h r =
        let t = turned false h (lt-leb (length f.written + Limits.step_bytes) (length out) (omega (arith, place))) in
        let e : listed (Ok More) f.written m ≡ l = ap (closing N) (sym (turns_ended net N (length out) (suc (suc k)) last (listed (Ok More) f.written m))) ∙ t in
        rw (← e) (record { answer = refl; puts = f.puts; fit = omega (arith, f.room); memory = refl })

    module _ (h : k < steps N.head) (r : at + Limits.step_bytes ≤ length out) where
      fits : leb (length f.written + Limits.step_bytes) (length out) ≡ true
      fits = le-leb (length f.written + Limits.step_bytes) (length out) (omega (arith, place))

      pub sofar_step : {m' : Memory} {b' : List ℕ} {n : ℕ} {u : Round} → u ≡ Ok tt → Turned net k m u m' b at n b' → Sofar (suc k) m' n b'
      sofar_step {m'} e t =
          record {
            written = f.written ++ t.bytes;
            puts = puts_then f.puts t.puts;
            leads = ap (piece_from (suc (suc k))) (sym (t.is f.written ∙ ap (λ (y : Round). piece y m' (f.written ++ t.bytes)) e)) ∙ turned true h fits;
            room = omega (arith, t.puts.place, t.short);
          }

      pub sofar_over : {m' : Memory} {b' : List ℕ} {n : ℕ} {u : Round} {x : Stop} → u ≡ Err x → Turned net k m u m' b at n b' → Gives l out (Ok (Stopped x.area x.refusal)) n b' m'
      unfolding closing
      sofar_over {m'} {b'} {n} {u} {x} e t =
          let d = listed (Ok (Stopped x.area x.refusal)) (f.written ++ t.bytes) m' in
          let p : step_piece net N (suc k) (writing m f.written) ≡ ended d = t.is f.written ∙ ap (λ (y : Round). piece y m' (f.written ++ t.bytes)) e in
          let q : d ≡ l = ap (closing N) (sym (turns_ended net N (length out) (suc (suc k)) last d)) ∙ ap (piece_from (suc (suc k))) (sym p) ∙ turned true h fits in
          rw (← q) (record { answer = refl; puts = puts_then f.puts t.puts; fit = omega (arith, t.puts.place, t.short); memory = refl })

-- nothing yet
pub sofar_none : (net : Words) (m : Memory) (out : List ℕ) (k : ℕ) → steps_taken (net_in net) m.records ≡ k → Limits.step_bytes ≤ length out → Sofar net (piece_of net (net_in net) m (length out)) out k m 0 out
unfolding piece_of
sofar_none net m out k e h = record { written = []; puts = puts_none out 0; leads = rw e; room = omega arith }
