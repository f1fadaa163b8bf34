-- What the program hands to its output, one piece of the listing after another. Assumes nothing.
use Rattle.std.specs.Prelude.{Result, Ok, Err, IfOk, MatchResult, ◌+◌, ◌≤◌, ◌≡◌, ◌≢◌, ◌++◌}
use Rattle.whole.specs.Plain.{ℕ, suc, refl, sym, ap, ◌∙◌, List}
use Rattle.whole.specs.Plain.{length, length-append, drop, zero, dec_lt, arith, Words}
use Rattle.std.proofs.Common.{add-one}
use Rattle.paper.specs.Replies.{Listing}
use Rattle.paper.specs.declared.Pause.TheVariants.{More}
use Rattle.paper.specs.Limits as Limits
use Rattle.paper.specs.Advance.{Memory}
use Rattle.paper.specs.Pieces.{Listed, list_of, Lists}
use Rattle.run_pieces.specs.Handed.{after_pieces, piece_at, LeadOn, after_next}
use Rattle.run_pieces.specs.declared.Ended.{Ended}
use Rattle.run_pieces.specs.declared.Unwritten.{Unwritten}

-- ---- one piece

-- the buffer with these bytes at its start
abbrev pub put : List ℕ → List ℕ → List ℕ
put w out = w ++ drop (length w) out

-- what is answered is the piece's answer, unless the output did not take it; the buffer and the memory are the piece's
pub record Goes {E : Type 0} (net : Words) (m : Memory) (out : List ℕ) (r : Result Listing E) (b : List ℕ) (after : Memory) : Type 0 where
  pub answer : IfOk r (λ x. x ≡ (list_of net m (length out)).answer)
  pub buffer : b ≡ put (list_of net m (length out)).written out
  pub memory : after ≡ (list_of net m (length out)).after

-- what is listed fits
pub listed_fits : {net : Words} {m after : Memory} {out b : List ℕ} {x : Listing} {n : ℕ} → Lists net m out x n b after → length b ≡ length out → n ≤ length b
listed_fits {net} {m} {after} {out} {b} {x} {n} l e =
    let w = (list_of net m (length out)).written in
    let s : length b ≡ length w + length (drop (length w) out) = ap length l.buffer ∙ length-append w (drop (length w) out) in
    omega (arith, s, l.count)

-- ---- all pieces

-- the buffer after n pieces
unfoldable pub buffer_after : Words → ℕ → Memory → List ℕ → ℕ → List ℕ
buffer_after net room m out zero = out
buffer_after net room m out (suc n) = put (piece_at net room m n).written (buffer_after net room m out n)

-- the piece that follows `before` others is the last; there is more only where no more are counted than a study may have steps
pub record Ends (net : Words) (room : ℕ) (m : Memory) (before : ℕ) (e : Ended) : Type 0 where
  pub count : e.pieces ≡ suc before
  pub last : e.last ≡ (piece_at net room m before).answer
  pub end : e.last ≡ Ok More → Limits.steps_end ≤ e.pieces

-- the output did not take the piece that follows `before` others
pub record Breaks (before : ℕ) (u : Unwritten) : Type 0 where
  pub count : u.pieces ≡ suc before

-- pieces with more to follow each, and one after them, which is the last or which the output did not take
pub record Hand (net : Words) (room : ℕ) (m : Memory) (r : Result Ended Unwritten) : Type 0 where
  pub before : ℕ
  pub lead : LeadOn net room m before
  pub ends : MatchResult r (λ e. Ends net room m before e) (λ u. Breaks before u)

pub record Hands (net : Words) (m : Memory) (out : List ℕ) (r : Result Ended Unwritten) (b : List ℕ) (after : Memory) : Type 0 where
  pub hand : Hand net (length out) m r
  pub buffer : b ≡ buffer_after net (length out) m out (suc hand.before)
  pub memory : after ≡ after_pieces net (length out) m (suc hand.before)

-- on the way: n pieces handed over, and more to follow each
pub record Going (net : Words) (m : Memory) (out : List ℕ) (n : ℕ) (b : List ℕ) (now : Memory) : Type 0 where
  pub lead : LeadOn net (length out) m n
  pub buffer : b ≡ buffer_after net (length out) m out n
  pub memory : now ≡ after_pieces net (length out) m n

pub going_none : (net : Words) (m : Memory) (out : List ℕ) → Going net m out 0 out m
unfolding buffer_after after_pieces
going_none net m out = record { lead = λ i h. absurd (omega arith); buffer = refl; memory = refl }

module _ {E : Type 0} {net : Words} {m now now' : Memory} {out b b' : List ℕ} {n : ℕ} {r : Result Listing E} (g : Going net m out n b now) (same : length b ≡ length out) (go : Goes net now b r b' now') where
  piece_is : list_of net now (length b) ≡ piece_at net (length out) m n
  piece_is = rw (g.memory, same)

  buffer_is : b' ≡ buffer_after net (length out) m out (suc n)
  unfolding buffer_after
  buffer_is = go.buffer ∙ rw (piece_is, g.buffer)

  memory_is : now' ≡ after_pieces net (length out) m (suc n)
  memory_is = go.memory ∙ ap (λ (l : Listed). l.after) piece_is ∙ sym (after_next net (length out) m n)

  answer_is : {x : Listing} → r ≡ Ok x → x ≡ (piece_at net (length out) m n).answer
  answer_is e = rw e at go.answer ∙ ap (λ (l : Listed). l.answer) piece_is

  pub going_on : r ≡ Ok (Ok More) → Going net m out (n + 1) b' now'
  going_on e =
      let last = sym (answer_is e) in
      rw (add-one n)
      (record { lead = λ i h. elim (dec_lt i n) [ yes l ↦ g.lead i l | no l ↦ (let q : i ≡ n = omega arith in rw q last) ]; buffer = buffer_is; memory = memory_is })

  -- no more to follow
  pub going_ends : {x : Listing} → r ≡ Ok x → x ≢ Ok More → Hands net m out (Ok (record { pieces = n + 1; last = x })) b' now'
  going_ends e h =
      record {
        hand = record { before = n; lead = g.lead; ends = record { count = add-one n; last = answer_is e; end = λ q. absurd (h q) } };
        buffer = buffer_is;
        memory = memory_is;
      }

  -- the output did not take the piece
  pub going_breaks : (u : Unwritten) → u.pieces ≡ n + 1 → Hands net m out (Err u) b' now'
  going_breaks u h = record { hand = record { before = n; lead = g.lead; ends = record { count = h ∙ add-one n } }; buffer = buffer_is; memory = memory_is }

-- as many pieces as a study may have steps
pub going_full : {net : Words} {m now : Memory} {out b : List ℕ} (n : ℕ) {k : ℕ} → k ≡ n → Limits.steps_end ≤ n → Going net m out n b now
    → Hands net m out (Ok (record { pieces = k; last = Ok More })) b now
going_full zero q h g = absurd (omega arith)
going_full (suc n) q h g =
    record {
      hand = record { before = n; lead = λ i l. g.lead i (omega arith); ends = record { count = q; last = sym (g.lead n (omega arith)); end = λ e. omega arith } };
      buffer = g.buffer;
      memory = g.memory;
    }

-- the buffer that the program lends
abbrev pub out_bytes : ℕ
out_bytes = 65536
