-- What the program hands over for a text, one piece after another, is the paper's listing of it. Assumes nothing.
use Rattle.std.specs.Prelude.{Result, Ok, Err, ◌≤◌, ◌≡◌, ◌≢◌, ◌∷◌, ◌⊎◌}
use Rattle.whole.specs.Plain.{ℕ, suc, refl, sym, ap, ◌∙◌, true, List, [], inl, inr, take, take_all, length}
use Rattle.whole.specs.Plain.{pos, length-append, length-take-le, lt-ltb, replicate, dec_le, arith, Words, z}
use Rattle.paper.specs.Replies.{Reading, Resetting, Listing}
use Rattle.paper.specs.declared.Unread.{Unread}
use Rattle.paper.specs.declared.Unread.TheVariants.{Line, Size, Store}
use Rattle.paper.specs.declared.Fault.TheVariants.{Form, Node, Value, Travel, Double, Full}
use Rattle.paper.specs.declared.Pause.TheVariants.{More, Done, Stopped}
use Rattle.paper.specs.Limits as Limits
use Rattle.paper.specs.Network.{is_network}
use Rattle.paper.specs.Reading.{Read-out, read_out, read_of}
use Rattle.paper.specs.Advance.{Memory}
use Rattle.paper.specs.Resetting.{Reset-out, fresh}
use Rattle.paper.specs.One.{Resets}
use Rattle.paper.specs.Rows.{bytes}
use Rattle.paper.specs.Answers.{unread_number, unread_line}
use Rattle.paper.specs.Listing.{listing, listing_from, shown, shown_all, line_of}
use Rattle.laws_stays.specs.Stays.{Long}
use Rattle.laws_demands.specs.States.{long_fits, reset_is}
use Rattle.laws_spelling.proofs.Networks.{network_exactly}
use Rattle.run_pieces.specs.Handed.{handed, handed_run}
use Rattle.run_pieces.specs.declared.Ended.{Ended}
use Rattle.run_pieces.specs.Pieces.{Hand, out_bytes}
use Rattle.run_study.specs.declared.Unwritten.{Unwritten}
use Rattle.run_study.specs.declared.Unwritten.TheVariants as U
use Rattle.list_digits.specs.Decimal.{shown_most}

-- "a refused text gives `bad`, line, number"
abbrev pub bad_line : Unread → List ℕ
bad_line x = line_of (bytes "bad") (pos (unread_line x) ∷ pos (unread_number x) ∷ [])

pub bad_short : (line number : ℕ) → length (line_of (bytes "bad") (pos line ∷ pos number ∷ [])) ≤ 46
unfolding shown_all shown bytes
bad_short line number = simp length-append (omega (arith, shown_most line, shown_most number))

-- ---- reading and resetting

-- one byte past the longest text decides as much as all that follows it
pub read_start : (text : List ℕ) (net : Words) → read_of (take (suc Limits.text_end) text) net ≡ read_of text net
unfolding read_of
read_start text net =
    elim (dec_le (length text) Limits.text_end) [
      | yes h ↦ rw (take_all (suc Limits.text_end) text (omega arith))
      | no h ↦
          let long : length (take (suc Limits.text_end) text) ≡ suc Limits.text_end = length-take-le (suc Limits.text_end) text (omega arith) in
          rw (long, lt-ltb Limits.text_end (length text) (omega arith))
    ]

abbrev pub reading : List ℕ → Read-out
reading text = read_of text (replicate Limits.network_words z)

pub read_network : (text : List ℕ) → (reading text).answer ≡ Ok tt → is_network (reading text).network ≡ true
read_network text e =
    (network_exactly (reading text).network).1 (record { text = text; lent = replicate Limits.network_words z; reads = ap (λ (x : Reading). read_out x (reading text).network) e })

-- a network that was read is reset, whatever stood in the memory
pub reset_takes : {net : Words} {m after : Memory} {x : Resetting} → is_network net ≡ true → Long m → Resets net m x after → (x ≡ Ok tt) × (after ≡ fresh)
reset_takes {net} {m} e l r =
    let q = reset_is net m (long_fits net m e l) e in
    (r.answer ∙ ap (λ (o : Reset-out). o.answer) q, r.memory ∙ ap (λ (o : Reset-out). o.after) q)

-- ---- the outcome

-- what became of a text: its listing, or why it is refused
abbrev pub Outcome : Type 0
Outcome = Result Ended Unread

-- the listing of a network that was read, or why the text is refused; else the output did not take the one or the other
abbrev pub Answers : List ℕ → Result Outcome Unwritten → Type 0
Answers text (Ok (Ok e)) = ((reading text).answer ≡ Ok tt) × Hand (reading text).network out_bytes fresh (Ok e)
Answers text (Ok (Err x)) = (reading text).answer ≡ Err x
Answers text (Err (U.Refusal e)) = (reading text).answer ≢ Ok tt
Answers text (Err (U.Listing u)) = ((reading text).answer ≡ Ok tt) × Hand (reading text).network out_bytes fresh (Err u)

-- the bytes that were handed over
abbrev pub handed_over : List ℕ → Outcome → List ℕ
handed_over text (Ok e) = handed (reading text).network out_bytes fresh e.pieces
handed_over text (Err x) = bad_line x

ended : (x : Listing) {n : ℕ} → (x ≡ Ok More → Limits.steps_end ≤ n) → (x ≢ Ok More) ⊎ (Limits.steps_end ≤ n)
ended (Ok More) e = inr (e refl)
ended (Ok Done) e = inl (λ q. cc)
ended (Ok (Stopped a x)) e = inl (λ q. cc)
ended (Err x) e = inl (λ q. cc)

-- a text that is not read
refused_lists : (x : Unread) (net : Words) → listing_from (Err x) net ≡ bad_line x
unfolding listing_from
refused_lists (Line l Form) net = refl
refused_lists (Line l Node) net = refl
refused_lists (Line l Value) net = refl
refused_lists (Line l Travel) net = refl
refused_lists (Line l Double) net = refl
refused_lists (Line l Full) net = refl
refused_lists Size net = refl
refused_lists Store net = refl

-- T-handed: where the output took all, what was handed over is the listing
pub hands_over : (text : List ℕ) (r : Outcome) → Answers text (Ok r) → handed_over text r ≡ listing text
unfolding listing listing_from
hands_over text (Err x) h = rw h (sym (refused_lists x (reading text).network))
hands_over text (Ok e) h =
    let c = h.1 in
    let n = c.ends in
    rw (h.0, n.count)
    (handed_run (reading text).network (read_network text h.0) out_bytes c.before (omega arith)
    (record { lead = c.lead; last = rw (← n.last) (ended e.last (λ q. rw n.count at (n.end q))) }))

-- and of an input, however long, no more is read
pub hands_over_input : (input : List ℕ) (r : Outcome) → Answers (take (suc Limits.text_end) input) (Ok r)
    → handed_over (take (suc Limits.text_end) input) r ≡ listing input
unfolding listing
hands_over_input input r a = hands_over (take (suc Limits.text_end) input) r a ∙ rw (read_start input (replicate Limits.network_words z))
