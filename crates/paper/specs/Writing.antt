-- K1, "Write studies out again.": "from an accepted network record to lines in table order". Assumes nothing.
use Rattle.std.specs.Prelude.{Ok, Err}
use Rattle.std.specs.Prelude.{◌≡◌, ◌||◌, ◌∷◌, ◌++◌}
use Rattle.whole.specs.Plain.{ℕ, sym, ◌∙◌, cond, not, List, [], tail, eqb, ltb, length, drop, Words}
use Rattle.paper.specs.Replies.{Writing}
use Rattle.paper.specs.declared.Unfit.TheVariants.{Network, Store}
use Rattle.paper.specs.Limits as Limits
use Rattle.paper.specs.Rows.{Row, kind, word_of}
use Rattle.paper.specs.Network.{Table, is_network, table_of}
use Rattle.paper.specs.Listing.{line_of}

-- a row's word and its fields
unfoldable pub row_line : Row → List ℕ
row_line r = line_of (word_of (kind r)) (tail r)

-- "The network record therefore keeps the order of all lines, sources among them."
unfoldable pub text_of : Table → List ℕ
text_of [] = []
text_of (r ∷ rs) = row_line r ++ text_of rs

-- ---- the call

pub record Written-out : Type 0 where
  pub answer : Writing
  pub out : List ℕ

abbrev pub written_out : Writing → List ℕ → Written-out
written_out x out = record { answer = x; out = out }

-- a text in the area, and behind it what stood there
abbrev pub over : List ℕ → List ℕ → Written-out
over text out = written_out (Ok (length text)) (text ++ drop (length text) out)

-- "Refusals: 9 for an output area under 8,192 bytes or a wrong network length, then 8; nothing is written in either case."
unfoldable pub write_of : Words → List ℕ → Written-out
write_of net out =
    cond (not (eqb (length net) Limits.network_words) || ltb (length out) Limits.study_bytes) (written_out (Err Store) out)
    (cond (not (is_network net)) (written_out (Err Network) out)
    (over (text_of (table_of net)) out))

-- ---- what the contract says of the answer and of every byte lent, and that it leaves nothing open

pub record Writes (net : Words) (out : List ℕ) (x : Writing) (after : List ℕ) : Type 0 where
  pub answer : x ≡ (write_of net out).answer
  pub bytes : after ≡ (write_of net out).out

pub write_one : (net : Words) (out : List ℕ) {x y : Writing} {v w : List ℕ} → Writes net out x v → Writes net out y w → (x ≡ y) × (v ≡ w)
write_one net out p q = (p.answer ∙ sym q.answer, p.bytes ∙ sym q.bytes)
