-- T-write, K1: "Reading what it wrote gives the same record, and writing what was read gives the same bytes, since the text has one spelling for each
-- network." Assumes nothing.
use Rattle.std.specs.Prelude.{Ok, Err}
use Rattle.std.specs.Prelude.{◌≤◌, ◌≡◌, ◌||◌, ◌∷◌, ◌++◌}
use Rattle.whole.specs.Plain.{ℕ, refl, sym, ap, ◌∙◌, Bool, true, false, cond, not, List, []}
use Rattle.whole.specs.Plain.{map, tail, append_assoc, eqb, ltb, ℤ, nat_abs, length, take, drop, take_at, length-append}
use Rattle.whole.specs.Plain.{eq-eqb, le-ltb, leb-true, arith, Words, every}
use Rattle.whole.specs.Folds.{and_left, and_right}
use Rattle.paper.specs.declared.Unfit.TheVariants.{Network, Store}
use Rattle.paper.specs.Limits as Limits
use Rattle.paper.specs.Rows.{Row, kind, word_of}
use Rattle.paper.specs.Text.{LF, TAB}
use Rattle.paper.specs.Network.{is_network, table_of, network_of}
use Rattle.paper.specs.Answers.{writing_number}
use Rattle.paper.specs.Reading.{read_out, read_of}
use Rattle.paper.specs.Listing.{shown, shown_all, line_of}
use Rattle.paper.specs.Writing.{row_line, text_of, Written-out, written_out, over, write_of}
use Rattle.laws_facts.specs.Layout.{network_length}
use Rattle.laws_spelling.specs.Numbers.{spell}
use Rattle.laws_spelling.proofs.Numbers.{shown_spelt}
use Rattle.laws_spelling.specs.Pieces.{join, join_more}
use Rattle.laws_spelling.specs.Lines.{spell_line}
use Rattle.laws_spelling.specs.Texts.{spell_text}
use Rattle.laws_spelling.proofs.Texts.{spelt_spelling}
use Rattle.laws_spelling.proofs.Reader.{taken_spelt}
use Rattle.laws_spelling.specs.Tables.{table_again}
use Rattle.laws_spelling.specs.Said.{small_word, small_row}
use Rattle.laws_spelling.proofs.Networks.{all_small, text_fits, network_read, read_took, read_network}

-- ---- what is written is the spelling

small_shown : (x : ℤ) → small_word x ≡ true → shown x ≡ spell x
small_shown x e = let h = leb-true (nat_abs x) Limits.injection_end e in shown_spelt x (omega arith)

line_said : (w : List ℕ) (xs : Words) → every small_word xs ≡ true → line_of w xs ≡ join TAB (w ∷ map spell xs) ++ (LF ∷ [])
unfolding shown_all join every
line_said w [] e = refl
line_said w (x ∷ xs) e =
    rw (small_shown x (and_left (small_word x) (every small_word xs) e))
    (ap (λ (l : List ℕ). w ++ (TAB ∷ l)) (line_said (spell x) xs (and_right (small_word x) (every small_word xs) e))
    ∙ sym (append_assoc w (TAB ∷ join TAB (spell x ∷ map spell xs)) (LF ∷ [])))

row_said : (r : Row) → small_row r ≡ true → row_line r ≡ spell_line r ++ (LF ∷ [])
unfolding row_line spell_line
row_said r e = line_said (word_of (kind r)) (tail r) e

text_said : (rows : List Row) → every small_row rows ≡ true → text_of rows ≡ spell_text rows
unfolding text_of spell_text join every
text_said [] e = refl
text_said (r ∷ rows) e =
    ap (λ (l : List ℕ). l ++ text_of rows) (row_said r (and_left (small_row r) (every small_row rows) e))
    ∙ append_assoc (spell_line r) (LF ∷ []) (text_of rows)
    ∙ ap (λ (l : List ℕ). spell_line r ++ (LF ∷ l)) (text_said rows (and_right (small_row r) (every small_row rows) e))
    ∙ sym (join_more LF (spell_line r) (map spell_line rows ++ ([] ∷ [])) (omega (arith, length-append (map spell_line rows) ([] ∷ []))))

module _ (net : Words) (e : is_network net ≡ true) where
  text_spelt : text_of (table_of net) ≡ spell_text (table_of net)
  text_spelt = text_said (table_of net) (all_small net e)

  -- every network's text fits the least area that is taken
  pub written_fits : length (text_of (table_of net)) ≤ Limits.study_bytes
  written_fits = rw text_spelt (text_fits net e)

  written_read : (lent : Words) → length lent ≡ Limits.network_words → read_of (text_of (table_of net)) lent ≡ read_out (Ok tt) net
  written_read lent h = rw text_spelt (network_read net e lent h)

  pub write_takes : (out : List ℕ) → Limits.study_bytes ≤ length out → write_of net out ≡ over (text_of (table_of net)) out
  unfolding write_of
  write_takes out h = rw (eq-eqb (length net) Limits.network_words (network_length net e), le-ltb (length out) Limits.study_bytes h, e)

-- the text that a network is read from is the one that is written
pub read_text : (text : List ℕ) (lent net : Words) → read_of text lent ≡ read_out (Ok tt) net → text_of (table_of net) ≡ text
read_text text lent net e =
    let w = read_took text lent net e in
    let t = taken_spelt text w.table w.lines in
    let s = spelt_spelling text t.0 in
    text_spelt net (read_network text lent net e)
    ∙ ap spell_text (ap table_of (w.is ∙ ap network_of t.1) ∙ table_again _ s.some s.lines)
    ∙ sym s.is

-- ---- the theorems

-- an answer that says bytes is of a network, in an area that is long enough
pub record Accepted (net : Words) (out : List ℕ) (n : ℕ) : Type 0 where
  pub network : is_network net ≡ true
  pub count : n ≡ length (text_of (table_of net))
  pub is : write_of net out ≡ over (text_of (table_of net)) out

pub write_accepted : (net : Words) (out : List ℕ) (n : ℕ) → (write_of net out).answer ≡ Ok n → Accepted net out n
unfolding write_of
write_accepted net out n e = go _ _ refl refl e
  where
    go : (a b : Bool) → (not (eqb (length net) Limits.network_words) || ltb (length out) Limits.study_bytes) ≡ a → is_network net ≡ b
        → (cond a (written_out (Err Store) out) (cond (not b) (written_out (Err Network) out) (over (text_of (table_of net)) out))).answer ≡ Ok n → Accepted net out n
    go true b p q h = let x : ◌≡◌ {A = ℕ} 9 0 = ap writing_number h in absurd (omega arith)
    go false false p q h = let x : ◌≡◌ {A = ℕ} 8 0 = ap writing_number h in absurd (omega arith)
    go false true p q h = record { network = q; count = cc; is = rw (p, q) }

-- "Reading what it wrote gives the same record", whatever the area and the record that is read into held before
pub write_read : (net : Words) (out : List ℕ) (n : ℕ) (lent : Words) → (write_of net out).answer ≡ Ok n → length lent ≡ Limits.network_words
    → read_of (take n (write_of net out).out) lent ≡ read_out (Ok tt) net
write_read net out n lent e h =
    let w = write_accepted net out n e in
    let t = text_of (table_of net) in
    let b : take n (write_of net out).out ≡ t = ap (λ (r : Written-out). take n r.out) w.is ∙ take_at t (drop (length t) out) n (sym w.count) in
    rw b (written_read net w.network lent h)

-- "writing what was read gives the same bytes": all of them, and behind them what stood there
pub read_write : (text : List ℕ) (lent net : Words) (out : List ℕ) → read_of text lent ≡ read_out (Ok tt) net → Limits.study_bytes ≤ length out
    → write_of net out ≡ over text out
read_write text lent net out e h =
    write_takes net (read_network text lent net e) out h ∙ ap (λ (t : List ℕ). over t out) (read_text text lent net e)

-- "the text has one spelling for each network"
pub one_text : (text text' : List ℕ) (lent lent' net : Words) → read_of text lent ≡ read_out (Ok tt) net → read_of text' lent' ≡ read_out (Ok tt) net → text ≡ text'
one_text text text' lent lent' net e f = sym (read_text text lent net e) ∙ read_text text' lent' net f
