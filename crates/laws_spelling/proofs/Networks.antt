-- T-network: a record passes the check of refusal 8 exactly when some text is read to it. Assumes nothing.
use Rattle.std.specs.Prelude.{Ok, Err}
use Rattle.std.specs.Prelude.{◌+◌, ◌*◌, ◌≤◌, ◌<◌, ◌≡◌, ◌≢◌, ◌↔◌, ◌&&◌, ◌∷◌, ◌++◌}
use Rattle.whole.specs.Plain.{ℕ, zero, suc, refl, sym, ap, ◌∙◌, subst, Bool, true}
use Rattle.whole.specs.Plain.{false, cond, not, bool_beq, true≢false, List, [], map, append_assoc}
use Rattle.whole.specs.Plain.{append-nil, eqb, leb, ltb, length, get_or, take, drop, replicate, length-append}
use Rattle.whole.specs.Plain.{length-take, length-map, length-replicate, eqb-true, eq-eqb, le-ltb, le-leb, ℕ_discrete}
use Rattle.whole.specs.Plain.{arith, Words, z, nat, every, empty, fold}
use Rattle.whole.specs.Folds.{and_right, both, every_append, every_map, every_if}
use Rattle.paper.specs.declared.Unread.TheVariants.{Size, Store}
use Rattle.paper.specs.Limits as Limits
use Rattle.paper.specs.Rows.{Row, no_kind, fields_of, kind, is_study}
use Rattle.paper.specs.Faults.{row_fault}
use Rattle.paper.specs.Text.{LF}
use Rattle.paper.specs.Network.{Table, Replay, replayed, sound, passes, network_of, rows_of, count_of_rows, table_of, is_network}
use Rattle.paper.specs.Answers.{reading_number}
use Rattle.paper.specs.Reading.{Lines, good, bad, line_number, taken, lines_of, faulty, Read-out, read_out, read_end, read_of}
use Rattle.laws_facts.specs.Passing.{Taken, head_taken, row_taken}
use Rattle.laws_facts.specs.Layout.{recorded, row_count_most, row_room_in}
use Rattle.laws_spelling.specs.Pieces.{join_length}
use Rattle.laws_spelling.specs.Lines.{Sayable, spell_line}
use Rattle.laws_spelling.specs.Texts.{Sayables, spell_text}
use Rattle.laws_spelling.proofs.Texts.{spelt_spelling}
use Rattle.laws_spelling.proofs.Reader.{row_read, faulty_other, not_empty, rows_bad, spelling_read, taken_spelt}
use Rattle.laws_spelling.specs.Tables.{study_fields, table_network}
use Rattle.laws_spelling.specs.Said.{sayable, small_row, row_small, line_short}

-- ---- reading a table and replaying it

sound_parts : (seen : Table) (r : Row) → sound seen r ≡ true → row_fault seen r ≡ 0
unfolding sound
sound_parts seen r e = eqb-true (row_fault seen r) 0 (and_right (leb (suc (kind r)) no_kind && bool_beq (empty seen) (is_study r)) (eqb (row_fault seen r) 0) e)

sound_of : (seen : Table) (r : Row) → Sayable r → bool_beq (empty seen) (is_study r) ≡ true → row_fault seen r ≡ 0 → sound seen r ≡ true
unfolding sound
sound_of seen r s b f = both (both (le-leb (suc (kind r)) no_kind s.known) b) (eq-eqb (row_fault seen r) 0 f)

abbrev from : Table → Replay
from seen = record { ok = true; seen = seen }

never_ok : (seen : Table) (rows : List Row) → (fold replayed (record { ok = false; seen = seen }) rows).ok ≡ false
unfolding fold replayed
never_ok seen [] = refl
never_ok seen (r ∷ rows) = never_ok (seen ++ (r ∷ [])) rows

replayed_read : (seen : Table) (rows : List Row) → (fold replayed (from seen) rows).ok ≡ true → fold row_read (good seen) rows ≡ good (seen ++ rows)
unfolding fold replayed row_read
replayed_read seen [] e = ap good (sym (append-nil seen))
replayed_read seen (r ∷ rows) e =
    elim (sound seen r) as (λ b. sound seen r ≡ b → (fold replayed (record { ok = b; seen = seen ++ (r ∷ []) }) rows).ok ≡ true
    → fold row_read (taken seen r (row_fault seen r)) rows ≡ good (seen ++ (r ∷ rows)))
    [ true ↦ λ s q. rw (sound_parts seen r s) (replayed_read (seen ++ (r ∷ [])) rows q ∙ ap good (append_assoc seen (r ∷ []) rows)) | false ↦ λ s q. absurd (true≢false (sym q ∙ never_ok (seen ++ (r ∷ [])) rows)) ] refl e

read_replayed : (seen : Table) (rows : List Row) (t : Table) → Sayables (empty seen) rows → fold row_read (good seen) rows ≡ good t → (fold replayed (from seen) rows).ok ≡ true
unfolding fold replayed row_read
read_replayed seen [] t s e = refl
read_replayed seen (r ∷ rows) t s e =
    elim (row_fault seen r) as (λ f. row_fault seen r ≡ f → fold row_read (taken seen r f) rows ≡ good t → (fold replayed (replayed (from seen) r) rows).ok ≡ true) [
      | zero ↦ λ p q. rw (sound_of seen r s.0 s.1 p) (read_replayed (seen ++ (r ∷ [])) rows t (rw (not_empty seen r) s.2) q)
      | suc f ↦ λ p q. let x : bad (line_number seen) (suc f) ≡ good t = sym (rows_bad (line_number seen) (suc f) rows) ∙ q in cc
    ] refl e

-- ---- what the reader writes is a network

pub lines_network : (text : List ℕ) (t : Table) → lines_of text ≡ good t → is_network (network_of t) ≡ true
unfolding passes
lines_network text t e =
    let w = taken_spelt text t e in
    let s = spelt_spelling text w.0 in
    subst (λ (x : Table). is_network (network_of x) ≡ true) (sym w.1)
    (table_network _ s.some s.lines (read_replayed [] _ t s.lines (sym (spelling_read _ text s) ∙ e)))

-- ---- the rows of a network can be said

-- what each row has, all of them have
rows_said : (rows : List Row) → ((i : ℕ) → i < length rows → Sayable (get_or rows i []) × (is_study (get_or rows i []) ≡ false)) → Sayables false rows
rows_said [] h = tt
rows_said (r ∷ rows) h = ((h 0 (omega arith)).0, rw (h 0 (omega arith)).1, rows_said rows (λ i k. h (suc i) (omega arith)))

-- shorter than 96 bytes
abbrev short_line : List ℕ → Bool
short_line p = ltb (length p) 96

module _ (net : Words) (e : is_network net ≡ true) where
  abbrev head : Row
  head = z ∷ take 3 net

  abbrev rows : List Row
  rows = rows_of (nat (count_of_rows net)) (drop 8 net)

  pass : passes (head ∷ rows) ≡ true
  unfolding table_of
  pass = (recorded net e).pass

  head_few : length head ≤ suc (length (fields_of (kind head)))
  head_few = rw (study_fields, length-take) (omega arith)

  said : Sayables true (head ∷ rows)
  unfolding table_of
  said = (sayable true [] [] head t head_few, rw t.study, rows_said rows (λ i h. let u = row_taken head rows i pass h in (sayable false _ _ _ u (row_room_in net e i h), u.study)))
    where
      t : Taken true [] [] head
      t = head_taken head rows pass

  short : every short_line (map spell_line (head ∷ rows) ++ ([] ∷ [])) ≡ true
  unfolding every table_of
  short =
      every_append short_line (map spell_line (head ∷ rows)) ([] ∷ [])
      ∙ both (both (line_short true [] [] head (head_taken head rows pass) head_few) (every_map short_line spell_line rows ∙ every_if _ rows [] (λ i h. line_short false _ _ _ (row_taken head rows i pass h) (row_room_in net e i h)))) refl

  -- and no word of them is larger than a field may be
  pub all_small : every small_row (table_of net) ≡ true
  unfolding every table_of
  all_small = both (row_small true [] [] head (head_taken head rows pass) head_few) (every_if small_row rows [] (λ i h. row_small false _ _ _ (row_taken head rows i pass h) (row_room_in net e i h)))

  -- 81 lines and what stands behind the last, each of fewer than 96 bytes
  pub text_fits : length (spell_text (table_of net)) ≤ Limits.study_bytes
  unfolding spell_text table_of
  text_fits =
      let l = join_length LF 96 (map spell_line (head ∷ rows) ++ ([] ∷ [])) (omega (arith, length-append (map spell_line (head ∷ rows)) ([] ∷ []))) short in
      let n : length (map spell_line (head ∷ rows) ++ ([] ∷ [])) ≡ length rows + 2 = length-append (map spell_line (head ∷ rows)) ([] ∷ []) ∙ rw (length-map (head ∷ rows) spell_line) (omega arith) in
      let c : length (spell_text (head ∷ rows)) < (length rows + 2) * 96 = rw n at l in
      omega (arith, row_count_most net e)

  lines_of_lem : lines_of (spell_text (head ∷ rows)) ≡ good (head ∷ rows)
  unfolding passes
  lines_of_lem = spelling_read (head ∷ rows) (spell_text (head ∷ rows)) (record { some = omega arith; lines = said; is = refl }) ∙ replayed_read [] (head ∷ rows) pass

  -- whatever stands in the record that is lent, reading the spelling of the network's own lines writes the network
  pub network_read : (lent : Words) → length lent ≡ Limits.network_words → read_of (spell_text (table_of net)) lent ≡ read_out (Ok tt) net
  unfolding read_of table_of
  network_read lent h =
      rw (eq-eqb (length lent) Limits.network_words h, le-ltb Limits.text_end (length (spell_text (head ∷ rows))) (omega (arith, text_fits)), lines_of_lem)
      (ap (read_out (Ok tt)) (sym (recorded net e).written))

-- ---- both ways

-- a text, and a record lent to be written, that a reading takes to this one
pub record ReadFrom (net : Words) : Type 0 where
  pub text : List ℕ
  pub lent : Words
  pub reads : read_of text lent ≡ read_out (Ok tt) net

faulty_number : (l f : ℕ) → reading_number (faulty l f) ≢ 0
unfolding faulty
faulty_number l f = elim (ℕ_discrete f 1) [ yes e ↦ rw (eq-eqb f 1 e) (λ q. omega arith) | no n ↦ λ q. omega (arith, faulty_other l f n) ]

-- what an accepted reading took
pub record Took (text : List ℕ) (net : Words) : Type 0 where
  pub table : Table
  pub lines : lines_of text ≡ good table
  pub is : net ≡ network_of table

pub read_took : (text : List ℕ) (lent net : Words) → read_of text lent ≡ read_out (Ok tt) net → Took text net
unfolding read_of
read_took text lent net e = go (not (eqb (length lent) Limits.network_words)) (ltb Limits.text_end (length text)) (lines_of text) refl e
  where
    go : (a b : Bool) (l : Lines) → lines_of text ≡ l → cond a (read_out (Err Store) lent) (cond b (read_out (Err Size) lent) (read_end lent l)) ≡ read_out (Ok tt) net → Took text net
    go true b l q h = let x : ◌≡◌ {A = ℕ} 9 0 = ap (λ (r : Read-out). reading_number r.answer) h in absurd (omega arith)
    go false true l q h = let x : ◌≡◌ {A = ℕ} 7 0 = ap (λ (r : Read-out). reading_number r.answer) h in absurd (omega arith)
    go false false (good t) q h = record { table = t; lines = q; is = sym (ap (λ (r : Read-out). r.network) h) }
    go false false (bad l f) q h = absurd (faulty_number l f (ap (λ (r : Read-out). reading_number r.answer) h))

pub read_network : (text : List ℕ) (lent net : Words) → read_of text lent ≡ read_out (Ok tt) net → is_network net ≡ true
read_network text lent net e = let w = read_took text lent net e in subst (λ (x : Words). is_network x ≡ true) (sym w.is) (lines_network text w.table w.lines)

pub network_exactly : (net : Words) → (is_network net ≡ true) ↔ ReadFrom net
network_exactly net = (
  λ e. record { text = spell_text (table_of net); lent = replicate Limits.network_words z; reads = network_read net e (replicate Limits.network_words z) (length-replicate Limits.network_words z) },
  λ r. read_network r.text r.lent net r.reads,
)
