-- The text as far as it is read. Assumes nothing.
use Rattle.std.specs.Prelude.{Option, Some, None, Result, Ok, Err, ◌+◌, ◌*◌, ◌≤◌, ◌<◌, ◌≡◌, ◌∷◌, ◌++◌}
use Rattle.whole.specs.Plain.{ℕ, suc, refl, sym, ◌∙◌, ap, Bool, true, false, cond}
use Rattle.whole.specs.Plain.{bool_beq, true≢false, List, [], tail, eqb, get_or, length, drop, replicate}
use Rattle.whole.specs.Plain.{length-append, length-replicate, eqb-true, eqb-false, arith, Words, z, empty, filled}
use Rattle.whole.specs.Filled.{length_filled}
use Rattle.paper.specs.Rows.{bytes, kinds, fields_of, branch_kind, source_kind, is_study}
use Rattle.paper.specs.Classes.{one_sort}
use Rattle.paper.specs.Text.{line_kind, row_of}
use Rattle.paper.specs.Network.{Table, laid, network_of}
use Rattle.paper.specs.Reading.{Lines, good, bad, line_number, lines_of}
use Rattle.text_faults.specs.declared.Seen.{Seen}
use Rattle.text_faults.specs.Seen.{nothing_seen, seen_fault, seen_after}
use Rattle.text_faults.specs.Stands.{Stands, stands_none}
use Rattle.text_line.specs.declared.Walk.{Walk}
use Rattle.text_faults.specs.declared.rows.Row.{Row}
use Rattle.paper.specs.declared.Fault.TheVariants.{Form}
use Rattle.paper.specs.Faulted.{fault_number}
use Rattle.text_study.specs.declared.Progress.{Progress}
use Rattle.text_study.specs.declared.BadLine.{BadLine}
use Rattle.text_study.specs.Laid.{put_line, put_row_lem, put_study_lem, laid_one, network_none}
use Rattle.text_study.specs.Texts.{lines_from, from_start, spelled}
use Rattle.text_study.specs.Held.{held_row}
use Rattle.text_study.specs.Rows as Line

-- the fault of a line: 1 where it is not well formed or out of its place, else its row's
unfoldable pub fault_seen : Option Walk → Seen → Bool → ℕ
fault_seen None s first = 1
fault_seen (Some w) s first = cond (bool_beq first (is_study w.row)) (seen_fault s w.row) 1

-- "empty text (line 1)"
unfoldable pub closed_up : Progress → Result (Unit {0}) BadLine
closed_up p = cond (eqb p.line 1) (Err (record { line = p.line; fault = Form })) (Ok tt)

-- how many rows there are, and how they lie
pub record Kept (s : Seen) (t : Table) : Type 0 where
  pub rows : length (tail t) ≡ s.branches + s.sources
  pub wide : length (laid (tail t)) ≡ 8 * length (tail t)
  pub head : empty t ≡ false → length (get_or t 0 []) ≡ 4

-- what the lines before have given
pub record Fine (text : List ℕ) (p : Progress) (net : Words) : Type 0 where
  pub t : Table
  pub line : p.line ≡ line_number t
  pub stands : Stands p.seen t
  pub kept : Kept p.seen t
  pub written : net ≡ network_of t
  pub rest : lines_from (good t) (drop p.at text) ≡ lines_of text

pub record State (text : List ℕ) (p : Progress) (net : Words) : Type 0 where
  pub inside : p.at ≤ length text
  pub lines : p.line ≤ suc p.at
  pub wide : length net ≡ 1024
  pub fine : Fine text p net

-- the whole text
pub record Accepted (ls : Lines) (net : Words) : Type 0 where
  pub t : Table
  pub lines : ls ≡ good t
  pub written : net ≡ network_of t

-- the first faulty line
abbrev pub Faulty : Lines → BadLine → Type 0
Faulty ls b = ls ≡ bad b.line (fault_number b.fault)

abbrev pub Ends : Lines → Result (Unit {0}) BadLine → Words → Type 0
Ends ls (Ok u) net = Accepted ls net
Ends ls (Err b) net = Faulty ls b

-- a well-formed line's row where it has no fault, or its fault
abbrev pub Rows : Walk → Seen → ℕ → Result Row BadLine → Type 0
Rows w s line (Ok r) = (r.words ≡ w.row) × (fault_seen (Some w) s (eqb line 1) ≡ 0)
Rows w s line (Err b) = (b.line ≡ line) × (fault_number b.fault ≡ fault_seen (Some w) s (eqb line 1))

-- one line more, or the first faulty one
abbrev pub Next : List ℕ → Progress → Result Progress BadLine → Words → Type 0
Next text p (Ok r) net = State text r net × (p.at < r.at)
Next text p (Err b) net = Faulty (lines_of text) b

-- ---- before the first line

pub started : (text : List ℕ) (net : Words) → net ≡ replicate 1024 z → State text (record { at = 0; line = 1; seen = nothing_seen }) net
unfolding laid
started text net e =
    let none : Kept nothing_seen [] = record { rows = refl; wide = refl; head = λ e. absurd (true≢false e) } in
    record {
      inside = omega arith;
      lines = omega arith;
      wide = rw e (length-replicate 1024 z);
      fine = record { t = []; line = refl; stands = stands_none; kept = none; written = e ∙ sym network_none; rest = from_start text };
    }

-- ---- a line without fault

-- a row after the study's is a branch or a source
one_of : (k : ℕ) → k < 10 → eqb k 0 ≡ false → cond (branch_kind k) 1 0 + cond (source_kind k) 1 0 ≡ 1
one_of k h n = let q : k ≡ 0 → ⊥ = eqb-false k 0 n in one_sort k (omega arith) (omega arith)

module _ (line : List ℕ) (ok : spelled line ≡ true) (s : Seen) where
  abbrev held : Words
  held = held_row (filled 8 z (row_of line))

  abbrev pub in_place : Table → Type 0
  in_place t = bool_beq (empty t) (eqb (line_kind line) 0) ≡ true

  counted : eqb (line_kind line) 0 ≡ false → (seen_after s held).branches + (seen_after s held).sources ≡ suc (s.branches + s.sources)
  unfolding seen_after
  counted n = rw (Line.kind_held line ok) (omega (arith, one_of (line_kind line) (Line.known line ok) n))

  uncounted : line_kind line ≡ 0 → (seen_after s held).branches + (seen_after s held).sources ≡ s.branches + s.sources
  unfolding seen_after branch_kind source_kind kinds
  uncounted e = rw (Line.kind_held line ok, e) (omega arith)

  study_four : line_kind line ≡ 0 → length (row_of line) ≡ 4
  unfolding fields_of kinds bytes
  study_four e = Line.row_length line ok ∙ rw e

  pub kept_after : (t : Table) → in_place t → Kept s t → Kept (seen_after s held) (t ++ (row_of line ∷ []))
  unfolding laid
  kept_after [] p k =
      let e = eqb-true (line_kind line) 0 (sym (Line.beq_eq true (eqb (line_kind line) 0) p)) in
      record { rows = k.rows ∙ sym (uncounted e); wide = refl; head = λ _. study_four e }
  kept_after (r ∷ rows) p k =
      let n = sym (Line.beq_eq false (eqb (line_kind line) 0) p) in
      record {
        rows = length-append rows (row_of line ∷ []) ∙ omega (arith, k.rows, counted n);
        wide = rw (laid_one rows (row_of line), length-append (laid rows) (filled 8 z (row_of line)), length-append rows (row_of line ∷ []), length_filled 8 z (row_of line) (Line.row_short line ok)) (omega (arith, k.wide));
        head = k.head;
      }

  -- there is room for it
  pub room : (t : Table) → in_place t → Stands s t → seen_fault s held ≡ 0 → is_study held ≡ false → s.branches + s.sources < 80
  room t p h right n =
      let a = (Line.still_stands line ok s t h p right).held in
      omega (arith, a.branches, a.sources, counted (sym (ap (λ (k : ℕ). eqb k 0) (Line.kind_held line ok)) ∙ n))

  -- and the record has it
  pub put_here : (t : Table) → in_place t → Stands s t → Kept s t → seen_fault s held ≡ 0 → put_line (s.branches + s.sources) held (network_of t) ≡ network_of (t ++ (row_of line ∷ []))
  unfolding put_line
  put_here [] p h k right =
      let e = eqb-true (line_kind line) 0 (sym (Line.beq_eq true (eqb (line_kind line) 0) p)) in
      rw (Line.kind_held line ok, e) (rw (Line.as_it_is line ok s [] h p right) (put_study_lem (row_of line) (study_four e)))
  put_here (r ∷ rows) p h k right =
      let n = sym (Line.beq_eq false (eqb (line_kind line) 0) p) in
      let m : is_study held ≡ false = ap (λ (j : ℕ). eqb j 0) (Line.kind_held line ok) ∙ n in
      rw (Line.kind_held line ok, n, ← k.rows, Line.as_it_is line ok s (r ∷ rows) h p right)
      (put_row_lem r rows (row_of line) (k.head refl) k.wide (Line.row_short line ok) (rw k.rows (room (r ∷ rows) p h right m)))
