-- T-spelling: a text of which no line is at fault by FORM is the spelling of exactly one list of lines, and the reader goes by these lines alone.
-- Assumes nothing.
use Rattle.std.specs.Prelude.{◌<◌, ◌≡◌, ◌&&◌, ◌∷◌, ◌++◌}
use Rattle.whole.specs.Plain.{ℕ, refl, sym, ap, ◌∙◌, Bool, true, false, not, true≢false, List}
use Rattle.whole.specs.Plain.{[], map, length, length-append, arith, every, empty, lead, final}
use Rattle.whole.specs.Folds.{and_left, and_right, both, every_append}
use Rattle.paper.specs.Rows.{Row}
use Rattle.paper.specs.Text.{LF, split, formed, row_of}
use Rattle.paper.specs.Network.{Table}
use Rattle.laws_spelling.specs.Pieces.{join, free, split_some, join_split, split_join, lead_last, final_last, lead_final}
use Rattle.laws_spelling.specs.Lines.{spell_line, line_free}
use Rattle.laws_spelling.proofs.Lines.{line_row, line_formed, formed_said}
use Rattle.laws_spelling.specs.Texts.{all_formed, well_spelt, Sayables, spell_text, Spelling, lines_in}

-- ---- its pieces

lines_free : (rows : List Row) → every (free LF) (map spell_line rows) ≡ true
unfolding every
lines_free [] = refl
lines_free (r ∷ rows) = both (line_free r) (lines_free rows)

text_pieces : (rows : List Row) → split LF (spell_text rows) ≡ map spell_line rows ++ ([] ∷ [])
unfolding spell_text every
text_pieces rows =
    split_join LF (map spell_line rows ++ ([] ∷ [])) (omega (arith, length-append (map spell_line rows) ([] ∷ [])))
    (every_append (free LF) (map spell_line rows) ([] ∷ []) ∙ both (lines_free rows) refl)

pub text_lead : (rows : List Row) → lead (split LF (spell_text rows)) ≡ map spell_line rows
text_lead rows = ap lead (text_pieces rows) ∙ lead_last (map spell_line rows) []

pub text_final : (rows : List Row) → final [] (split LF (spell_text rows)) ≡ []
text_final rows = ap (final []) (text_pieces rows) ∙ final_last (map spell_line rows) [] []

-- ---- from the lines to the text

rows_formed : (f : Bool) (rows : List Row) → Sayables f rows → all_formed f (map spell_line rows) ≡ true
unfolding all_formed
rows_formed f [] s = refl
rows_formed f (r ∷ rows) s = both (line_formed f r s.0 s.1) (rows_formed false rows s.2)

rows_some : (rows : List Row) → 0 < length rows → not (empty (map spell_line rows)) ≡ true
rows_some [] h = absurd (omega arith)
rows_some (r ∷ rows) h = refl

pub spelling_spelt : (rows : Table) (text : List ℕ) → Spelling rows text → well_spelt text ≡ true
unfolding well_spelt
spelling_spelt rows text s = rw (s.is, text_lead rows, text_final rows) (both (rows_some rows s.some) (rows_formed true rows s.lines))

-- ---- from the text to the lines

said_rows : (f : Bool) (ls : List (List ℕ)) → all_formed f ls ≡ true → Sayables f (map row_of ls) × (map spell_line (map row_of ls) ≡ ls)
unfolding all_formed
said_rows f [] e = (tt, refl)
said_rows f (l ∷ ls) e =
    let a = formed_said f l (and_left (formed f l) (all_formed false ls) e) in
    let b = said_rows false ls (and_right (formed f l) (all_formed false ls) e) in
    ((a.row, a.first, b.0), rw (← a.is, b.1))

empty_is : (s : List ℕ) → empty s ≡ true → s ≡ []
empty_is [] e = refl
empty_is (b ∷ s) e = absurd (true≢false (sym e))

some_rows : (ls : List (List ℕ)) → not (empty ls) ≡ true → 0 < length (map row_of ls)
some_rows [] e = absurd (true≢false (sym e))
some_rows (l ∷ ls) e = omega arith

pub spelt_spelling : (text : List ℕ) → well_spelt text ≡ true → Spelling (lines_in text) text
unfolding well_spelt spell_text
spelt_spelling text e =
    let ps = split LF text in
    let ls = lead ps in
    let p = and_left (empty (final [] ps) && not (empty ls)) (all_formed true ls) e in
    let last : final [] ps ≡ [] = empty_is (final [] ps) (and_left (empty (final [] ps)) (not (empty ls)) p) in
    let said = said_rows true ls (and_right (empty (final [] ps) && not (empty ls)) (all_formed true ls) e) in
    record {
      some = some_rows ls (and_right (empty (final [] ps)) (not (empty ls)) p);
      lines = said.0;
      is = sym (join_split LF text) ∙ ap (join LF) (sym (lead_final ps [] (split_some LF text)) ∙ rw (last, said.1));
    }

-- ---- exactly one

rows_again : (f : Bool) (rows : List Row) → Sayables f rows → map row_of (map spell_line rows) ≡ rows
rows_again f [] s = refl
rows_again f (r ∷ rows) s = rw (line_row r s.0, rows_again false rows s.2)

pub spelling_lines : (rows : Table) (text : List ℕ) → Spelling rows text → lines_in text ≡ rows
spelling_lines rows text s = ap lines_in s.is ∙ ap (map row_of) (text_lead rows) ∙ rows_again true rows s.lines

pub spelling_one : (rows rows' : Table) (text : List ℕ) → Spelling rows text → Spelling rows' text → rows ≡ rows'
spelling_one rows rows' text s t = sym (spelling_lines rows text s) ∙ spelling_lines rows' text t
