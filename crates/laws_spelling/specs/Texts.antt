-- T-spelling: a text of which no line is at fault by FORM is the spelling of exactly one list of lines, and the reader goes by these lines alone.
-- Assumes nothing.
use Rattle.std.specs.Prelude.{◌<◌, ◌≡◌, ◌&&◌, ◌∷◌, ◌++◌}
use Rattle.whole.specs.Plain.{ℕ, Bool, true, false, not, bool_beq, List}
use Rattle.whole.specs.Plain.{[], map, length, empty, lead, final}
use Rattle.paper.specs.Rows.{Row, is_study}
use Rattle.paper.specs.Text.{LF, split, formed, row_of}
use Rattle.paper.specs.Network.{Table}
use Rattle.laws_spelling.specs.Pieces.{join}
use Rattle.laws_spelling.specs.Lines.{Sayable, spell_line}

-- ---- lines

-- no line is at fault by FORM: the first is `study`, and only it
unfoldable pub all_formed : Bool → List (List ℕ) → Bool
all_formed f [] = true
all_formed f (l ∷ ls) = formed f l && all_formed false ls

-- "Lines end in LF, the last one too"; "empty text (line 1)"
unfoldable pub well_spelt : List ℕ → Bool
well_spelt text = let pieces = split LF text in empty (final [] pieces) && not (empty (lead pieces)) && all_formed true (lead pieces)

-- ---- the spelling of some lines, each given by its row

abbrev pub Sayables : Bool → List Row → Type 0
Sayables f [] = Unit {0}
Sayables f (r ∷ rs) = Sayable r × (bool_beq f (is_study r) ≡ true) × Sayables false rs

unfoldable pub spell_text : Table → List ℕ
spell_text rows = join LF (map spell_line rows ++ ([] ∷ []))

pub record Spelling (rows : Table) (text : List ℕ) : Type 0 where
  pub some : 0 < length rows
  pub lines : Sayables true rows
  pub is : text ≡ spell_text rows

-- ---- the lines of a text

abbrev pub lines_in : List ℕ → Table
lines_in text = map row_of (lead (split LF text))
