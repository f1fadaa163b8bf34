-- The lines of a step in parts. Assumes nothing.
use Rattle.std.specs.Prelude.{◌∷◌, ◌++◌}
use Rattle.whole.specs.Plain.{ℕ, refl, List, [], append_assoc, ℤ, pos}
use Rattle.paper.specs.Text.{LF, TAB}
use Rattle.paper.specs.Listing.{shown_nat, shown, shown_all, line_of}
use Rattle.list_digits.specs.Puts.{Parts}
use Rattle.list_line.specs.declared.Head.{Head}
use Rattle.list_line.specs.Heads.{text_of}

-- a number and the byte behind it
abbrev pub count_text : ℕ → List ℕ
count_text n = shown_nat n ++ (TAB ∷ [])

abbrev pub ended_text : ℤ → ℕ → List ℕ
ended_text x end = shown x ++ (end ∷ [])

-- up to the values
abbrev pub start_text : Head → ℕ → List ℕ
start_text h n = text_of h ++ count_text n

abbrev pub row_text : Head → ℕ → ℤ → List ℕ
row_text h n x = line_of (h.letter ∷ []) (pos h.step ∷ pos n ∷ x ∷ [])

abbrev pub line_text : Head → ℕ → ℤ → ℤ → List ℕ
line_text h n x y = line_of (h.letter ∷ []) (pos h.step ∷ pos n ∷ x ∷ y ∷ [])

pub count_parts : (n : ℕ) → Parts (count_text n) (shown_nat n) (TAB ∷ [])
count_parts n = record { is = refl }

pub ended_parts : (x : ℤ) (end : ℕ) → Parts (ended_text x end) (shown x) (end ∷ [])
ended_parts x end = record { is = refl }

pub start_parts : (h : Head) (n : ℕ) → Parts (start_text h n) (text_of h) (count_text n)
start_parts h n = record { is = refl }

pub both_parts : (x y : ℤ) → Parts (ended_text x TAB ++ ended_text y LF) (ended_text x TAB) (ended_text y LF)
both_parts x y = record { is = refl }

pub row_parts : (h : Head) (n : ℕ) (x : ℤ) → Parts (row_text h n x) (start_text h n) (ended_text x LF)
unfolding shown_all shown
row_parts h n x = record { is = simp append_assoc }

pub line_parts : (h : Head) (n : ℕ) (x y : ℤ) → Parts (line_text h n x y) (start_text h n) (ended_text x TAB ++ ended_text y LF)
unfolding shown_all shown
line_parts h n x y = record { is = simp append_assoc }
