-- "Lines end in LF, the last one too; fields are parted by one tab." Assumes nothing.
use Rattle.std.specs.Prelude.{◌+◌, ◌*◌, ◌-◌, ◌&&◌, ◌||◌, ◌∷◌}
use Rattle.whole.specs.Plain.{ℕ, suc, Bool, true, false, cond, not, bool_beq, List, []}
use Rattle.whole.specs.Plain.{tail, leb, eqb, ℤ, pos, neg_ℤ, get_or, every, fold, same_bytes}
use Rattle.paper.specs.Rows.{Row, Kind, Field, kinds, no_kind, fields_of, signed}

abbrev pub LF : ℕ
LF = 10

abbrev pub TAB : ℕ
TAB = 9

abbrev pub MINUS : ℕ
MINUS = 45

-- ---- lines and fields

abbrev pub push : ℕ → List (List ℕ) → List (List ℕ)
push b [] = (b ∷ []) ∷ []
push b (p ∷ ps) = (b ∷ p) ∷ ps

abbrev pub cut : Bool → ℕ → List (List ℕ) → List (List ℕ)
cut true b ps = [] ∷ ps
cut false b ps = push b ps

-- the pieces between the bytes `at`: always one more than there are such bytes
unfoldable pub split : ℕ → List ℕ → List (List ℕ)
split at [] = [] ∷ []
split at (b ∷ t) = cut (eqb b at) b (split at t)

-- ---- numbers

unfoldable pub digit : ℕ → Bool
digit b = leb 48 b && leb b 57

-- "Numbers are decimal without leading zeros"; "a number however long is well spelt"
unfoldable pub decimal : List ℕ → Bool
decimal [] = false
decimal (b ∷ []) = digit b
decimal (b ∷ (c ∷ t)) = digit b && not (eqb b 48) && every digit (c ∷ t)

-- "a minus stands only before a nonzero peak"
unfoldable pub negative : List ℕ → Bool
negative [] = false
negative (b ∷ t) = eqb b MINUS && decimal t && not (eqb (get_or t 0 48) 48)

unfoldable pub spelt : Field → List ℕ → Bool
spelt f s = decimal s || (signed f && negative s)

unfoldable pub all_spelt : List Field → List (List ℕ) → Bool
all_spelt [] [] = true
all_spelt [] (s ∷ ss) = false
all_spelt (f ∷ fs) [] = false
all_spelt (f ∷ fs) (s ∷ ss) = spelt f s && all_spelt fs ss

unfoldable pub decimal_of : List ℕ → ℕ
decimal_of s = fold (λ n b. 10 * n + (b - 48)) 0 s

unfoldable pub number_of : List ℕ → ℤ
number_of [] = pos 0
number_of (b ∷ t) = cond (eqb b MINUS) (neg_ℤ (pos (decimal_of t))) (pos (decimal_of (b ∷ t)))

-- ---- a line

-- the place of a word in the table of kinds, from n on
unfoldable pub place_of : ℕ → List Kind → List ℕ → ℕ
place_of n [] w = no_kind
place_of n (k ∷ ks) w = let r = place_of (suc n) ks w in cond (same_bytes k.spelt w) n r

unfoldable pub line_kind : List ℕ → ℕ
line_kind line = place_of 0 kinds (get_or (split TAB line) 0 [])

-- 1 FORM: "a line's word, fields or spelling not as above"; "The first line, and only it, is `study`."
unfoldable pub formed : Bool → List ℕ → Bool
formed isFirst line =
    not (eqb (line_kind line) no_kind)
    && bool_beq isFirst (eqb (line_kind line) 0)
    && all_spelt (fields_of (line_kind line)) (tail (split TAB line))

unfoldable pub numbers_of : List (List ℕ) → Row
numbers_of [] = []
numbers_of (s ∷ ss) = number_of s ∷ numbers_of ss

unfoldable pub row_of : List ℕ → Row
row_of line = pos (line_kind line) ∷ numbers_of (tail (split TAB line))
