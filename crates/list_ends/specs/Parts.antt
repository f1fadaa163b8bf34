-- The lines of a listing in parts: a word, the numbers one after another with a tab before each, the end of the line. Assumes nothing.
use Rattle.std.specs.Prelude.{refl, List, [], ◌∷◌, ◌++◌, ℤ, ℕ, ◌+◌, ◌<◌, ◌≤◌, ◌≡◌, length, map, drop, slice_index_or}
use Rattle.std.proofs.Common.{add-one, drop-cons, drop_of_length-le}
use Rattle.paper.specs.Text.{LF, TAB}
use Rattle.paper.specs.Listing.{shown, shown_all, line_of}
use Rattle.list_digits.specs.Puts.{Parts}

pub line_word : (w : List ℕ) (xs : List ℤ) → Parts (line_of w xs) w (shown_all xs)
line_word w xs = record { is = refl }

-- ---- the numbers that are left: the tab before the first, and the first

pub left_next : {A : Type 0} (f : A → ℤ) (xs : List A) (i : ℕ) (x : A) → i < length xs → x ≡ slice_index_or xs i x
    → map f (drop i xs) ≡ f x ∷ map f (drop (i + 1) xs)
left_next f xs i x h e = rw (add-one, drop-cons xs i x h, ← e) refl

pub tab_next : {xs : List ℤ} {x : ℤ} {rest : List ℤ} → xs ≡ x ∷ rest → Parts (shown_all xs) (TAB ∷ []) (shown x ++ shown_all rest)
unfolding shown_all
tab_next e = record { is = rw e refl }

pub shown_next : (x : ℤ) (rest : List ℤ) → Parts (shown x ++ shown_all rest) (shown x) (shown_all rest)
shown_next x rest = record { is = refl }

-- after the last, the end of the line
pub none_left : {A : Type 0} (f : A → ℤ) (xs : List A) (i : ℕ) → length xs ≤ i → shown_all (map f (drop i xs)) ≡ LF ∷ []
unfolding shown_all
none_left f xs i h = rw (drop_of_length-le xs h)
