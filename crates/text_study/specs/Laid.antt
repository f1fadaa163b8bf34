-- One row more in the record: its eight words in their place, and the number of rows. Assumes nothing.
use Rattle.std.specs.Prelude.{◌+◌, ◌*◌, ◌-◌, ◌≤◌, ◌<◌, ◌≡◌, ◌∷◌, ◌++◌}
use Rattle.whole.specs.Plain.{ℕ, refl, sym, ◌∙◌, ap, cond, List, []}
use Rattle.whole.specs.Plain.{append_assoc, append-nil, ℤ, pos, length, drop, set, replicate, length-append}
use Rattle.whole.specs.Plain.{length-replicate, sets, sets-eq, take_at, drop-append-add}
use Rattle.whole.specs.Plain.{set-append_left, arith, Words, z, word, filled}
use Rattle.whole.specs.Filled.{length_filled}
use Rattle.paper.specs.Rows.{Row, is_study}
use Rattle.paper.specs.Network.{laid, network_of}
use Rattle.whole.specs.Repeats.{drop_replicate}

-- what the reader writes for the row n, and for the study's
unfoldable pub put_row : ℕ → Words → Words → Words
put_row n w l = set (sets l (8 + 8 * n) w) 3 (pos (n + 1))

unfoldable pub put_study : Words → Words → Words
put_study w l = set (set (set l 0 (word w 1)) 1 (word w 2)) 2 (word w 3)

unfoldable pub put_line : ℕ → Words → Words → Words
put_line n w l = cond (is_study w) (put_study w l) (put_row n w l)

-- ---- rows laid one after the other

pub laid_one : (rows : List Row) (r : Row) → laid (rows ++ (r ∷ [])) ≡ laid rows ++ filled 8 z r
unfolding laid
laid_one [] r = append-nil (filled 8 z r)
laid_one (s ∷ rows) r = ap (λ (l : Words). filled 8 z s ++ l) (laid_one rows r) ∙ sym (append_assoc (filled 8 z s) (laid rows) (filled 8 z r))

-- the head of a record, with its number of rows
top : ℤ → ℤ → ℤ → ℤ → Words
top a b c n = a ∷ b ∷ c ∷ n ∷ z ∷ z ∷ z ∷ z ∷ []

whole : (a b c : ℤ) (r : ℤ) (rows : List Row) → network_of ((r ∷ a ∷ b ∷ c ∷ []) ∷ rows) ≡ filled 1024 z (top a b c (pos (length rows)) ++ laid rows)
unfolding network_of filled top
whole a b c r rows = refl

module _ (a b c : ℤ) (n : ℕ) (l w : Words) (f : length l ≡ 8 * n) (g : length w ≡ 8) (h : n < 80) where
  wide : length (top a b c (pos n) ++ l) ≡ 8 + 8 * n
  unfolding top
  wide = length-append (top a b c (pos n)) l ∙ omega arith

  -- the words in their place
  placed : sets (filled 1024 z (top a b c (pos n) ++ l)) (8 + 8 * n) w ≡ ((top a b c (pos n) ++ l) ++ w) ++ replicate (1024 - (8 + 8 * n + 8)) z
  unfolding filled
  placed =
      let x = top a b c (pos n) ++ l in
      let m = 1024 - length x in
      let e : 8 + 8 * n + length w ≡ length x + 8 = omega (arith, wide) in
      let k : m - 8 ≡ 1024 - (8 + 8 * n + 8) = omega (arith, wide) in
      sets-eq w (x ++ replicate m z) (8 + 8 * n) (rw (length-append x (replicate m z), length-replicate m z) (omega (arith, wide)))
      ∙ ap (λ (y : Words). (y ++ w) ++ drop (8 + 8 * n + length w) (x ++ replicate m z)) (take_at x (replicate m z) (8 + 8 * n) wide)
      ∙ ap (λ (y : Words). (x ++ w) ++ y) (ap (λ (j : ℕ). drop j (x ++ replicate m z)) e ∙ drop-append-add x (replicate m z) 8 ∙ drop_replicate 8 m z ∙ ap (λ (j : ℕ). replicate j z) k)

  -- and the number of rows
  numbered : (v : ℤ) (r : Words) → set (((top a b c (pos n) ++ l) ++ w) ++ r) 3 v ≡ ((top a b c v ++ l) ++ w) ++ r
  unfolding top
  numbered v r =
      let x = top a b c (pos n) in
      set-append_left ((x ++ l) ++ w) r 3 v (rw (length-append (x ++ l) w, length-append x l) (omega arith))
      ∙ ap (λ (y : Words). y ++ r)
      (set-append_left (x ++ l) w 3 v (rw (length-append x l) (omega arith))
      ∙ ap (λ (y : Words). y ++ w) (set-append_left x l 3 v (omega arith)))

  -- which is the record with one row more
  closed_up : (v : ℤ) (m : Words) → m ≡ l ++ w → ((top a b c v ++ l) ++ w) ++ replicate (1024 - (8 + 8 * n + 8)) z ≡ filled 1024 z (top a b c v ++ m)
  unfolding filled top
  closed_up v m e =
      let k : 1024 - (8 + 8 * n + 8) ≡ 1024 - length (top a b c v ++ (l ++ w)) = rw (length-append (top a b c v) (l ++ w), length-append l w) (omega arith) in
      rw (e, ← k) (ap (λ (y : Words). y ++ replicate (1024 - (8 + 8 * n + 8)) z) (append_assoc (top a b c v) l w))

-- a study's row by its words
four : (r : Row) → length r ≡ 4 → r ≡ word r 0 ∷ word r 1 ∷ word r 2 ∷ word r 3 ∷ []
four (k ∷ a ∷ b ∷ c ∷ []) e = refl
four (k ∷ a ∷ b ∷ c ∷ d ∷ r) e = absurd (omega arith)
four (k ∷ a ∷ b ∷ []) e = absurd (omega arith)
four (k ∷ a ∷ []) e = absurd (omega arith)
four (k ∷ []) e = absurd (omega arith)
four [] e = absurd (omega arith)

put_row_at : (k a b c : ℤ) (rows : List Row) (r : Row) → length (laid rows) ≡ 8 * length rows → length r ≤ 8 → length rows < 80
    → put_row (length rows) (filled 8 z r) (network_of ((k ∷ a ∷ b ∷ c ∷ []) ∷ rows)) ≡ network_of ((k ∷ a ∷ b ∷ c ∷ []) ∷ (rows ++ (r ∷ [])))
unfolding put_row
put_row_at k a b c rows r f g h =
    let n = length rows in
    let w = filled 8 z r in
    let e : length w ≡ 8 = length_filled 8 z r g in
    let v : n + 1 ≡ length (rows ++ (r ∷ [])) = sym (length-append rows (r ∷ [])) in
    let room = replicate (1024 - (8 + 8 * n + 8)) z in
    rw (whole a b c k rows, whole a b c k (rows ++ (r ∷ [])), placed a b c n (laid rows) w f e h, numbered a b c n (laid rows) w f e h (pos (n + 1)) room, ← v)
    (closed_up a b c n (laid rows) w f e h (pos (n + 1)) (laid (rows ++ (r ∷ []))) (laid_one rows r))

pub put_row_lem : (t0 : Row) (rows : List Row) (r : Row) → length t0 ≡ 4 → length (laid rows) ≡ 8 * length rows → length r ≤ 8 → length rows < 80
    → put_row (length rows) (filled 8 z r) (network_of (t0 ∷ rows)) ≡ network_of (t0 ∷ (rows ++ (r ∷ [])))
put_row_lem t0 rows r e f g h = rw (four t0 e) (put_row_at (word t0 0) (word t0 1) (word t0 2) (word t0 3) rows r f g h)

-- ---- the study's row

pub put_study_lem : (r : Row) → length r ≡ 4 → put_study (filled 8 z r) (network_of []) ≡ network_of (r ∷ [])
unfolding put_study network_of filled laid
put_study_lem r e = rw (four r e)

pub network_none : network_of [] ≡ replicate 1024 z
unfolding network_of filled laid
network_none = refl
