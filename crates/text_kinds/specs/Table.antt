-- The table of kinds as code holds it, flat, against the paper's lists of fields. Assumes nothing.
use Rattle.std.specs.Prelude.{◌+◌, ◌-◌, ◌<◌, ◌≤◌, ◌≡◌, ◌||◌}
use Rattle.whole.specs.Plain.{ℕ, zero, suc, sym, Bool, true, false, not, cond, List, ℤ}
use Rattle.whole.specs.Plain.{get_or, get_or-map, length, length-map, map, ltb, lt-ltb, le-ltb, not-false, add-zero, arith, Words, z, word, between, count}
use Rattle.std.proofs.Math.Nat.{sub-zero}
use Rattle.std.proofs.Common.{add-one, one-add}
use Rattle.whole.specs.Folds.{or_left, or_right}
use Rattle.paper.specs.Rows.{Field, fields_of}
use Rattle.text_kinds.specs.declared.Range.{Range}

-- how many fields of a kind name a node
unfoldable pub names_of : ℕ → ℕ
names_of k = count (λ (f : Field). f.names) (fields_of k)

unfoldable pub low : ℕ → ℕ → ℤ
low k i = (get_or (fields_of k) i (record { names = false; low = z; high = z })).low

unfoldable pub high : ℕ → ℕ → ℤ
high k i = (get_or (fields_of k) i (record { names = false; low = z; high = z })).high

-- the ranges of a kind's fields, as code holds them
abbrev pub range_of : Field → Range
range_of f = record { low = f.low; high = f.high }

unfoldable pub ranges_of : ℕ → List Range
ranges_of k = map range_of (fields_of k)

pub ranges_count : (k : ℕ) → length (ranges_of k) ≡ length (fields_of k)
unfolding ranges_of
ranges_count k = length-map (fields_of k) range_of

pub range_at : (k i : ℕ) → get_or (ranges_of k) i (record { low = z; high = z }) ≡ record { low = low k i; high = high k i }
unfolding ranges_of low high
range_at k i = get_or-map range_of (fields_of k) i (record { names = false; low = z; high = z })

-- n fields from the place i on, one of them out of its range
unfoldable pub any_outside : ℕ → ℕ → ℕ → Words → Bool
any_outside k i zero w = false
any_outside k i (suc n) w = not (between (low k i) (high k i) (word w (suc i))) || any_outside k (suc i) n w

unfoldable pub outside_from : ℕ → ℕ → ℕ → Words → Bool
outside_from k i e w = any_outside k i (e - i) w

-- of n fields from the place i on, the place of the first out of its range, or the place past them
unfoldable pub first_outside : ℕ → ℕ → ℕ → Words → ℕ
first_outside k i zero w = i
first_outside k i (suc n) w = cond (between (low k i) (high k i) (word w (suc i))) (first_outside k (suc i) n w) i

unfoldable pub in_range : ℕ → Words → ℕ
in_range k w = first_outside k 0 (length (fields_of k)) w

-- ---- a turn of the loop over the fields

first_more : (k i e : ℕ) (w : Words) → i < e
    → first_outside k i (e - i) w ≡ cond (between (low k i) (high k i) (word w (1 + i))) (first_outside k (i + 1) (e - (i + 1)) w) i
unfolding first_outside
first_more k i e w h = let d : e - i ≡ suc (e - suc i) = omega arith in rw (one-add, add-one, d)

pub first_done : (k i e : ℕ) (w : Words) → i ≤ e → e ≤ i → first_outside k i (e - i) w ≡ e
unfolding first_outside
first_done k i e w l h = let d : e - i ≡ 0 = omega arith in rw d (omega arith)

pub first_here : (k i e : ℕ) (w : Words) → i < e → between (low k i) (high k i) (word w (1 + i)) ≡ false → first_outside k i (e - i) w ≡ i
first_here k i e w h b = rw (first_more k i e w h, b)

pub first_next : (k i e : ℕ) (w : Words) → i < e → between (low k i) (high k i) (word w (1 + i)) ≡ true → first_outside k i (e - i) w ≡ first_outside k (i + 1) (e - (i + 1)) w
first_next k i e w h b = rw (first_more k i e w h, b)

-- ---- the fields before a place, and those after it, by the first out of its range

first_past : (k i n : ℕ) (w : Words) → i ≤ first_outside k i n w
unfolding first_outside
first_past k i zero w = omega arith
first_past k i (suc n) w = by_test (between (low k i) (high k i) (word w (suc i))) (first_past k (suc i) n w)
  where
    by_test : (t : Bool) → suc i ≤ first_outside k (suc i) n w → i ≤ cond t (first_outside k (suc i) n w) i
    by_test true h = omega arith
    by_test false h = omega arith

pub any_before : (k i m n : ℕ) (w : Words) → m ≤ n → any_outside k i m w ≡ ltb (first_outside k i n w) (i + m)
unfolding any_outside first_outside
any_before k i zero n w h = sym (le-ltb (first_outside k i n w) (i + 0) (omega (arith, first_past k i n w)))
any_before k i (suc m) zero w h = absurd (omega arith)
any_before k i (suc m) (suc n) w h = let a : i + suc m ≡ suc i + m = omega arith in rw a (by_test (between (low k i) (high k i) (word w (suc i))) (any_before k (suc i) m n w (omega arith)))
  where
    by_test : (t : Bool) → any_outside k (suc i) m w ≡ ltb (first_outside k (suc i) n w) (suc i + m)
        → (not t || any_outside k (suc i) m w) ≡ ltb (cond t (first_outside k (suc i) n w) i) (suc i + m)
    by_test true e = e
    by_test false e = sym (lt-ltb i (suc i + m) (omega arith))

pub any_after : (k i m n : ℕ) (w : Words) → m ≤ n → any_outside k i m w ≡ false → any_outside k (i + m) (n - m) w ≡ ltb (first_outside k i n w) (i + n)
unfolding any_outside first_outside
any_after k i zero n w h e = rw (add-zero, sub-zero) (any_before k i n n w (omega arith))
any_after k i (suc m) zero w h e = absurd (omega arith)
any_after k i (suc m) (suc n) w h e =
    let a : i + suc m ≡ suc i + m = omega arith in
    let b : suc n - suc m ≡ n - m = omega arith in
    let d : i + suc n ≡ suc i + n = omega arith in
    let t = between (low k i) (high k i) (word w (suc i)) in
    rw (a, b, d, not-false t (or_left (not t) (any_outside k (suc i) m w) e)) (any_after k (suc i) m n w (omega arith) (or_right (not t) (any_outside k (suc i) m w) e))
