-- Two digits at a time: the pairs that are looked up. Assumes nothing.
use Rattle.std.specs.Prelude.{◌+◌, ◌*◌, ◌/◌, ◌%◌, ◌≤◌, ◌<◌, ◌≡◌, ◌∷◌, ◌++◌}
use Rattle.whole.specs.Plain.{ℕ, zero, suc, refl, ◌∙◌, cond, List, []}
use Rattle.whole.specs.Plain.{ltb, get_or, lt-ltb, le-ltb, dec_lt, arith}
use Rattle.paper.specs.Listing.{shown_nat}
use Rattle.list_digits.specs.Puts.{Parts}
use Rattle.list_digits.specs.Decimal.{fixed, shown_digit, shown_exact}

-- both digits of n, of the number after it, and so on: m pairs
unfoldable pub pairs_from : ℕ → ℕ → List ℕ
pairs_from n zero = []
pairs_from n (suc m) = (48 + n / 10) ∷ (48 + n % 10) ∷ pairs_from (suc n) m

abbrev pub all_pairs : List ℕ
all_pairs = pairs_from 0 100

pair_from : (n m i : ℕ) → i < m → (get_or (pairs_from n m) (2 * i) 0 ≡ 48 + (n + i) / 10) × (get_or (pairs_from n m) (2 * i + 1) 0 ≡ 48 + (n + i) % 10)
unfolding pairs_from
pair_from n zero i h = absurd (omega arith)
pair_from n (suc m) zero h = let e : n + 0 ≡ n = omega arith in (rw e, rw e)
pair_from n (suc m) (suc i) h =
    let a : 2 * suc i ≡ suc (suc (2 * i)) = omega arith in
    let b : 2 * suc i + 1 ≡ suc (suc (2 * i + 1)) = omega arith in
    let e : n + suc i ≡ suc n + i = omega arith in
    let p = pair_from (suc n) m i (omega arith) in
    (rw (a, e) p.0, rw (b, e) p.1)

pub pair_tens : (n : ℕ) → n < 100 → get_or all_pairs (2 * n) 0 ≡ 48 + n / 10
pair_tens n h = let e : 0 + n ≡ n = omega arith in rw e at (pair_from 0 100 n h).0

pub pair_ones : (n : ℕ) → n < 100 → get_or all_pairs (2 * n + 1) 0 ≡ 48 + n % 10
pair_ones n h = let e : 0 + n ≡ n = omega arith in rw e at (pair_from 0 100 n h).1

pub fixed_pair : (n : ℕ) → n < 100 → fixed 2 n ≡ (48 + n / 10) ∷ (48 + n % 10) ∷ []
unfolding fixed
fixed_pair n h = let e : n / 10 % 10 ≡ n / 10 = omega arith in rw e

-- ---- one or two digits

unfoldable pub tens : ℕ → List ℕ
tens n = cond (ltb n 10) [] ((48 + n / 10) ∷ [])

pub no_tens : (n : ℕ) → n < 10 → tens n ≡ []
unfolding tens
no_tens n h = rw (lt-ltb n 10 h)

pub some_tens : (n : ℕ) → 10 ≤ n → tens n ≡ (48 + n / 10) ∷ []
unfolding tens
some_tens n h = rw (le-ltb n 10 h)

pub small_parts : (n : ℕ) → n < 100 → Parts (shown_nat n) (tens n) ((48 + n % 10) ∷ [])
unfolding fixed
small_parts n h = record { is = go (dec_lt n 10) }
  where
    go : Dec (n < 10) → shown_nat n ≡ tens n ++ ((48 + n % 10) ∷ [])
    go (yes l) = rw (no_tens n l) (shown_digit n l)
    go (no l) = rw (some_tens n (omega arith)) (shown_exact 1 18 n refl (omega arith) (omega arith) (omega arith) (omega arith) ∙ fixed_pair n h)
