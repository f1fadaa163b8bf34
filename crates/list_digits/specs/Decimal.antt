-- A number's digits, several at a time. Assumes nothing.
use Rattle.std.specs.Prelude.{◌+◌, ◌*◌, ◌/◌, ◌%◌, ◌^◌, ◌≤◌, ◌<◌, ◌≡◌, ◌∷◌, ◌++◌}
use Rattle.whole.specs.Plain.{ℕ, zero, suc, refl, sym, ap, ◌∙◌, Bool, true}
use Rattle.whole.specs.Plain.{false, not, List, [], append_assoc, append-nil, eqb, ℤ, pos, negsuc, nat_abs}
use Rattle.whole.specs.Plain.{length, length-append, mul_assoc, pow-suc, pow-succ', one-le-pow}
use Rattle.whole.specs.Plain.{div-div-eq-div-mul, div-le_self, div-one, div-add-mod', arith}
use Rattle.paper.specs.Listing.{digits, shown_nat, shown}
use Rattle.laws_spelling.specs.Digits.{before, last, one_digit, more_digits, same_room}
use Rattle.list_digits.specs.Puts.{Puts, Parts, puts_room}

-- n's last w digits, zeros in front too
unfoldable pub fixed : ℕ → ℕ → List ℕ
fixed zero n = []
fixed (suc w) n = fixed w (n / 10) ++ ((48 + n % 10) ∷ [])

pub length_fixed : (w n : ℕ) → length (fixed w n) ≡ w
unfolding fixed
length_fixed zero n = refl
length_fixed (suc w) n = omega (arith, length-append (fixed w (n / 10)) ((48 + n % 10) ∷ []), length_fixed w (n / 10))

-- ---- the listing's digits, the last one first

by_ten : (w n : ℕ) → n / 10 / 10 ^ w ≡ n / 10 ^ suc w
by_ten w n = div-div-eq-div-mul n 10 (10 ^ w) ∙ ap (λ (x : ℕ). n / x) (sym (pow-succ' 10 w))

-- the last w digits of a number with more
split : (w f n : ℕ) (rest : List ℕ) → 10 ^ w ≤ n → digits (f + w) true n rest ≡ digits f true (n / 10 ^ w) (fixed w n ++ rest)
unfolding digits fixed
split zero f n rest h = let e : f + 0 ≡ f = omega arith in rw (e, div-one n)
split (suc w) f n rest h =
    let e : f + suc w ≡ suc (f + w) = omega arith in
    let more : 10 ^ w ≤ n / 10 = omega (arith, pow-suc 10 w) in
    let one : 1 ≤ 10 ^ w = one-le-pow w 10 (omega arith) in
    rw e (more_digits (f + w) n rest (omega arith) ∙ split w f (n / 10) (last n rest) more
    ∙ ap (λ (q : ℕ). digits f true q (fixed w (n / 10) ++ last n rest)) (by_ten w n)
    ∙ ap (digits f true (n / 10 ^ suc w)) (sym (append_assoc (fixed w (n / 10)) (last n []) rest)))

-- ---- a number of a listing, and its digits several at a time

pub shown_digit : (n : ℕ) → n < 10 → shown_nat n ≡ fixed 1 n
unfolding shown_nat fixed
shown_digit n h = one_digit 19 n [] h

-- of 20 digits, w and those before them
shown_split : (w f n : ℕ) → suc f + w ≡ 20 → 10 ^ w ≤ n → n / 10 ^ w < 10 ^ suc f → n < 10 ^ 20 → shown_nat n ≡ shown_nat (n / 10 ^ w) ++ fixed w n
unfolding shown_nat
shown_split w f n e h k l =
    let less : n / 10 ^ w < 10 ^ 20 = omega (arith, div-le_self n (10 ^ w)) in
    ap (λ (m : ℕ). digits m true n []) (sym e) ∙ split w (suc f) n [] h
    ∙ before (suc f) true (n / 10 ^ w) (fixed w n ++ [])
    ∙ rw (append-nil (fixed w n), same_room f 19 (n / 10 ^ w) [] k less)

few_digits : (f : ℕ) (more : Bool) (n : ℕ) (rest : List ℕ) → length (digits f more n rest) ≤ f + length rest
unfolding digits
few_digits zero more n rest = omega arith
few_digits (suc f) false n rest = omega arith
few_digits (suc f) true n rest = omega (arith, few_digits f (not (eqb (n / 10) 0)) (n / 10) ((48 + n % 10) ∷ rest))

some_digits : (f : ℕ) (more : Bool) (n : ℕ) (rest : List ℕ) → length rest ≤ length (digits f more n rest)
unfolding digits
some_digits zero more n rest = omega arith
some_digits (suc f) false n rest = omega arith
some_digits (suc f) true n rest = omega (arith, some_digits f (not (eqb (n / 10) 0)) (n / 10) ((48 + n % 10) ∷ rest))

pub shown_least : (n : ℕ) → 1 ≤ length (shown_nat n)
unfolding shown_nat digits
shown_least n = some_digits 19 (not (eqb (n / 10) 0)) (n / 10) ((48 + n % 10) ∷ [])

pub shown_most : (n : ℕ) → length (shown_nat n) ≤ 20
unfolding shown_nat
shown_most n = few_digits 20 true n []

pub shown_length : (w n : ℕ) → n < 10 ^ suc w → n < 10 ^ 20 → length (shown_nat n) ≤ suc w
unfolding shown_nat
shown_length w n h k = rw (same_room 19 w n [] k h) (omega (arith, few_digits (suc w) true n []))

-- and a minus
pub whole_length : (w : ℕ) (x : ℤ) → nat_abs x < 10 ^ suc w → nat_abs x < 10 ^ 20 → length (shown x) ≤ suc (suc w)
unfolding shown
whole_length w (pos n) h k = omega (arith, shown_length w n h k)
whole_length w (negsuc n) h k = omega (arith, shown_length w (suc n) h k)

fixed_join : (v w n : ℕ) → fixed (v + w) n ≡ fixed v (n / 10 ^ w) ++ fixed w n
unfolding fixed
fixed_join v zero n = let e : v + 0 ≡ v = omega arith in rw (e, div-one n, append-nil)
fixed_join v (suc w) n =
    let e : v + suc w ≡ suc (v + w) = omega arith in
    rw (e, fixed_join v w (n / 10), by_ten w n, append_assoc)

-- only the last w digits count
low_digits : (w q r : ℕ) → fixed w (q * 10 ^ w + r) ≡ fixed w r
unfolding fixed
low_digits zero q r = refl
low_digits (suc w) q r =
    let x : q * 10 ^ suc w + r ≡ q * 10 ^ w * 10 + r = rw (pow-suc 10 w, mul_assoc q (10 ^ w) 10) in
    let a : (q * 10 ^ w * 10 + r) / 10 ≡ q * 10 ^ w + r / 10 = omega arith in
    let b : (q * 10 ^ w * 10 + r) % 10 ≡ r % 10 = omega arith in
    rw (x, a, b, low_digits w q (r / 10))

fixed_rest : (w n : ℕ) → fixed w (n % 10 ^ w) ≡ fixed w n
fixed_rest w n = sym (low_digits w (n / 10 ^ w) (n % 10 ^ w)) ∙ ap (fixed w) (div-add-mod' n (10 ^ w))

-- ---- in parts: the first digits, and the last w

module _ (w n : ℕ) {q r : ℕ} (a : q ≡ n / 10 ^ w) (b : r ≡ n % 10 ^ w) where
  pub fixed_cut : (v : ℕ) → Parts (fixed (v + w) n) (fixed v q) (fixed w r)
  fixed_cut v = record { is = rw (a, b, fixed_rest w n) (fixed_join v w n) }

  pub shown_cut : (f : ℕ) → suc f + w ≡ 20 → 10 ^ w ≤ n → q < 10 ^ suc f → n < 10 ^ 20 → Parts (shown_nat n) (shown_nat q) (fixed w r)
  shown_cut f e h k l = record { is = rw (a, b, fixed_rest w n) (shown_split w f n e h (rw (← a) k) l) }

  -- one more than w
  pub exact_cut : (f : ℕ) → suc f + w ≡ 20 → 10 ^ w ≤ n → q < 10 → 10 ≤ 10 ^ suc f → n < 10 ^ 20 → Parts (shown_nat n) (fixed 1 q) (fixed w r)
  exact_cut f e h k t l = record { is = rw (← shown_digit q k) (shown_cut f e h (omega arith) l).is }

pub shown_exact : (w f n : ℕ) → suc f + w ≡ 20 → 10 ^ w ≤ n → n / 10 ^ w < 10 → 10 ≤ 10 ^ suc f → n < 10 ^ 20 → shown_nat n ≡ fixed (1 + w) n
shown_exact w f n e h k t l = (exact_cut w n refl refl f e h k t l).is ∙ sym (fixed_cut w n refl refl 1).is

-- what is left for w digits behind v
pub fixed_room : {l m : List ℕ} {at i : ℕ} (v w x : ℕ) → Puts l at (fixed v x) i m → at + (v + w) ≤ length l → i + w ≤ length m
fixed_room v w x p h = puts_room w p (omega (arith, length_fixed v x))
