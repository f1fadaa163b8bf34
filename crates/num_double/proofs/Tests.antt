-- The tests that code makes, by the number that the double is. Assumes nothing.
use Rattle.std.specs.Prelude.{◌+◌, ◌*◌, ◌<◌, ◌≤◌, ◌≡◌, ◌&&◌, ◌||◌}
use Rattle.whole.specs.Plain.{ℕ, refl, sym, ap, ◌∙◌, Bool, true, false, not}
use Rattle.whole.specs.Plain.{true≢false, false≢true, and-true, leb, ltb, eqb, ℤ, pos, neg_ℤ, ltb-true, ltb-false}
use Rattle.whole.specs.Plain.{leb-true, leb-false, lt-ltb, eq-eqb, ne_eqb, eqb-true, eqb-false, le_trans, le_of_eq}
use Rattle.whole.specs.Plain.{le_of_mul-le-mul_right, mul-one, zero-mul, arith}
use lib.Ieee.{Float, nan, inf, fin, binary64, up, down, neg, lt, le, of_int}
use lib.Ieee.Fits.{down_pos, up_pos}
use lib.Ieee.Positive.{num, den}
use Rattle.whole.specs.Rounding.{nearest, nearest_unique}
use Rattle.paper.specs.Doubles.{in_range, whole_of}
use Rattle.paper.specs.Limits.{voltage_end}
use Rattle.num_double.specs.Halves.{UpTo}

-- the range's end, as the code casts it
abbrev pub most : Float
most = of_int binary64 (pos voltage_end)

-- below or level
or_is : (a b : ℕ) → (ltb a b || (eqb a b && true)) ≡ leb a b
or_is a b = by_tests (ltb a b) (leb a b) refl refl
  where
    by_tests : (t u : Bool) → ltb a b ≡ t → leb a b ≡ u → (t || (eqb a b && true)) ≡ u
    by_tests true true e f = refl
    by_tests true false e f = absurd (omega (arith, ltb-true a b e, leb-false a b f))
    by_tests false true e f = and-true (eqb a b) ∙ eq-eqb a b (omega (arith, ltb-false a b e, leb-true a b f))
    by_tests false false e f = and-true (eqb a b) ∙ ne_eqb a b (λ q. omega (arith, leb-false a b f))

eqb_sym : (a b : ℕ) → eqb a b ≡ eqb b a
eqb_sym a b = by_test (eqb a b) refl
  where
    by_test : (t : Bool) → eqb a b ≡ t → t ≡ eqb b a
    by_test true e = sym (eq-eqb b a (sym (eqb-true a b e)))
    by_test false e = sym (ne_eqb b a (λ q. eqb-false a b e (sym q)))

or_back : (a b : ℕ) → (ltb b a || (eqb a b && true)) ≡ leb b a
or_back a b = rw (eqb_sym a b) (or_is b a)

zero_lt_sum : (a b : ℕ) → 0 < a + b → ltb 0 (a + b) ≡ true
zero_lt_sum a b h = lt-ltb 0 (a + b) h

-- each end's test, by the sign
under_most : (s : Bool) (m : ℕ) (e : ℤ) → le (fin s m e) most ≡ (s || leb (m * up e) (voltage_end * down e))
unfolding le of_int
under_most true m e = rw (zero_lt_sum (m * up e * 1) (voltage_end * down e) (omega (arith, down_pos e)))
under_most false m e = or_is (m * up e * 1) (voltage_end * down e) ∙ ap (λ (k : ℕ). leb k (voltage_end * down e)) (mul-one (m * up e))

over_least : (s : Bool) (m : ℕ) (e : ℤ) → le (neg most) (fin s m e) ≡ (not s || leb (m * up e) (voltage_end * down e))
unfolding le of_int neg
over_least true m e = or_back (voltage_end * down e) (m * up e * 1) ∙ ap (λ (k : ℕ). leb k (voltage_end * down e)) (mul-one (m * up e))
over_least false m e = rw (zero_lt_sum (voltage_end * down e) (m * up e * 1) (omega (arith, down_pos e)))

-- ---- what they say together
pub range_yes : (x : Float) → le (neg most) x ≡ true → le x most ≡ true → in_range x ≡ true
unfolding in_range le of_int neg
range_yes nan l h = h
range_yes (inf true) l h = l
range_yes (inf false) l h = h
range_yes (fin true m e) l h = sym (over_least true m e) ∙ l
range_yes (fin false m e) l h = sym (under_most false m e) ∙ h

pub range_low : (x : Float) → le (neg most) x ≡ false → in_range x ≡ false
unfolding in_range
range_low nan l = refl
range_low (inf s) l = refl
range_low (fin true m e) l = sym (over_least true m e) ∙ l
range_low (fin false m e) l = absurd (true≢false (sym (over_least false m e) ∙ l))

pub range_high : (x : Float) → le x most ≡ false → in_range x ≡ false
unfolding in_range
range_high nan l = refl
range_high (inf s) l = refl
range_high (fin true m e) l = absurd (true≢false (sym (under_most true m e) ∙ l))
range_high (fin false m e) l = sym (under_most false m e) ∙ l

-- ---- the sign's test
zero_of : (m u : ℕ) → 0 < u → m * u ≤ 0 → m ≡ 0
zero_of m u h l =
    let g : m ≤ 0 = le_of_mul-le-mul_right (le_trans l (le_of_eq (sym (zero-mul u)))) h in
    omega arith

no_sign : (m : ℕ) (e : ℤ) → ltb 0 (m * up e * 1 + 0 * down e) ≡ false → m ≡ 0
no_sign m e n = zero_of m (up e) (up_pos e) (omega (arith, ltb-false 0 (m * up e * 1 + 0 * down e) n))

no_neg : (m : ℕ) (e : ℤ) → ltb (m * up e * 1) (0 * down e) ≡ true → ⊥
no_neg m e n = omega (arith, zero-mul (down e), ltb-true (m * up e * 1) (0 * down e) n)

pub up_to : (x : Float) → lt x (fin false 0 (pos 0)) ≡ false → in_range x ≡ true → UpTo voltage_end x
unfolding lt in_range
up_to nan n r = absurd (false≢true r)
up_to (inf s) n r = absurd (false≢true r)
up_to (fin false m e) n r = (leb-true (m * up e) (voltage_end * down e) r, (λ u. absurd u))
up_to (fin true m e) n r = (leb-true (m * up e) (voltage_end * down e) r, (λ u. no_sign m e n))

pub down_to : (x : Float) → lt x (fin false 0 (pos 0)) ≡ true → in_range x ≡ true → UpTo voltage_end (neg x)
unfolding lt in_range neg
down_to nan n r = absurd (false≢true r)
down_to (inf s) n r = absurd (false≢true r)
down_to (fin true m e) n r = (leb-true (m * up e) (voltage_end * down e) r, (λ u. absurd u))
down_to (fin false m e) n r = absurd (no_neg m e n)

-- ---- the rounded number, by the sign's test
abbrev pub half : Float → ℕ
half x = nearest (num x) (den x)

nearest_zero : (b : ℕ) → 0 < b → nearest 0 b ≡ 0
nearest_zero b h = nearest_unique 0 b 0 (omega arith) (omega arith)

pub whole_up : (x : Float) → lt x (fin false 0 (pos 0)) ≡ false → in_range x ≡ true → whole_of x ≡ pos (half x)
unfolding lt in_range whole_of
whole_up nan n r = absurd (false≢true r)
whole_up (inf s) n r = absurd (false≢true r)
whole_up (fin false m e) n r = refl
whole_up (fin true m e) n r = rw (no_sign m e n, zero-mul (up e), nearest_zero (down e) (down_pos e))

pub whole_down : (x : Float) → lt x (fin false 0 (pos 0)) ≡ true → whole_of x ≡ neg_ℤ (pos (half (neg x)))
unfolding lt whole_of neg
whole_down nan n = absurd (false≢true n)
whole_down (inf true) n = rw (nearest_zero 1 (omega arith))
whole_down (inf false) n = absurd (false≢true n)
whole_down (fin true m e) n = refl
whole_down (fin false m e) n = absurd (no_neg m e n)
