-- A double is doubled exactly. So the whole part of its double gives the nearest whole number. Assumes nothing.
use Rattle.std.specs.Prelude.{◌+◌, ◌*◌, ◌-◌, ◌/◌, ◌%◌, ◌^◌, ◌<◌, ◌≤◌, ◌≡◌, ◌&&◌}
use Rattle.whole.specs.Plain.{ℕ, zero, suc, refl, sym, subst, ap, ◌∙◌}
use Rattle.whole.specs.Plain.{Bool, true, false, T, leb, ltb, eqb, lt→ltb, leb→le, ltb→lt, lit<, ℤ, pos, negsuc}
use Rattle.whole.specs.Plain.{le_trans, le_of_eq, lt_of_le_of_lt, le_of_mul-le-mul_right, mul-le-mul_right, mul_assoc}
use Rattle.whole.specs.Plain.{mul-one, mul_right_comm, add-mul, zero-mul, mul-pos, lt_irrefl, lt_of_lt_of_le}
use Rattle.whole.specs.Plain.{div-le_of_le-mul, div-div-eq-div-mul, add-div_right, zero-div, mul_comm, arith}
use Rattle.std.proofs.Common.{pow-add}
use lib.Pow.{pow-lt}
use lib.Ieee.{Float, nan, inf, fin, binary64, up, down, round, add, lt, fits, to_unsigned}
use lib.Ieee.Fits.{down_pos, and_l, and_r}
use lib.Ieee.Exact.{HasValue, round_exact}
use lib.Ieee.Nearest.{div_same}
use lib.Ieee.Scale.{round_same}
use lib.Ieee.Positive.{num, den}
use Rattle.whole.specs.Rounding.{nearest}
use Rattle.num_double.specs.Halves.{UpTo}

-- ---- x + x, as a rounded fraction
self : (s : Bool) (m : ℕ) (e : ℤ) → add binary64 (fin s m e) (fin s m e) ≡ round binary64 s (m * up e * down e + m * up e * down e) (down e * down e)
unfolding add
self true m e = refl
self false m e = refl

twice : (N d : ℕ) → (N * d + N * d) * d ≡ N * 2 * (d * d)
twice N d = omega (arith, add-mul (N * d) (N * d) d, mul_right_comm N 2 (d * d), mul_assoc N d d)

pow_le_back : (i p : ℕ) → 2 ^ i ≤ 2 ^ p → i ≤ p
pow_le_back i p h = by_contra (λ (g : p < i). lt_irrefl (2 ^ p) (lt_of_lt_of_le (pow-lt g) h))
  where
    by_contra : (p < i → ⊥) → i ≤ p
    by_contra f = omega (arith, f)

-- what `fits` says of a number that is not 0
parts : (s : Bool) (m : ℕ) (e : ℤ) → T (fits binary64 (fin s (suc m) e)) → (suc m < 2 ^ 53) × (down e ≤ 2 ^ 1074)
unfolding fits
parts s m e t =
    let a : Bool = eqb (suc m % 2) 1 in
    let b : Bool = ltb (suc m) (2 ^ 53) in
    let c : Bool = leb (down e) (2 ^ 1074) in
    let d : Bool = ltb (suc m * up e) (2 ^ 1024 * down e) in
    let abc : T (a && b && c) = and_l (a && b && c) d t in
    (ltb→lt (suc m) (2 ^ 53) (and_r a b (and_l (a && b) c abc)), leb→le (down e) (2 ^ 1074) (and_r (a && b) c abc))

-- a float of the value N * 2 / d
pub record Cut (x : Float) (top N d : ℕ) : Type 0 where
  pub over : T (lt (fin true 1 (pos 0)) x)
  pub under : T (lt x (fin false 1 (pos 64)))
  pub is : to_unsigned 64 x ≡ N * 2 / d
  pub small : to_unsigned 64 x ≤ top * 2

none : (X D N d : ℕ) → 0 < d → X * d ≡ N * 2 * D → N ≡ 0 → X ≤ 0
none X D N d dp e z =
    let g : N * 2 * D ≡ 0 = rw z (zero-mul D) in
    le_of_mul-le-mul_right (le_of_eq (e ∙ g ∙ sym (zero-mul d))) dp

module _ (top : ℕ) (few : top ≤ 2 ^ 32) where
  -- ---- it is in range, and exact
  fine : (a N d : ℕ) → 0 < d → N * 2 * 2 ^ 1074 ≡ a * d → N ≤ top * d → a < 2 ^ 2098
  fine a N d D e h =
      let g : N * 2 ≤ top * 2 * d = omega arith in
      let b : a * d ≤ top * 2 * 2 ^ 1074 * d = le_trans (le_of_eq (sym e)) (le_trans (mul-le-mul_right (2 ^ 1074) g) (le_of_eq (mul_right_comm (top * 2) d (2 ^ 1074)))) in
      let w : top * 2 ≤ 2 ^ 33 = omega arith in
      lt_of_le_of_lt (le_trans (le_of_mul-le-mul_right b D) (mul-le-mul_right (2 ^ 1074) w)) (lit< tt)

  exact : (s : Bool) (m N d j : ℕ) → 0 < d → m < 2 ^ 53 → N * 2 * 2 ^ 1074 ≡ m * 2 ^ j * d → N ≤ top * d → HasValue (round binary64 s (N * 2) d) s (N * 2) d
  exact s m N d j D small e h = round_exact binary64 s (N * 2) d m j D small (fine (m * 2 ^ j) N d D e h) e

  doubled : (s : Bool) (m : ℕ) (e : ℤ) → T (fits binary64 (fin s m e)) → m * up e ≤ top * down e → HasValue (round binary64 s (m * up e * 2) (down e)) s (m * up e * 2) (down e)
  doubled s zero e t h = exact s 0 (0 * up e) (down e) 0 (down_pos e) (lit< tt) (simp zero-mul) h
  doubled s (suc m) (pos k) t h =
      exact s (suc m) (suc m * 2 ^ k) 1 (k + 1075) (down_pos (pos k)) (parts s m (pos k) t).0
      (mul_assoc (suc m * 2 ^ k) 2 (2 ^ 1074) ∙ mul_assoc (suc m) (2 ^ k) (2 ^ 1075) ∙ ap (λ (x : ℕ). suc m * x) (sym (pow-add 2 k 1075)) ∙ sym (mul-one _))
      h
  doubled s (suc m) (negsuc k) t h =
      let deep : suc k ≤ 1074 = pow_le_back (suc k) 1074 (parts s m (negsuc k) t).1 in
      let back : 1074 - k + suc k ≡ 1075 = omega arith in
      exact s (suc m) (suc m * 1) (2 ^ suc k) (1074 - k) (down_pos (negsuc k)) (parts s m (negsuc k) t).0
      (mul_assoc (suc m * 1) 2 (2 ^ 1074) ∙ ap (λ (x : ℕ). x * 2 ^ 1075) (mul-one (suc m)) ∙ ap (λ (x : ℕ). suc m * x) (ap (λ (x : ℕ). 2 ^ x) (sym back) ∙ pow-add 2 (1074 - k) (suc k)) ∙ sym (mul_assoc (suc m) (2 ^ (1074 - k)) (2 ^ suc k)))
      h

  sum_val : (s : Bool) (m : ℕ) (e : ℤ) → T (fits binary64 (fin s m e)) → m * up e ≤ top * down e → HasValue (add binary64 (fin s m e) (fin s m e)) s (m * up e * 2) (down e)
  sum_val s m e t h =
      let d = down e in
      let N = m * up e in
      subst (λ (x : Float). HasValue x s (N * 2) d)
      (sym (self s m e ∙ round_same binary64 s (N * d + N * d) (d * d) (N * 2) d (mul-pos (down_pos e) (down_pos e)) (down_pos e) (twice N d)))
      (doubled s m e t h)

  -- ---- so its whole part is that of the doubled fraction, and `truncating_f64_to_u64` takes it
  bound : (X D N d : ℕ) → 0 < d → X * d ≡ N * 2 * D → N ≤ top * d → X ≤ top * 2 * D
  bound X D N d dp e h =
      let g : N * 2 ≤ top * 2 * d = omega arith in
      le_of_mul-le-mul_right (le_trans (le_of_eq e) (le_trans (mul-le-mul_right D g) (le_of_eq (mul_right_comm (top * 2) d D)))) dp

  cut : (x : Float) (s : Bool) (N d : ℕ) → 0 < d → N ≤ top * d → (T s → N ≡ 0) → HasValue x s (N * 2) d → Cut x top N d
  unfolding lt to_unsigned
  cut nan s N d dp h z v = absurd v
  cut (inf t) s N d dp h z v = absurd v
  cut (fin false n f) s N d dp h z v =
      let D = down f in
      let X = n * up f in
      let DP : 0 < D = down_pos f in
      let b : X ≤ top * 2 * D = bound X D N d dp v.1 h in
      let w : top * 2 ≤ 2 ^ 33 = omega arith in
      let c : top * 2 * D ≤ 2 ^ 33 * D = mul-le-mul_right D w in
      let q : X / D ≤ top * 2 = div-le_of_le-mul D (subst (λ (y : ℕ). X ≤ y) (mul_comm (top * 2) D) b) in
      let r : X / D ≡ N * 2 / d = div_same X D (N * 2) d DP dp v.1 in
      record {
        over = lt→ltb 0 (1 * D + X * 1) (omega arith);
        under = lt→ltb (X * 1) (2 ^ 64 * D) (omega arith);
        is = omega arith;
        small = omega arith;
      }
  cut (fin true n f) s N d dp h z v =
      let D = down f in
      let X = n * up f in
      let DP : 0 < D = down_pos f in
      let w : N ≡ 0 = z (subst T v.0 tt) in
      let b : X ≤ 0 = none X D N d dp v.1 w in
      record {
        over = lt→ltb (X * 1) (1 * D) (omega arith);
        under = lt→ltb 0 (X * 1 + 2 ^ 64 * D) (omega arith);
        is = rw w (sym (zero-div d));
        small = omega arith;
      }

  -- ---- what the code has of y
  pub whole_cut : (y : Float) → T (fits binary64 y) → UpTo top y → Cut (add binary64 y y) top (num y) (den y)
  whole_cut nan t h = absurd h
  whole_cut (inf s) t h = absurd h
  whole_cut (fin s m e) t h =
      cut (add binary64 (fin s m e) (fin s m e)) s (m * up e) (down e) (down_pos e) h.0 (λ u. rw (h.1 u) (zero-mul (up e))) (sum_val s m e t h.0)

-- the whole part of N * 2 / d, plus one, halved
pub halved : (N d : ℕ) → 0 < d → (N * 2 / d + 1) / 2 ≡ nearest N d
unfolding nearest
halved N d dp =
    let a : 2 * N ≡ N * 2 = omega arith in
    let b : 2 * d ≡ d * 2 = omega arith in
    rw (a, b) (ap (λ (x : ℕ). x / 2) (sym (add-div_right (N * 2) dp)) ∙ div-div-eq-div-mul (N * 2 + d) d 2)
