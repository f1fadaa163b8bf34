-- Conductances add up in doubles as they do in whole numbers: a whole number more or less a conductance is rounded nowhere, and a zero is +0.
-- Assumes nothing.
use Rattle.whole.specs.Plain.{ℕ, zero, suc, refl, sym, ap, ◌∙◌, Bool, true, false}
use Rattle.whole.specs.Plain.{not, T, ltb, le→leb, lt→ltb, ℤ, pos, negsuc, nat_abs, +ℤ_idr, lt-ltb}
use Rattle.whole.specs.Plain.{le-ltb, mul-one, mul_assoc, mul_comm, mul-pos, mul-sub, add-mul, mul-le-mul_right}
use Rattle.whole.specs.Plain.{mul-lt-mul_of_pos_right, zero-lt-suc, dec_lt, arith}
use Rattle.std.specs.Prelude.{Float, ◌+◌, ◌-◌, ◌*◌, ◌^◌, ◌≤◌, ◌<◌, ◌≡◌, ◌&&◌, ◌+ℤ◌, ◌-ℤ◌}
use Rattle.std.specs.Float.{nan, inf, fin}
use Rattle.std.specs.Float.Ieee.{binary64, up, down, round, neg, sum, add, sub, of_int, in_float}
use Rattle.std.specs.Float.Ieee.Fits.{down_pos}
use Rattle.std.specs.Float.Ieee.Exact.{HasValue}
use Rattle.std.specs.Float.Ieee.Scale.{round_same}
use Rattle.std.specs.Float.Ieee.Back.{round_whole}
use Rattle.whole.specs.Size.{∣◌∣≤◌}
use Rattle.whole.specs.Size as Size
use Rattle.paper.specs.Doubles.{double}
use Rattle.paper.specs.Solve.{nought}
use Rattle.num_double.specs.Exact.{double_nearest}

-- ---- a sum of two doubles that are whole numbers, by these alone
over : (s : Bool) (a A D : ℕ) → 0 < D → a ≡ A * D → round binary64 s a D ≡ round binary64 s A 1
over s a A D h e = round_same binary64 s a D A 1 h (zero-lt-suc 0) (mul-one a ∙ e)

less_over : (A B D : ℕ) → 0 < D → ltb (A * D) (B * D) ≡ ltb A B
less_over A B D h = elim (dec_lt A B) [
  | yes l ↦ lt-ltb (A * D) (B * D) (mul-lt-mul_of_pos_right l h) ∙ sym (lt-ltb A B l)
  | no l ↦ let m : B ≤ A = omega arith in le-ltb (A * D) (B * D) (mul-le-mul_right D m) ∙ sym (le-ltb A B m)
]

difference : (A B D : ℕ) → A * D - B * D ≡ (A - B) * D
difference A B D = rw (mul_comm A D, mul_comm B D, mul_comm (A - B) D) (sym (mul-sub D A B))

sum_over : (s t : Bool) (A B D : ℕ) → 0 < D → sum binary64 s (A * D) t (B * D) D ≡ sum binary64 s A t B 1
unfolding sum
sum_over s t A B D h =
    rw (less_over A B D h, less_over B A D h, over s (A * D + B * D) (A + B) D h (sym (add-mul A B D)), over t (B * D - A * D) (B - A) D h (difference B A D), over (s && ltb B A) (A * D - B * D) (A - B) D h (difference A B D))

add_values : (x y : Float) (s t : Bool) (A B : ℕ) → HasValue x s A 1 → HasValue y t B 1 → add binary64 x y ≡ sum binary64 s A t B 1
unfolding add
add_values nan y s t A B h k = absurd h
add_values (inf u) y s t A B h k = absurd h
add_values (fin u m e) nan s t A B h k = absurd k
add_values (fin u m e) (inf v) s t A B h k = absurd k
add_values (fin u m e) (fin v n d) s t A B h k =
    let a : m * up e * down d ≡ A * (down e * down d) = ap (λ (x : ℕ). x * down d) (sym (mul-one _) ∙ h.1) ∙ mul_assoc A (down e) (down d) in
    let b : n * up d * down e ≡ B * (down e * down d) = ap (λ (x : ℕ). x * down e) (sym (mul-one _) ∙ k.1) ∙ mul_assoc B (down d) (down e) ∙ ap (λ (x : ℕ). B * x) (mul_comm (down d) (down e)) in
    rw (a, b, h.0, k.0) (sum_over s t A B (down e * down d) (mul-pos (down_pos e) (down_pos d)))

neg_value : (x : Float) (s : Bool) (A : ℕ) → HasValue x s A 1 → HasValue (neg x) (not s) A 1
unfolding neg
neg_value nan s A h = absurd h
neg_value (inf u) s A h = absurd h
neg_value (fin u m e) s A h = (ap not h.0, h.1)

-- ---- which whole number it is
abbrev minus : ℤ → Bool
minus (pos n) = false
minus (negsuc n) = true

of_value : (x : ℤ) → nat_abs x ≤ 2 ^ 53 → HasValue (of_int binary64 x) (minus x) (nat_abs x) 1
unfolding of_int
of_value (pos n) h = round_whole binary64 false n h
of_value (negsuc n) h = round_whole binary64 true (suc n) h

sum_more : (x : ℤ) (g : ℕ) → sum binary64 (minus x) (nat_abs x) false g 1 ≡ of_int binary64 (x +ℤ pos g)
unfolding sum of_int
sum_more (pos a) g = refl
sum_more (negsuc a) g = go (dec_lt g (suc a)) (dec_lt (suc a) g)
  where
    go : Dec (g < suc a) → Dec (suc a < g) → sum binary64 true (suc a) false g 1 ≡ of_int binary64 (negsuc a +ℤ pos g)
    go (yes h) k = let e : suc a - g ≡ suc (suc a - suc g) = omega arith in rw (le-ltb (suc a) g (omega arith), lt-ltb g (suc a) h, e)
    go (no h) (yes k) = rw (lt-ltb (suc a) g k, le-ltb g (suc a) (omega arith))
    go (no h) (no k) = let e : g ≡ suc a = omega arith in rw (e, le-ltb (suc a) (suc a) (omega arith))

sum_less : (x : ℤ) (g : ℕ) → sum binary64 (minus x) (nat_abs x) true g 1 ≡ of_int binary64 (x -ℤ pos g)
unfolding sum of_int
sum_less (pos a) zero = let e : a - 0 ≡ a + 0 = omega arith in rw (le-ltb a 0 (omega arith), e)
sum_less (pos a) (suc g) = elim (dec_lt a (suc g)) [ yes h ↦ let e : suc g - a ≡ suc (suc g - suc a) = omega arith in rw (lt-ltb a (suc g) h, e) | no h ↦ rw (le-ltb a (suc g) (omega arith)) ]
sum_less (negsuc a) zero = let e : suc a + 0 ≡ suc a = omega arith in rw (+ℤ_idr (negsuc a), e)
sum_less (negsuc a) (suc g) = let e : suc a + suc g ≡ suc (suc (a + g)) = omega arith in rw e

-- ---- the laws
pub in_float_lem : (x : ℤ) → nat_abs x ≤ 2 ^ 53 → T (in_float binary64 x)
unfolding in_float
in_float_lem (pos n) h = le→leb n (2 ^ 53) h
in_float_lem (negsuc n) h = lt→ltb n (2 ^ 53) h

pub zero_exact : double (pos 0) ≡ nought
unfolding of_int
zero_exact = double_nearest (pos 0) (record { sfits = omega arith })

module _ {x : ℤ} {g : ℕ} (p : ∣ x ∣≤ (2 ^ 52)) (q : g ≤ 10 ^ 9) where
  as_double : {y : ℤ} → ∣ y ∣≤ (2 ^ 53) → of_int binary64 y ≡ double y
  as_double {y} h = sym (double_nearest y (Size.fits h tt))

  g_size : ∣ pos g ∣≤ (10 ^ 9)
  g_size = record { size = q }

  pub more_exact : add binary64 (double x) (of_int binary64 (pos g)) ≡ double (x +ℤ pos g)
  more_exact =
      rw (double_nearest x (Size.fits p tt))
      (add_values (of_int binary64 x) (of_int binary64 (pos g)) (minus x) false (nat_abs x) g (of_value x (omega (arith, p.size))) (of_value (pos g) (omega arith)) ∙ sum_more x g ∙ as_double (Size.weaken (Size.add p g_size) tt))

  pub less_exact : sub binary64 (double x) (of_int binary64 (pos g)) ≡ double (x -ℤ pos g)
  unfolding sub
  less_exact =
      rw (double_nearest x (Size.fits p tt))
      (add_values (of_int binary64 x) (neg (of_int binary64 (pos g))) (minus x) true (nat_abs x) g (of_value x (omega (arith, p.size))) (neg_value (of_int binary64 (pos g)) false g (of_value (pos g) (omega arith))) ∙ sum_less x g ∙ as_double (Size.weaken (Size.sub p g_size) tt))
