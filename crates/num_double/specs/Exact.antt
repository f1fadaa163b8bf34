-- The double of a whole number by its two halves is that number rounded once, to the nearest double, for each number of 64 bits. Assumes nothing.
use Rattle.std.specs.Prelude.{FitsSigned, Float, ◌*◌, ◌-◌, ◌/◌, ◌%◌, ◌^◌, ◌<◌, ◌≡◌}
use Rattle.whole.specs.Plain.{ℕ, suc, refl, sym, subst, ap, ◌∙◌, Bool, true, false}
use Rattle.whole.specs.Plain.{cond, true≢false, false≢true, ltb, lit≤, ℤ, pos, negsuc, lt-ltb, le-ltb, mul-one}
use Rattle.whole.specs.Plain.{mul_assoc, mul_comm, mul_right_comm, mul-pos, mul-lt-mul_of_pos_right, mul-sub}
use Rattle.whole.specs.Plain.{zero-lt-suc, lt_of_lt_of_le, le_of_lt, arith}
use Rattle.std.proofs.Common.{shl_lt}
use Rattle.std.proofs.lemmas.Nat.{and_mask}
use Rattle.std.specs.Float.{nan, inf, fin, binary64}
use Rattle.std.specs.Float.Ieee.{up, down, round, add, sum, mul, of_int}
use Rattle.std.specs.Float.Ieee.Fits.{down_pos}
use Rattle.std.specs.Float.Ieee.Exact.{HasValue, round_exact}
use Rattle.std.specs.Float.Ieee.Scale.{round_same}
use Rattle.std.specs.Float.Ieee.Back.{round_whole}
use Rattle.std.specs.Int.{w64}
use Rattle.std.proofs.num.Nearest.{halves_masked}
use Rattle.paper.specs.Doubles.{double, four_giga}

-- the machine's sum of -A and B, with B below A
minus : (p E n G A B : ℕ) → p * 1 ≡ A * E → n * 1 ≡ B * G → (p * G - n * E) * 1 ≡ (A - B) * (E * G)
minus p E n G A B h k =
    mul-one _
    ∙ ap (λ (z : ℕ). z * G - n * E) (sym (mul-one p) ∙ h)
    ∙ ap (λ (z : ℕ). A * E * G - z * E) (sym (mul-one n) ∙ k)
    ∙ ap (λ (z : ℕ). z - B * G * E) (mul_assoc A E G)
    ∙ ap (λ (z : ℕ). A * (E * G) - z) (mul_assoc B G E ∙ ap (λ (z : ℕ). B * z) (mul_comm G E))
    ∙ omega (arith, mul-sub (E * G) A B, mul_comm A (E * G), mul_comm B (E * G), mul_comm (A - B) (E * G))

below : (p E n G A B : ℕ) → 0 < E → 0 < G → p * 1 ≡ A * E → n * 1 ≡ B * G → B < A → n * E < p * G
below p E n G A B e g h k l =
    let c : B * (E * G) < A * (E * G) = mul-lt-mul_of_pos_right l (mul-pos e g) in
    let x : p * G ≡ A * (E * G) = ap (λ (z : ℕ). z * G) (sym (mul-one p) ∙ h) ∙ mul_assoc A E G in
    let y : n * E ≡ B * (E * G) = ap (λ (z : ℕ). z * E) (sym (mul-one n) ∙ k) ∙ mul_assoc B G E ∙ ap (λ (z : ℕ). B * z) (mul_comm G E) in
    omega arith

add_at : (x y : Float) (A B : ℕ) → B < A → HasValue x true A 1 → HasValue y false B 1 → add binary64 x y ≡ round binary64 true (A - B) 1
unfolding add sum
add_at nan y A B l h k = absurd h
add_at (inf s) y A B l h k = absurd h
add_at (fin s m e) nan A B l h k = absurd k
add_at (fin s m e) (inf t) A B l h k = absurd k
add_at (fin false m e) (fin t n d) A B l h k = absurd (false≢true h.0)
add_at (fin true m e) (fin true n d) A B l h k = absurd (true≢false k.0)
add_at (fin true m e) (fin false n d) A B l h k =
    let a = m * up e * down d in
    let b = n * up d * down e in
    let c = down e * down d in
    let lt : b < a = below (m * up e) (down e) (n * up d) (down d) A B (down_pos e) (down_pos d) h.1 k.1 l in
    ap (λ (t : Bool). cond t (round binary64 false (b - a) c) (round binary64 (ltb b a) (a - b) c)) (le-ltb a b (le_of_lt lt))
    ∙ ap (λ (t : Bool). round binary64 t (a - b) c) (lt-ltb b a lt)
    ∙ round_same binary64 true (a - b) c (A - B) 1 (mul-pos (down_pos e) (down_pos d)) (zero-lt-suc 0) (minus (m * up e) (down e) (n * up d) (down d) A B h.1 k.1)

scale_at : (x : Float) (a : ℕ) → HasValue x true a 1 → mul binary64 x four_giga ≡ round binary64 true (a * 2 ^ 32) 1
unfolding mul
scale_at nan a h = absurd h
scale_at (inf s) a h = absurd h
scale_at (fin false m e) a h = absurd (false≢true h.0)
scale_at (fin true m e) a h =
    let E = down e in
    let p = m * up e in
    round_same binary64 true (p * 2 ^ 32) (E * 1) (a * 2 ^ 32) 1 (mul-pos (down_pos e) (zero-lt-suc 0)) (zero-lt-suc 0)
    (ap (λ (z : ℕ). z * 2 ^ 32 * 1) (sym (mul-one p) ∙ h.1) ∙ mul-one _ ∙ mul_right_comm a E (2 ^ 32) ∙ ap (λ (z : ℕ). a * 2 ^ 32 * z) (sym (mul-one E)))

scaled : (a : ℕ) → a < 2 ^ 53 → a < 2 ^ 32 → HasValue (round binary64 true (a * 2 ^ 32) 1) true (a * 2 ^ 32) 1
scaled a s h =
    round_exact binary64 true (a * 2 ^ 32) 1 a 1106 (zero-lt-suc 0) s (lt_of_lt_of_le (shl_lt 32 1106 h) (lit≤ tt))
    (mul_assoc a (2 ^ 32) (2 ^ 1074) ∙ sym (mul-one (a * 2 ^ 1106)))

pub double_nearest : (x : ℤ) → FitsSigned w64 x → double x ≡ of_int binary64 x
unfolding double of_int
double_nearest (pos n) h =
    ap (λ (z : ℕ). add binary64 (mul binary64 (of_int binary64 (pos (n / 2 ^ 32))) four_giga) (of_int binary64 (pos z))) (sym (and_mask n 32))
    ∙ halves_masked binary64 32 n four_giga refl (lit≤ tt) (lit≤ tt) (omega arith)
double_nearest (negsuc n) h =
    let k = n / 2 ^ 32 in
    let r = 2 ^ 32 - 1 - n % 2 ^ 32 in
    let top = round binary64 true (suc k) 1 in
    let t : HasValue (mul binary64 top four_giga) true (suc k * 2 ^ 32) 1 =
    subst (λ (z : Float). HasValue z true (suc k * 2 ^ 32) 1) (sym (scale_at top (suc k) (round_whole binary64 true (suc k) (omega arith)))) (scaled (suc k) (omega arith) (omega arith)) in
    let e : suc k * 2 ^ 32 - r ≡ suc n = omega arith in
    add_at (mul binary64 top four_giga) (round binary64 false r 1) (suc k * 2 ^ 32) r (omega arith) t (round_whole binary64 false r (omega arith))
    ∙ ap (λ (z : ℕ). round binary64 true z 1) e
