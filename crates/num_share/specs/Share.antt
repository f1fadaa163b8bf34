-- A product's quotient by parts that fit a word: with n = q d + t, (n w + m) / d = q w + (t w + m) / d. Assumes nothing.
use Rattle.std.specs.Prelude.{◌+◌, ◌*◌, ◌/◌, ◌%◌, ◌≤◌, ◌<◌, ◌≡◌}
use Rattle.whole.specs.Plain.{ℕ, suc, sym, ap, ◌∙◌, le_trans, le_of_lt, add-mul, add_comm}
use Rattle.whole.specs.Plain.{mul_right_comm, mod-add-div', mod-lt, div-mul-le_self, mul-le-mul_left, mul-le-mul_right, arith}
use Rattle.std.proofs.Math.Nat.{mul-add-div_right}
use Rattle.std.proofs.Common.{div-lt_iff_lt-mul}

pub share_is : (n w d m : ℕ) → 0 < d → n / d * w + (n % d * w + m) / d ≡ (n * w + m) / d
share_is n w d m h =
    let e : n / d * w * d + n % d * w ≡ n * w =
    ap (λ (x : ℕ). x + n % d * w) (mul_right_comm (n / d) w d) ∙ sym (add-mul (n / d * d) (n % d) w) ∙ ap (λ (x : ℕ). x * w) (add_comm (n / d * d) (n % d) ∙ mod-add-div' n d) in
    let f : n / d * w * d + (n % d * w + m) ≡ n * w + m = omega (arith, e) in
    sym (mul-add-div_right h (n / d * w) (n % d * w + m)) ∙ ap (λ (x : ℕ). x / d) f

-- no part is more than the whole
pub share_steps : (n w d : ℕ) → w ≤ d → n / d * w ≤ n
share_steps n w d h = le_trans (mul-le-mul_left (n / d) h) (div-mul-le_self n d)

pub share_rest : (n w d : ℕ) → 0 < d → w ≤ d → n % d * w ≤ d * d
share_rest n w d p h = le_trans (mul-le-mul_left (n % d) h) (mul-le-mul_right d (le_of_lt (mod-lt n p)))

pub share_most : (n w d m : ℕ) → w ≤ d → m < d → (n * w + m) / d ≤ n
share_most n w d m h l =
    let p : 0 < d = omega arith in
    let t : n * w ≤ n * d = mul-le-mul_left n h in
    let b : (n * w + m) / d < suc n = (div-lt_iff_lt-mul {k = d} {x = n * w + m} {y = suc n} p).1 (omega arith) in
    omega arith
