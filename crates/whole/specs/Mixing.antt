-- A quotient rounded down, also below zero, and a value between two others, which never leaves them. Assumes nothing.
use Rattle.std.specs.Prelude.{◌+◌, ◌*◌, ◌-◌, ◌/◌, ◌%◌, ◌≤◌, ◌<◌, ◌≡◌, ◌+ℤ◌, ◌-ℤ◌, ◌*ℤ◌}
use Rattle.whole.specs.Plain.{ℕ, zero, suc, refl, sym, ap, ◌∙◌, ℤ, pos, negsuc}
use Rattle.whole.specs.Plain.{neg_ℤ, nat_abs, sub_ℕ, +ℤ_assoc, +ℤ_comm, +ℤ_idr, neg_ℤ-+ℤ, neg_ℤ-neg_ℤ, *ℤ-zero, zero-mul}
use Rattle.whole.specs.Plain.{dec_lt, arith, div-eq_of_lt-le, div-le_of_le-mul, div-mul-le_self, lt-div-mul-add, zero-div}
use Rattle.whole.specs.Plain.{le_trans, add-mul, mul-sub, div-add-mod', mod-lt, mul-le-mul_left, mul-le-mul_right}
use Rattle.std.proofs.Math.IntN.{+ℤ_invr}
use Rattle.whole.specs.Int.{neg_*ℤ, subℕ_lt, subℕ_ge}

-- x / d, rounded down
unfoldable pub floor_quot : ℤ → ℕ → ℤ
floor_quot (pos n) d = pos (n / d)
floor_quot (negsuc n) d = negsuc (n / d)

-- x is so many d and a rest from 0 below d
pub floor_parts : (x : ℤ) (d : ℕ) → 0 < d → (r : ℕ) × (r < d) × (x ≡ floor_quot x d *ℤ pos d +ℤ pos r)
unfolding floor_quot
floor_parts (pos n) d h = (n % d, mod-lt n h, ap pos (sym (div-add-mod' n d)))
floor_parts (negsuc n) d h =
    let m = mod-lt n h in
    let e : suc (n / d) * d ≡ suc (n + (d - 1 - n % d)) = omega (arith, div-add-mod' n d) in
    (d - 1 - n % d, omega arith, sym (rw (e, subℕ_lt (d - 1 - n % d) (suc (n + (d - 1 - n % d))) (omega arith)) (ap negsuc (omega arith))))

-- a plus (b minus a) · w / d, rounded down
unfoldable pub mixed : ℕ → ℕ → ℤ → ℤ → ℤ
mixed d w a b = a +ℤ floor_quot ((b -ℤ a) *ℤ pos w) d

-- ---- where w is 0 it is a, whatever b is
pub mixed_none : (d : ℕ) (a b : ℤ) → mixed d 0 a b ≡ a
unfolding mixed floor_quot
mixed_none d a b = rw (*ℤ-zero (b -ℤ a), zero-div d) (+ℤ_idr a)

-- and of two that are the same it is that one, whatever w is
pub mixed_same : (d w : ℕ) (a : ℤ) → mixed d w a a ≡ a
unfolding mixed floor_quot
mixed_same d w a = rw (+ℤ_invr a, zero-mul w, zero-div d) (+ℤ_idr a)

-- ---- between two values: a gap n over the lower one

less : (a x : ℤ) → (a +ℤ x) -ℤ a ≡ x
less a x = ap (λ (y : ℤ). y +ℤ neg_ℤ a) (+ℤ_comm a x) ∙ +ℤ_assoc x a (neg_ℤ a) ∙ ap (λ (y : ℤ). x +ℤ y) (+ℤ_invr a) ∙ +ℤ_idr x

pub mixed_up : (d w : ℕ) (a : ℤ) (n : ℕ) → mixed d w a (a +ℤ pos n) ≡ a +ℤ pos (n * w / d)
unfolding mixed floor_quot
mixed_up d w a n = rw (less a (pos n))

-- n less m / d rounded up
floor_rest : (n m d : ℕ) → 0 < d → m ≤ n * d → pos n +ℤ floor_quot (neg_ℤ (pos m)) d ≡ pos ((n * d - m) / d)
unfolding floor_quot
floor_rest n zero d h l = rw (zero-div d) (+ℤ_idr (pos n) ∙ ap pos (sym (div-eq_of_lt-le {k = n} d (omega arith) (rw (add-mul n 1 d) (omega arith)))))
floor_rest n (suc j) d h l =
    let lo : j / d * d ≤ j = div-mul-le_self j d in
    let hi : j < j / d * d + d = lt-div-mul-add {a = j} h in
    let few : suc (j / d) ≤ n = under (dec_lt (j / d) n) in
    let e : n * d ≡ (n - suc (j / d)) * d + suc (j / d) * d = ap (λ (x : ℕ). x * d) (omega arith) ∙ add-mul (n - suc (j / d)) (suc (j / d)) d in
    let s : suc (j / d) * d ≡ d + j / d * d = omega arith in
    subℕ_ge n (suc (j / d)) few ∙ ap pos (sym (div-eq_of_lt-le {k = n - suc (j / d)} d (omega arith) (rw (add-mul (n - suc (j / d)) 1 d) (omega arith))))
  where
    under : Dec (j / d < n) → suc (j / d) ≤ n
    under (yes g) = g
    under (no g) = let m : n * d ≤ j / d * d = mul-le-mul_right d (omega arith) in absurd (omega (arith, div-mul-le_self j d))

pub mixed_down : (d w : ℕ) → 0 < d → w ≤ d → (b : ℤ) (n : ℕ) → mixed d w (b +ℤ pos n) b ≡ b +ℤ pos (n * (d - w) / d)
unfolding mixed
mixed_down d w h l b n =
    let gap : b -ℤ (b +ℤ pos n) ≡ neg_ℤ (pos n) = ap (λ (y : ℤ). b +ℤ y) (neg_ℤ-+ℤ b (pos n)) ∙ sym (+ℤ_assoc b (neg_ℤ b) (neg_ℤ (pos n))) ∙ rw (+ℤ_invr b) (+ℤ_comm (pos 0) (neg_ℤ (pos n)) ∙ +ℤ_idr (neg_ℤ (pos n))) in
    let most : n * w ≤ n * d = mul-le-mul_left n l in
    rw (gap, neg_*ℤ (pos n) (pos w), +ℤ_assoc b (pos n) (floor_quot (neg_ℤ (pos (n * w))) d), floor_rest n (n * w) d h most, ← mul-sub n d w)

-- ---- so it lies between its two values

share_most : (n w d : ℕ) → w ≤ d → n * w / d ≤ n
share_most n w d h = div-le_of_le-mul d (le_trans (mul-le-mul_left n h) (omega arith))

inside : (a : ℤ) (s n m : ℕ) → s ≤ n → nat_abs a ≤ m → nat_abs (a +ℤ pos n) ≤ m → nat_abs (a +ℤ pos s) ≤ m
inside (pos c) s n m h p q = omega arith
inside (negsuc c) s n m h p q = by (dec_lt s (suc c)) (dec_lt n (suc c))
  where
    by : Dec (s < suc c) → Dec (n < suc c) → nat_abs (sub_ℕ s (suc c)) ≤ m
    by (yes l) d = rw (subℕ_lt s (suc c) l) (omega arith)
    by (no l) (yes g) = absurd (omega arith)
    by (no l) (no g) = let r : n - suc c ≤ m = rw (subℕ_ge n (suc c) (omega arith)) at q in rw (subℕ_ge s (suc c) (omega arith)) (omega arith)

back : (a b : ℤ) → a +ℤ (b -ℤ a) ≡ b
back a b = sym (+ℤ_assoc a b (neg_ℤ a)) ∙ less a b

pub mixed_size : (d w : ℕ) (a b : ℤ) (m : ℕ) → 0 < d → w ≤ d → nat_abs a ≤ m → nat_abs b ≤ m → nat_abs (mixed d w a b) ≤ m
mixed_size d w a b m h l p q = by (b -ℤ a) refl
  where
    by : (x : ℤ) → b -ℤ a ≡ x → nat_abs (mixed d w a b) ≤ m
    by (pos n) e =
        let f : b ≡ a +ℤ pos n = sym (back a b) ∙ ap (λ (x : ℤ). a +ℤ x) e in
        let g : nat_abs (a +ℤ pos n) ≤ m = rw f at q in
        rw (f, mixed_up d w a n) (inside a (n * w / d) n m (share_most n w d l) p g)
    by (negsuc n) e =
        let o : a -ℤ b ≡ pos (suc n) = +ℤ_comm a (neg_ℤ b) ∙ ap (λ (x : ℤ). neg_ℤ b +ℤ x) (sym (neg_ℤ-neg_ℤ a)) ∙ sym (neg_ℤ-+ℤ b (neg_ℤ a)) ∙ ap neg_ℤ e in
        let f : a ≡ b +ℤ pos (suc n) = sym (back b a) ∙ ap (λ (x : ℤ). b +ℤ x) o in
        let g : nat_abs (b +ℤ pos (suc n)) ≤ m = rw f at p in
        rw (f, mixed_down d w h l b (suc n)) (inside b (suc n * (d - w) / d) (suc n) m (share_most (suc n) (d - w) d (omega arith)) q g)
