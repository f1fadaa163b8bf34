-- Laws on ℤ that lib.IntN lacks: sizes of sums and products, ring laws, tests as facts. Assumes nothing.
use Rattle.std.specs.Prelude.{◌+◌, ◌*◌, ◌-◌, ◌<◌, ◌≤◌, ◌^◌, ◌≡◌, ◌+ℤ◌, ◌-ℤ◌, ◌*ℤ◌}
use Rattle.whole.specs.Plain.{ℕ, zero, suc, refl, sym, ◌∙◌, ap, subst, Bool}
use Rattle.whole.specs.Plain.{true, false, not, cond, T, ltb, ltb→lt, ℤ, pos, negsuc, neg_ℤ, nat_abs, suc_ℤ, pred_ℤ}
use Rattle.whole.specs.Plain.{sub_ℕ, +ℤ_assoc, +ℤ_comm, +ℤ_idl, +ℤ_idr, *ℤ-zero, zero-*ℤ}
use Rattle.whole.specs.Plain.{suc_ℤ-*ℤ, pred_ℤ-*ℤ, *ℤ_comm, suc_ℤ-+ℤ, pred_ℤ-+ℤ, neg_ℤ-+ℤ, neg_ℤ-neg_ℤ, mag, lt_z, non_neg}
use Rattle.whole.specs.Plain.{lt-ltb, le-ltb, arith}
use Rattle.std.proofs.Math.Nat as NatL
use Rattle.std.specs.Int.{w64}
use Rattle.std.proofs.Common.{SFits, to_z, of_z, to_z-of_z}

cond_ind : (c : Bool) (x y : ℤ) (P : ℤ → Type 0) → (T c → P x) → (T (not c) → P y) → P (cond c x y)
cond_ind true x y P f g = f tt
cond_ind false x y P f g = g tt

subℕ_abs : (a b : ℕ) → nat_abs (sub_ℕ a b) ≤ a + b
subℕ_abs a b = cond_ind (ltb a b) (negsuc (b - suc a)) (pos (a - b)) (λ z. nat_abs z ≤ a + b)
    (λ t. let h : a < b = ltb→lt a b t in omega arith) (λ t. omega arith)

pub abs_neg : (z : ℤ) → nat_abs (neg_ℤ z) ≡ nat_abs z
abs_neg (pos zero) = refl
abs_neg (pos (suc n)) = refl
abs_neg (negsuc n) = refl

pub abs_add : (x y : ℤ) → nat_abs (x +ℤ y) ≤ nat_abs x + nat_abs y
abs_add (pos a) (pos b) = omega arith
abs_add (pos a) (negsuc b) = subℕ_abs a (suc b)
abs_add (negsuc a) (pos b) = omega (arith, subℕ_abs b (suc a))
abs_add (negsuc a) (negsuc b) = omega arith

pub abs_sub : (x y : ℤ) → nat_abs (x -ℤ y) ≤ nat_abs x + nat_abs y
abs_sub x y = rw (abs_neg y) at (abs_add x (neg_ℤ y))

pub abs_mul : (x y : ℤ) → nat_abs (x *ℤ y) ≡ nat_abs x * nat_abs y
abs_mul (pos a) (pos b) = refl
abs_mul (pos a) (negsuc b) = abs_neg (pos (a * suc b))
abs_mul (negsuc a) (pos b) = abs_neg (pos (suc a * b))
abs_mul (negsuc a) (negsuc b) = refl

-- ---- ring laws that lib.IntN lacks
pub +ℤ_swap : (a b c : ℤ) → (a +ℤ b) +ℤ c ≡ (a +ℤ c) +ℤ b
+ℤ_swap a b c = +ℤ_assoc a b c ∙ ap (λ (x : ℤ). a +ℤ x) (+ℤ_comm b c) ∙ sym (+ℤ_assoc a c b)

pub +ℤ_left : (a b c : ℤ) → a +ℤ (b +ℤ c) ≡ b +ℤ (a +ℤ c)
+ℤ_left a b c = sym (+ℤ_assoc a b c) ∙ ap (λ (x : ℤ). x +ℤ c) (+ℤ_comm a b) ∙ +ℤ_assoc b a c

step_up : (a b c : ℤ) → (a +ℤ b) *ℤ c ≡ a *ℤ c +ℤ b *ℤ c → (suc_ℤ a +ℤ b) *ℤ c ≡ suc_ℤ a *ℤ c +ℤ b *ℤ c
step_up a b c ih =
    ap (λ (x : ℤ). x *ℤ c) (suc_ℤ-+ℤ a b) ∙ suc_ℤ-*ℤ (a +ℤ b) c ∙ ap (λ (x : ℤ). x +ℤ c) ih
    ∙ +ℤ_swap (a *ℤ c) (b *ℤ c) c ∙ ap (λ (x : ℤ). x +ℤ b *ℤ c) (sym (suc_ℤ-*ℤ a c))

step_down : (a b c : ℤ) → (a +ℤ b) *ℤ c ≡ a *ℤ c +ℤ b *ℤ c → (pred_ℤ a +ℤ b) *ℤ c ≡ pred_ℤ a *ℤ c +ℤ b *ℤ c
step_down a b c ih =
    ap (λ (x : ℤ). x *ℤ c) (pred_ℤ-+ℤ a b) ∙ pred_ℤ-*ℤ (a +ℤ b) c ∙ ap (λ (x : ℤ). x -ℤ c) ih
    ∙ +ℤ_swap (a *ℤ c) (b *ℤ c) (neg_ℤ c) ∙ ap (λ (x : ℤ). x +ℤ b *ℤ c) (sym (pred_ℤ-*ℤ a c))

zero_case : (b c : ℤ) → (pos zero +ℤ b) *ℤ c ≡ pos zero *ℤ c +ℤ b *ℤ c
zero_case b c = ap (λ (x : ℤ). x *ℤ c) (+ℤ_idl b) ∙ sym (ap (λ (x : ℤ). x +ℤ b *ℤ c) (zero-*ℤ c) ∙ +ℤ_idl (b *ℤ c))

pub *ℤ_distr_r : (a b c : ℤ) → (a +ℤ b) *ℤ c ≡ a *ℤ c +ℤ b *ℤ c
*ℤ_distr_r (pos zero) b c = zero_case b c
*ℤ_distr_r (pos (suc n)) b c = step_up (pos n) b c (*ℤ_distr_r (pos n) b c)
*ℤ_distr_r (negsuc zero) b c = step_down (pos zero) b c (zero_case b c)
*ℤ_distr_r (negsuc (suc n)) b c = step_down (negsuc n) b c (*ℤ_distr_r (negsuc n) b c)

pub *ℤ_distr_l : (a b c : ℤ) → a *ℤ (b +ℤ c) ≡ a *ℤ b +ℤ a *ℤ c
*ℤ_distr_l a b c = *ℤ_comm a (b +ℤ c) ∙ *ℤ_distr_r b c a ∙ ap (λ (x : ℤ). x +ℤ c *ℤ a) (*ℤ_comm b a) ∙ ap (λ (x : ℤ). a *ℤ b +ℤ x) (*ℤ_comm c a)

pub neg_*ℤ : (a b : ℤ) → neg_ℤ a *ℤ b ≡ neg_ℤ (a *ℤ b)
neg_*ℤ (pos zero) b = zero-*ℤ b ∙ ap neg_ℤ (sym (zero-*ℤ b))
neg_*ℤ (pos (suc n)) (pos k) = refl
neg_*ℤ (pos (suc n)) (negsuc k) = sym (neg_ℤ-neg_ℤ (pos (suc n * suc k)))
neg_*ℤ (negsuc n) (pos k) = sym (neg_ℤ-neg_ℤ (pos (suc n * k)))
neg_*ℤ (negsuc n) (negsuc k) = refl

assoc_pos : (n : ℕ) (b c : ℤ) → (pos n *ℤ b) *ℤ c ≡ pos n *ℤ (b *ℤ c)
assoc_pos zero b c = ap (λ (x : ℤ). x *ℤ c) (zero-*ℤ b) ∙ zero-*ℤ c ∙ sym (zero-*ℤ (b *ℤ c))
assoc_pos (suc n) b c =
    ap (λ (x : ℤ). x *ℤ c) (suc_ℤ-*ℤ (pos n) b) ∙ *ℤ_distr_r (pos n *ℤ b) b c ∙ ap (λ (x : ℤ). x +ℤ b *ℤ c) (assoc_pos n b c) ∙ sym (suc_ℤ-*ℤ (pos n) (b *ℤ c))

pub *ℤ_assoc : (a b c : ℤ) → (a *ℤ b) *ℤ c ≡ a *ℤ (b *ℤ c)
*ℤ_assoc (pos n) b c = assoc_pos n b c
*ℤ_assoc (negsuc n) b c =
    ap (λ (x : ℤ). x *ℤ c) (neg_*ℤ (pos (suc n)) b) ∙ neg_*ℤ (pos (suc n) *ℤ b) c ∙ ap neg_ℤ (assoc_pos (suc n) b c) ∙ sym (neg_*ℤ (pos (suc n)) (b *ℤ c))

pub *ℤ_left : (a b c : ℤ) → a *ℤ (b *ℤ c) ≡ b *ℤ (a *ℤ c)
*ℤ_left a b c = sym (*ℤ_assoc a b c) ∙ ap (λ (x : ℤ). x *ℤ c) (*ℤ_comm a b) ∙ *ℤ_assoc b a c

pub *ℤ_neg : (a b : ℤ) → a *ℤ neg_ℤ b ≡ neg_ℤ (a *ℤ b)
*ℤ_neg a b = *ℤ_comm a (neg_ℤ b) ∙ neg_*ℤ b a ∙ ap neg_ℤ (*ℤ_comm b a)

-- sums of products, sorted: `simp ring_laws` proves an equation of polynomials without cancellation
pub ruleset ring_laws = (+ℤ_assoc, +ℤ_comm, +ℤ_left, *ℤ_assoc, *ℤ_comm, *ℤ_left, *ℤ_distr_r, *ℤ_distr_l, neg_*ℤ, *ℤ_neg, neg_ℤ-+ℤ, neg_ℤ-neg_ℤ, +ℤ_idl, +ℤ_idr, zero-*ℤ, *ℤ-zero)

-- ---- ranges
pub mag_le : (z : ℤ) → mag z ≤ nat_abs z
mag_le (pos n) = omega arith
mag_le (negsuc n) = omega arith

pub fits64 : (z : ℤ) → nat_abs z < 2 ^ 63 → SFits w64 z
fits64 z h = record { sfits = omega (arith, mag_le z) }

pub abs_mul_le : (x y : ℤ) {m n : ℕ} → nat_abs x ≤ m → nat_abs y ≤ n → nat_abs (x *ℤ y) ≤ m * n
abs_mul_le x y {m} {n} p q = rw (abs_mul x y) (NatL.le_trans (NatL.mul-le-mul_left (nat_abs x) q) (NatL.mul-le-mul_right n p))

pub abs_add_le : (x y : ℤ) {m n : ℕ} → nat_abs x ≤ m → nat_abs y ≤ n → nat_abs (x +ℤ y) ≤ m + n
abs_add_le x y p q = omega (arith, abs_add x y)

pub abs_sub_le : (x y : ℤ) {m n : ℕ} → nat_abs x ≤ m → nat_abs y ≤ n → nat_abs (x -ℤ y) ≤ m + n
abs_sub_le x y p q = omega (arith, abs_sub x y)

-- what the machine reads back of a signed number that fits
pub read64 : (z : ℤ) → mag z < 2 ^ 63 → to_z w64 (of_z w64 z) ≡ z
read64 z h = to_z-of_z {w = w64} (record { sfits = h })

-- ---- a difference of two naturals
pub subℕ_lt : (a b : ℕ) → a < b → sub_ℕ a b ≡ negsuc (b - suc a)
subℕ_lt a b h = rw (lt-ltb a b h)

pub subℕ_ge : (a b : ℕ) → b ≤ a → sub_ℕ a b ≡ pos (a - b)
subℕ_ge a b h = rw (le-ltb a b h)

-- and with a literal, whose bits are a number b
pub is_lit : {x : ℤ} (b : ℕ) → SFits w64 x → of_z w64 x ≡ b → x ≡ to_z w64 b
is_lit b f e = sym (to_z-of_z f) ∙ ap (to_z w64) e

-- a word that a test has found not to be below 0
pub not_neg : (z : ℤ) → lt_z z (pos 0) ≡ false → T (non_neg z)
not_neg (pos n) e = tt
not_neg (negsuc n) e = subst T e tt
