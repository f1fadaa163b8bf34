-- ∣ z ∣≤ m, as a record, so that z and m are inferred from a proof: bounds are put together forward, and no argument is written.
use Rattle.std.specs.Prelude.{◌+◌, ◌*◌, ◌≤◌, ◌^◌, ◌+ℤ◌, ◌-ℤ◌, ◌*ℤ◌}
use Rattle.whole.specs.Plain.{ℕ, T, ltb, leb, ltb→lt, leb→le, ℤ, nat_abs}
use Rattle.whole.specs.Plain.{le_trans, arith}
use Rattle.std.specs.Int.{w64}
use Rattle.std.proofs.Common.{SFits}
use Rattle.whole.specs.Int.{fits64, abs_add_le, abs_sub_le, abs_mul_le}

infix 50 ∣◌∣≤◌
pub record ∣◌∣≤◌ (z : ℤ) (m : ℕ) : Type 0 where
  pub size : nat_abs z ≤ m

pub add : {x y : ℤ} {m n : ℕ} → ∣ x ∣≤ m → ∣ y ∣≤ n → ∣ x +ℤ y ∣≤ (m + n)
add {x} {y} p q = record { size = abs_add_le x y p.size q.size }

pub sub : {x y : ℤ} {m n : ℕ} → ∣ x ∣≤ m → ∣ y ∣≤ n → ∣ x -ℤ y ∣≤ (m + n)
sub {x} {y} p q = record { size = abs_sub_le x y p.size q.size }

pub mul : {x y : ℤ} {m n : ℕ} → ∣ x ∣≤ m → ∣ y ∣≤ n → ∣ x *ℤ y ∣≤ (m * n)
mul {x} {y} p q = record { size = abs_mul_le x y p.size q.size }

-- a larger bound; at two numerals, `weaken p tt`
pub weaken : {x : ℤ} {m n : ℕ} → ∣ x ∣≤ m → T (leb m n) → ∣ x ∣≤ n
weaken {x} {m} {n} p t = record { size = le_trans p.size (leb→le m n t) }

-- it fits a word where the bound does; at a numeral, `fits p tt`
pub fits : {x : ℤ} {m : ℕ} → ∣ x ∣≤ m → T (ltb m (2 ^ 63)) → SFits w64 x
fits {x} {m} p t = let h = ltb→lt m (2 ^ 63) t in fits64 x (omega (arith, p.size))
