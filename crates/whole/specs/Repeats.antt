-- What is left of a repeated element. Assumes nothing.
use Rattle.std.specs.Prelude.{◌-◌, ◌≡◌}
use Rattle.whole.specs.Plain.{ℕ, zero, suc, drop, replicate, arith}

pub drop_replicate : {A : Type 0} (m n : ℕ) (a : A) → drop m (replicate n a) ≡ replicate (n - m) a
drop_replicate zero n a = let e : n - 0 ≡ n = omega arith in rw e
drop_replicate (suc m) zero a = let e : 0 - suc m ≡ 0 = omega arith in rw e
drop_replicate (suc m) (suc n) a = let e : suc n - suc m ≡ n - m = omega arith in rw e (drop_replicate m n a)
