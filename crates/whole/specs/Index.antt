-- A word as an index, `w as usize`: one that is no negative number. Assumes nothing.
use Rattle.std.specs.Prelude.{◌<◌, ◌^◌, ◌≡◌}
use Rattle.whole.specs.Plain.{ℕ, T, ℤ, pos, nat_abs, mag, non_neg, arith}
use Rattle.std.specs.Int.{w64}
use Rattle.std.proofs.Common.{Fits, to_z, of_z}
use Rattle.whole.specs.Int.{read64}

-- what the cast asks of a word that is the number n
pub index : (x : ℤ) (n : ℕ) → mag x < 2 ^ 63 → x ≡ pos n → T (non_neg (to_z w64 (of_z w64 x))) × Fits w64 (nat_abs (to_z w64 (of_z w64 x)))
index x n f e =
    let k : n < 2 ^ 63 = rw e at f in
    rw (read64 x f, e) (tt, record { fits = omega arith })
