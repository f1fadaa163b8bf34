-- The machine's tests of two signed words are the tests of the numbers. Assumes nothing.
use Rattle.std.specs.Prelude.{◌<◌, ◌^◌, ◌≡◌}
use Rattle.whole.specs.Plain.{ℕ, ℤ, pos, le_z, lt-ltb}
use Rattle.std.specs.Int.{w64}
use Rattle.std.proofs.Common.{SFits, to_z, of_z, to_z-of_z}

pub le_read : (x y : ℤ) → SFits w64 x → SFits w64 y → le_z (to_z w64 (of_z w64 x)) (to_z w64 (of_z w64 y)) ≡ le_z x y
le_read x y f g = rw (to_z-of_z f, to_z-of_z g)

-- an unsigned word that is small, read as a signed one
pub read_small : (n : ℕ) → n < 2 ^ 63 → to_z w64 n ≡ pos n
read_small n h = rw (lt-ltb n (2 ^ 63) h)
