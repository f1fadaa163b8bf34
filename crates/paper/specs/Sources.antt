-- "A source before its start is 0; from start, with n steps since, it is peak · n / rise rounded toward zero while n < rise; at or after the
-- rise it is the peak." A VC swings from its start on. Assumes nothing.
use Rattle.std.specs.Prelude.{◌-◌, ◌*◌, ◌/◌, ◌%◌, ◌^◌, ◌&&◌, ◌*ℤ◌}
use Rattle.whole.specs.Plain.{ℕ, cond, ltb, eqb, ℤ, pos, quot_z, z, total}
use Rattle.num_cosine.specs.Cosine.{cosine}
use Rattle.paper.specs.Rows.{Row, is_iS, is_vC, at, peak, start, rise, frequency}
use Rattle.paper.specs.Faults.{fixes}
use Rattle.paper.specs.Areas.{Net, step}

-- of a VS or an IS, n steps since the start
unfoldable pub risen : Row → ℕ → ℤ
risen r n = cond (ltb n (rise r)) (quot_z (peak r *ℤ pos n) (pos (rise r))) (peak r)

-- "the phase is n · step · frequency modulo 10^12": n steps, each of as much as a step's phase
unfoldable pub phase : ℕ → ℕ → ℕ
phase n each = n * each % 10 ^ 12

-- "the index is 1024 times that over 10^12, rounded down"
unfoldable pub index : ℕ → ℕ
index p = 1024 * p / 10 ^ 12

-- "the value is peak · cosine / 2^30 rounded toward zero"
unfoldable pub swung : ℤ → ℕ → ℤ
swung peak p = quot_z (peak *ℤ cosine (index p)) (pos (2 ^ 30))

-- a source's value at step k
unfoldable pub source : Net → ℕ → Row → ℤ
source N k r =
    let n = k - start r in
    cond (ltb k (start r)) z (cond (is_vC r) (swung (peak r) (phase n (step N * frequency r))) (risen r n))

-- a fixed node's voltage
unfoldable pub held : Net → ℕ → ℕ → ℤ
held N k n = total (λ r. cond (fixes n r) (source N k r) z) N.rows

-- "An IS injects into its node."
unfoldable pub injected : Net → ℕ → ℕ → ℤ
injected N k n = total (λ r. cond (is_iS r && eqb (at r) n) (source N k r) z) N.rows
