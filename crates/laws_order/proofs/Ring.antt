-- A ring of slots holds what its reader reads. Assumes nothing.
use Rattle.std.specs.Prelude.{ℕ, suc, ◌+◌, ◌≤◌, ◌<◌, List, ℤ}
use Rattle.std.proofs.Common.{arith}
use Rattle.laws_order.specs.Ring.{places, slot, Holds}

-- its reader, at its step k and not waiting, the counts within d: what was sent at step k - d, and at the `deep` steps before it, is in its slot
pub holds_read : (st : List ℤ) (off d deep far own : ℕ) (Sent : ℕ → ℤ → Type 0) → 0 < d → Holds st off (places d deep) far Sent
    → own < far + d → far ≤ own + d → (x : ℕ) → 0 < x → x + d ≤ suc own → suc own ≤ x + deep + d → Sent x (slot st off (places d deep) x)
holds_read st off d deep far own Sent d0 h free near x p q r = h.holds x p (omega arith) (omega arith)
