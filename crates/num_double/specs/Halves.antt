-- What is rounded. Assumes nothing.
use Rattle.whole.specs.Plain.{ℕ, T}
use Rattle.std.specs.Prelude.{Float, ◌*◌, ◌≤◌, ◌≡◌}
use Rattle.std.specs.Float.{nan, inf, fin}
use Rattle.std.specs.Float.Ieee.{up, down}

-- a number from 0 to top; zero may have either sign
abbrev pub UpTo : ℕ → Float → Type 0
UpTo top nan = ⊥
UpTo top (inf s) = ⊥
UpTo top (fin s m e) = (m * up e ≤ top * down e) × (T s → m ≡ 0)
