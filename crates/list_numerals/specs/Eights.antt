-- A number's first digits, and the last eight behind them. Assumes nothing.
use Rattle.std.specs.Prelude.{◌-◌, ◌*◌, ◌/◌, ◌^◌, ◌≤◌, ◌<◌}
use Rattle.whole.specs.Plain.{ℕ, refl, arith}
use Rattle.paper.specs.Listing.{shown_nat}
use Rattle.list_digits.specs.Puts.{Parts}
use Rattle.list_digits.specs.Decimal.{fixed, shown_cut}

pub eight_more : (n : ℕ) → 100000000 ≤ n → n < 2 ^ 64 → Parts (shown_nat n) (shown_nat (n / 100000000)) (fixed 8 (n - 100000000 * (n / 100000000)))
eight_more n l h = shown_cut 8 n refl (omega arith) 11 refl l (omega arith) (omega arith)
