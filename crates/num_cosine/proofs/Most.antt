-- No cosine is larger than 2^30. Assumes nothing.
use Rattle.std.specs.Prelude.{◌-◌, ◌^◌, ◌≤◌}
use Rattle.whole.specs.Plain.{ℕ, Bool, true, false, cond, leb, pos, neg_ℤ, nat_abs}
use Rattle.whole.specs.Int.{abs_neg}
use Rattle.whole.specs.Size.{∣◌∣≤◌}
use Rattle.num_cosine.specs.Quarter.{entry}
use Rattle.num_cosine.proofs.Entries.{entry_most}
use Rattle.num_cosine.specs.Cosine.{half, cosine}

half_most : (j : ℕ) → nat_abs (half j) ≤ 2 ^ 30
unfolding half
half_most j = by (leb j 256)
  where
    by : (b : Bool) → nat_abs (cond b (pos (entry j)) (neg_ℤ (pos (entry (512 - j))))) ≤ 2 ^ 30
    by true = entry_most j
    by false = rw (abs_neg (pos (entry (512 - j)))) (entry_most (512 - j))

pub cosine_most : (i : ℕ) → ∣ cosine i ∣≤ (2 ^ 30)
unfolding cosine
cosine_most i = by (leb i 512)
  where
    by : (b : Bool) → ∣ cond b (half i) (half (1024 - i)) ∣≤ (2 ^ 30)
    by true = record { size = half_most i }
    by false = record { size = half_most (1024 - i) }
