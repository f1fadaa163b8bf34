-- "The cosine comes from a quarter table of 257 entries scaled to 2^30, the other quarters by symmetry". Assumes nothing.
use Rattle.std.specs.Prelude.{◌-◌, ◌≤◌, ◌<◌, ◌≡◌}
use Rattle.whole.specs.Plain.{ℕ, cond, leb, ℤ, pos, neg_ℤ, le-leb, lt-leb}
use Rattle.num_cosine.specs.Quarter.{entry}

-- up to half a turn: past the quarter it is minus that of the rest
unfoldable pub half : ℕ → ℤ
half j = cond (leb j 256) (pos (entry j)) (neg_ℤ (pos (entry (512 - j))))

-- of 1,024 parts of a turn: past the half it is that of the rest
unfoldable pub cosine : ℕ → ℤ
cosine i = cond (leb i 512) (half i) (half (1024 - i))

-- ---- as code asks

-- the entry that has the cosine of the first half turn, but for the sign
unfoldable pub folded : ℕ → ℕ
folded j = cond (leb j 256) j (512 - j)

module _ (j : ℕ) where
  pub near : j ≤ 256 → j ≡ folded j
  unfolding folded
  near h = rw (le-leb j 256 h)

  pub past : 256 < j → 512 - j ≡ folded j
  unfolding folded
  past h = rw (lt-leb j 256 h)

  pub in_quarter : j ≤ 256 → pos (entry (folded j)) ≡ half j
  unfolding half folded
  in_quarter h = rw (le-leb j 256 h)

  pub past_quarter : 256 < j → neg_ℤ (pos (entry (folded j))) ≡ half j
  unfolding half folded
  past_quarter h = rw (lt-leb j 256 h)

  pub first_half : j ≤ 512 → half j ≡ cosine j
  unfolding cosine
  first_half h = rw (le-leb j 512 h)

  pub second_half : 512 < j → half (1024 - j) ≡ cosine j
  unfolding cosine
  second_half h = rw (lt-leb j 512 h)
