-- "Breakers open at current zero" (02): when a closed switch parts, what its latch then is, and how long a switch that has closed stays so. A latch is
-- "the step k after which it parted or 0". Assumes nothing.
use Rattle.std.specs.Prelude.{◌-◌, ◌&&◌, ◌||◌}
use Rattle.whole.specs.Plain.{ℕ, Bool, true, cond, not, leb, ltb, eqb, ℤ, pos, lt_z, le_z, non_neg, z, nat}
use Rattle.paper.specs.Rows.{Row, is_breaker, closes, opens}

-- "zero or of opposite sign to that of step k - 1": zero has no opposite sign, so a current that was zero and is not does not part a switch. By signs,
-- for the product of two currents fits no word
unfoldable pub crosses : ℤ → ℤ → Bool
crosses before now = cond (lt_z now z) (lt_z z before) (cond (lt_z z now) (lt_z before z) true)

-- "at or after open - 1 and later than its closing step"
unfoldable pub may_part : ℕ → Row → Bool
may_part k r = leb (opens r - 1) k && ltb (closes r) k

unfoldable pub parts : ℕ → Row → ℤ → ℤ → Bool
parts k r before now = may_part k r && crosses before now

-- the latch that was p, after step k: set at "the first step", and it "stays so"
unfoldable pub new_latch : ℕ → Row → ℤ → ℤ → ℤ → ℤ
new_latch k r before now p = cond (not (lt_z z p) && parts k r before now) (pos k) p

-- closed by step k, it is so still: an SW that has not parted before step k, for "it is open from step k + 1"; an SWT before its opening step
unfoldable pub holds : Row → ℤ → ℕ → Bool
holds r p k = cond (is_breaker r) (not (lt_z z p) || le_z (pos k) p) (ltb k (opens r))

-- with count c, not "a set latch that is below open - 1, not above close or past the area's count"
unfoldable pub latch_formed : Row → ℤ → ℕ → Bool
latch_formed r p c = eqb (nat p) 0 || (non_neg p && may_part (nat p) r && leb (nat p) c)
