-- Latches that are well formed stay so: as they are with a later count, and as a step leaves them. Assumes nothing.
use Rattle.std.specs.Prelude.{◌≤◌, ◌≡◌, ◌&&◌, ◌||◌}
use Rattle.whole.specs.Plain.{ℕ, refl, Bool, true, false, cond, not, leb, eqb, ℤ, pos, lt_z, non_neg, le_trans, leb-true, le-leb, ne_eqb, arith, z, nat}
use Rattle.whole.specs.Folds.{and_left, and_right, both}
use Rattle.paper.specs.Rows.{Row}
use Rattle.paper.specs.Latch.{crosses, may_part, parts, new_latch, latch_formed}

pub latch_later : (r : Row) (p : ℤ) (c d : ℕ) → c ≤ d → latch_formed r p c ≡ true → latch_formed r p d ≡ true
unfolding latch_formed
latch_later r p c d h = go (eqb (nat p) 0)
  where
    may : Bool
    may = non_neg p && may_part (nat p) r

    go : (x : Bool) → (x || (may && leb (nat p) c)) ≡ true → (x || (may && leb (nat p) d)) ≡ true
    go true e = refl
    go false e = both (and_left may (leb (nat p) c) e) (le-leb (nat p) d (le_trans (leb-true (nat p) c (and_right may (leb (nat p) c) e)) h))

-- step k of the count k
pub latch_next : (k : ℕ) (r : Row) (before now p : ℤ) → 1 ≤ k → latch_formed r p k ≡ true → latch_formed r (new_latch k r before now p) k ≡ true
unfolding new_latch parts latch_formed
latch_next k r before now p one old = go (not (lt_z z p) && (may_part k r && crosses before now)) refl
  where
    go : (b : Bool) → not (lt_z z p) && (may_part k r && crosses before now) ≡ b → latch_formed r (cond b (pos k) p) k ≡ true
    go true e =
        let m = and_left (may_part k r) (crosses before now) (and_right (not (lt_z z p)) (may_part k r && crosses before now) e) in
        rw (ne_eqb k 0 (λ q. omega arith)) (both m (le-leb k k (omega arith)))
    go false e = old
