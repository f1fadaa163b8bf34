-- A breaker's parting, by the plan's rows and by the words of the records. Assumes nothing.
use Rattle.std.specs.Prelude.{◌≡◌, ◌&&◌}
use Rattle.whole.specs.Plain.{ℕ, zero, suc, refl, sym, Bool, true, false, cond, not, true≢false, eqb, ℤ, pos, negsuc, lt_z, lt-ltb, le-ltb}
use Rattle.whole.specs.Plain.{arith, Words, z, word}
use Rattle.paper.specs.Records.{current_at, latch_at}
use Rattle.paper.specs.Rows as Rows
use Rattle.paper.specs.Latch.{crosses, may_part, parts, new_latch}
use Rattle.paper.specs.Advance.{put_if}
use Rattle.paper.specs.Areas.{Net}
use Rattle.laws_facts.specs.Nets.{row_at}
use Rattle.plan_rows.specs.declared.Row.{Row}
use Rattle.plan_rows.specs.Planned.{Plan, row_in, row_of}
use Rattle.plan_rows.specs.Switching.{may_part_by, may_paper}
use Rattle.step_legs.specs.declared.Wire.{Wire}

-- with latch p
unfoldable pub parts_by : ℕ → Row → ℤ → ℤ → ℤ → Bool
parts_by k r before now p = not (lt_z z p) && (may_part_by k r && crosses before now)

-- of a leg, and records that have the current of the step before
unfoldable pub leg_parts : Plan → ℕ → Wire → Words → Bool
leg_parts plan k w recs = eqb w.kind 5 && parts_by k (row_in plan w.row) (word recs (current_at w.row)) w.current (word recs (latch_at w.row))

unfoldable pub latch_put : Plan → ℕ → Wire → Words → Words
latch_put plan k w recs = put_if (leg_parts plan k w recs) recs (latch_at w.row) (pos k)

-- as the paper has it
pub parts_paper : (N : Net) (i k : ℕ) (before now p : ℤ) → parts_by k (row_of N i) before now p ≡ (not (lt_z z p) && parts k (row_at N i) before now)
unfolding parts_by parts
parts_paper N i k before now p = rw (may_paper N i k)

-- a turn that is taken twice changes nothing more
own_cross : (before now : ℤ) → crosses now now ≡ true → crosses before now ≡ true
unfolding crosses
own_cross before (pos zero) e = refl
own_cross before (pos (suc n)) e = absurd (true≢false (sym (rw (le-ltb (suc n) 0 (omega arith), lt-ltb 0 (suc n) (omega arith)) at e)))
own_cross before (negsuc n) e = absurd (true≢false (sym e))

pub latch_again : (k : ℕ) (r : Rows.Row) (before now p : ℤ) → new_latch k r now now (new_latch k r before now p) ≡ new_latch k r before now p
unfolding new_latch parts
latch_again k r before now p = go (not (lt_z z p)) (may_part k r) (crosses before now) (crosses now now) refl (own_cross before now)
  where
    either : (b : Bool) → cond b (pos k) (pos k) ≡ pos k
    either true = refl
    either false = refl

    go : (a m c d : Bool) → not (lt_z z p) ≡ a → (d ≡ true → c ≡ true) → cond (not (lt_z z (cond (a && (m && c)) (pos k) p)) && (m && d)) (pos k) (cond (a && (m && c)) (pos k) p) ≡ cond (a && (m && c)) (pos k) p
    go true true true d e h = either (not (lt_z z (pos k)) && d)
    go true true false true e h = absurd (true≢false (sym (h refl)))
    go true true false false e h = rw e
    go true false c d e h = rw e
    go false m c d e h = rw e
