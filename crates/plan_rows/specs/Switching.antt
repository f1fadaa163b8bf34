-- When a breaker may part, by the plan's rows. Assumes nothing.
use Rattle.std.specs.Prelude.{◌+◌, ◌-◌, ◌<◌, ◌≡◌, ◌&&◌}
use Rattle.whole.specs.Plain.{ℕ, refl, sym, ◌∙◌, Bool, leb, ltb, le-leb, lt-leb, dec_lt, arith}
use Rattle.paper.specs.Areas.{Net}
use Rattle.paper.specs.Latch.{may_part}
use Rattle.laws_facts.specs.Nets.{row_at}
use Rattle.plan_rows.specs.declared.Row.{Row}
use Rattle.plan_rows.specs.Planned.{row_of}

unfoldable pub may_part_by : ℕ → Row → Bool
may_part_by k r = leb (r.opens - 1) k && ltb r.closes k

-- as code asks
pub open_by : (o k : ℕ) → leb o (k + 1) ≡ leb (o - 1) k
open_by o k = go (dec_lt (k + 1) o)
  where
    go : Dec (k + 1 < o) → leb o (k + 1) ≡ leb (o - 1) k
    go (yes h) = lt-leb o (k + 1) h ∙ sym (lt-leb (o - 1) k (omega arith))
    go (no h) = le-leb o (k + 1) (omega arith) ∙ sym (le-leb (o - 1) k (omega arith))

-- as the paper has it
pub may_paper : (N : Net) (i k : ℕ) → may_part_by k (row_of N i) ≡ may_part k (row_at N i)
unfolding may_part_by may_part row_of
may_paper N i k = refl
