-- The plan filled row by row. Assumes nothing.
use Rattle.std.specs.Prelude.{◌+◌, ◌≤◌, ◌<◌, ◌≡◌}
use Rattle.whole.specs.Plain.{ℕ, zero, suc, max, refl, ap, ◌∙◌, cond, List, [], length, length-set}
use Rattle.whole.specs.Plain.{set, get_or, take-length, get_or-set_same, get_or-set_other, ℕ_discrete, arith, Words, filled}
use Rattle.whole.specs.Plain.{fold, sum}
use Rattle.std.proofs.Common.{add-one}
use Rattle.whole.specs.Folds.{sum_next, count_next}
use Rattle.whole.specs.Filled.{get_d_filled}
use Rattle.paper.specs.Rows.{is_branch}
use Rattle.paper.specs.Faults.{slots}
use Rattle.paper.specs.Areas.{Net, net_of, net_on, node_count, named, branch_number}
use Rattle.paper.specs.Records.{offset, slot_count}
use Rattle.laws_facts.specs.Nets.{net_in, row_at}
use Rattle.plan_record.specs.Mapped.{Mapped}
use Rattle.plan_ends.specs.Own.{owner_of}
use Rattle.plan_areas.specs.Marks.{mark_words}
use Rattle.plan_rows.specs.Planned.{Plan, no_row, row_of, row_in, owner_in, PlannedTo}

-- the areas by node
pub mapped : (N : Net) (area : List ℕ) → area ≡ filled mark_words 0 N.areas → Mapped N area
mapped N area e = record { area_at = λ n h. ap (λ (l : List ℕ). get_or l n 0) e ∙ get_d_filled mark_words 0 N.areas n }

pub nodes_are : (net : Words) → fold (λ n r. max n (named r)) 0 (net_in net).rows ≡ (net_in net).nodes
unfolding net_of net_on node_count
nodes_are net = refl

-- ---- slots and numbers, row by row

pub offset_first : (N : Net) → 0 ≡ offset N 0
unfolding offset sum
offset_first N = refl

pub offset_next : (N : Net) (i : ℕ) → i < length N.rows → offset N (i + 1) ≡ offset N i + slots N.head (row_at N i)
unfolding offset
offset_next N i h = sum_next (slots N.head) N.rows i [] h

pub offset_last : (N : Net) → offset N (length N.rows) ≡ slot_count N
unfolding offset slot_count
offset_last N = ap (sum (slots N.head)) (take-length N.rows)

pub number_next : (N : Net) (i : ℕ) → i < length N.rows → branch_number N (suc i) ≡ branch_number N i + cond (is_branch (row_at N i)) 1 0
unfolding branch_number
number_next N i h = rw add-one at (count_next is_branch N.rows i [] h)

-- ---- row by row

pub planned_none : (N : Net) (plan : Plan) → length plan ≡ 80 → PlannedTo N 0 plan
planned_none N plan e = record { long = e; row = λ i h. absurd (omega arith) }

pub planned_more : {N : Net} {n : ℕ} {plan : Plan} → PlannedTo N n plan → n < 80 → PlannedTo N (n + 1) (set plan n (row_of N n))
planned_more {N} {n} {plan} p h = record { long = length-set plan n _ ∙ p.long; row = λ i k. by i k (ℕ_discrete i n) }
  where
    by : (i : ℕ) → i < n + 1 → Dec (i ≡ n) → row_in (set plan n (row_of N n)) i ≡ row_of N i
    by i k (yes q) = rw (q, get_or-set_same plan n (row_of N n) no_row (omega (arith, p.long)))
    by i k (no q) = rw (get_or-set_other plan n i (row_of N n) no_row q) (p.row i (omega arith))

-- an end's owner
pub owner_is : (N : Net) (i e : ℕ) → 1 ≤ e → e ≤ 2 → owner_in (row_of N i) e ≡ owner_of N (row_at N i) e
unfolding owner_in row_of
owner_is N i zero h k = absurd (omega arith)
owner_is N i (suc zero) h k = refl
owner_is N i (suc (suc zero)) h k = refl
owner_is N i (suc (suc (suc e))) h k = absurd (omega arith)
