-- What goes by a row's kind alone, in the paper's words: its class, its slots, whose its ends are. Assumes nothing.
use Rattle.std.specs.Prelude.{◌*◌, ◌+◌, ◌≡◌, ◌∷◌}
use Rattle.whole.specs.Plain.{ℕ, max, refl, Bool, true, false, cond, List, [], eqb, pos, get_or}
use Rattle.whole.specs.Plain.{arith}
use Rattle.paper.specs.Rows.{Row, kind, branch_kind, is_branch, is_source, is_line, step_length}
use Rattle.paper.specs.Faults.{delay, rest, depth, slots}
use Rattle.paper.specs.Classes.{one_sort}
use Rattle.laws_facts.specs.Sound.{RowSound}

abbrev pub line_kind : ℕ → Bool
line_kind k = is_line (pos k ∷ [])

-- what is no branch is a source
pub source_else : (r : Row) {head : Row} {nodes : ℕ} → RowSound head nodes r → is_branch r ≡ false → is_source r ≡ true
source_else r s b = go (is_source r) (rw b at (one_sort (kind r) s.kind_least s.kind_most))
  where
    go : (t : Bool) → 0 + cond t 1 0 ≡ 1 → t ≡ true
    go true e = refl
    go false e = absurd (omega arith)

-- ---- slots

-- of q whole steps and a rest
unfoldable pub slots_by : ℕ → ℕ → ℕ → ℕ
slots_by k q rest = cond (line_kind k) (2 * q + cond (eqb rest 0) 0 1) 0

pub slots_by_lem : (head r : Row) → slots_by (kind r) (delay (step_length head) r) (rest (step_length head) r) ≡ slots head r
unfolding slots_by slots depth
slots_by_lem head r = refl

-- ---- areas, by node, of an end from one node to another

unfoldable pub owner_by : List ℕ → ℕ → ℕ → ℕ → ℕ
owner_by area k near far = cond (line_kind k) (get_or area near 0) (cond (branch_kind k) (get_or area (max near far) 0) 0)
