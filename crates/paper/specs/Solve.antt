-- One step of one area, from its own records and what it receives: the voltages, or a refusal of 14 to 17. Assumes nothing.
use Rattle.std.specs.Prelude.{Option, Some, None}
use Rattle.whole.specs.Plain.{ℕ, zero, suc, Bool, false, cond, not, List, [], map, eqb, ℤ, pos, neg_ℤ}
use Rattle.whole.specs.Plain.{set, length, replicate, take, Words, z, word, up_to, filled, first, fold, total}
use Rattle.std.specs.Prelude.{Float, ◌&&◌, ◌∷◌, ◌-ℤ◌, ◌*ℤ◌}
use Rattle.std.specs.Float.{fin}
use Rattle.paper.specs.declared.Equation.{Equation}
use Rattle.paper.specs.declared.Refusal.{Refusal}
use Rattle.paper.specs.declared.Refusal.TheVariants.{Floating, Range, Unbalanced, History}
use Rattle.paper.specs.Limits as Limits
use Rattle.paper.specs.Rows.{limit}
use Rattle.paper.specs.Areas.{Net, fixed, free_of, nodes_of, branch_number}
use Rattle.paper.specs.Sources.{held, injected}
use Rattle.paper.specs.Legs.{Leg, Branch, both_legs, current, passed_on}
use Rattle.paper.specs.Floating.{floating}
use Rattle.paper.specs.Elimination.{System, sys, voltages}
use Rattle.paper.specs.Doubles.{Voltage, double, nearest_of}

-- ---- the equations

abbrev pub nought : Float
nought = fin false 0 (pos 0)

-- g, summed over the legs that leave p, and over those that lead from p to q
unfoldable pub leaves : ℕ → Leg → Bool
leaves p l = eqb l.near p

unfoldable pub leads : ℕ → ℕ → Leg → Bool
leads p q l = eqb l.near p && eqb l.far q

-- "The matrix has each node's sum of conductances, lines included, on the diagonal and minus the sum of the joining conductances elsewhere"
unfoldable pub entry : List Leg → ℕ → ℕ → ℤ
entry legs p q =
    cond (eqb p q) (total (λ l. cond (leaves p l) (pos l.g) z) legs) (neg_ℤ (total (λ l. cond (leads p q l) (pos l.g) z) legs))

-- "The right side is injection minus histories (a history has the sign its current has in leaving that node) plus conductance times fixed
-- neighbour voltages, summed in whole numbers": `still` has the fixed nodes' voltages, and 0 for the free ones and ground
unfoldable pub right_side : List Leg → Words → ℤ → ℕ → ℤ
right_side legs still inject p = inject -ℤ total (λ l. cond (leaves p l) (l.h -ℤ pos l.g *ℤ word still l.far) z) legs

-- the matrix array has 32 lines of 32 cells: those past the free nodes are 0 and take no part
unfoldable pub matrix_row : List Leg → List ℕ → ℕ → List Float
matrix_row legs free p = filled Limits.node_end nought (map (λ q. double (entry legs p q)) free)

unfoldable pub equation : List Leg → Words → (ℕ → ℤ) → ℕ → Equation
equation legs still inject p = record { pivot = double (entry legs p p); right = double (right_side legs still (inject p) p) }

unfoldable pub system : List Leg → List ℕ → Words → (ℕ → ℤ) → System
system legs free still inject =
    sys
    (filled Limits.node_end (replicate Limits.node_end nought) (map (matrix_row legs free) free))
    (filled Limits.node_end (record { pivot = nought; right = nought }) (map (equation legs still inject) free))

-- ---- the voltages

-- "Each x within the voltage range goes to the nearest whole number, halves away from zero"
unfoldable pub proposed : List Leg → List ℕ → Words → (ℕ → ℤ) → List (Option Voltage)
proposed legs free still inject = map nearest_of (take (length free) (voltages (length free) (system legs free still inject)))

-- "one that isn't within it, not-a-number included, is RANGE": the lowest such node, or 0
abbrev pub out_of : Option Voltage → ℕ → ℕ → ℕ
out_of (Some v) n rest = rest
out_of None n rest = n

unfoldable pub out_of_range : List ℕ → List (Option Voltage) → ℕ
out_of_range [] xs = 0
out_of_range (n ∷ ns) [] = 0
out_of_range (n ∷ ns) (x ∷ xs) = out_of x n (out_of_range ns xs)

abbrev pub settle : Words → ℕ → Option Voltage → Words
settle v n (Some x) = set v n x.tenths
settle v n None = v

unfoldable pub settled : List ℕ → List (Option Voltage) → Words → Words
settled [] xs v = v
settled (n ∷ ns) [] v = v
settled (n ∷ ns) (x ∷ xs) v = settled ns xs (settle v n x)

-- ---- "Balance."

-- "At each free node the exact whole-number sum of currents leaving, minus injection, has magnitude at most the limit."
unfoldable pub imbalance : List Leg → (ℕ → ℤ) → Words → ℕ → ℤ
imbalance legs inject v p = total (λ l. cond (leaves p l) (current v l) z) legs -ℤ inject p

unfoldable pub unbalanced : ℕ → List Leg → (ℕ → ℤ) → Words → List ℕ → ℕ
unbalanced most legs inject v free = first (λ p. not (up_to most (imbalance legs inject v p))) free

-- ---- 17 HISTORY: "a next history or sent value beyond 10^17"

unfoldable pub beyond : Words → Branch → Bool
beyond v b = not (up_to Limits.history_end (passed_on v b.row b.is_from_end.wire) && up_to Limits.history_end (passed_on v b.row b.is_to_end.wire))

-- the first such row's place, from 1, or 0
unfoldable pub first_beyond : Words → ℕ → List Branch → ℕ
first_beyond v i [] = 0
first_beyond v i (b ∷ bs) = let r = first_beyond v (suc i) bs in cond (beyond v b) (suc i) r

-- ---- the step

-- a refusal, or the voltages by node and the legs that they were found from
pub data Step : Type 0 where
  stop : Refusal → Step
  move : List Branch → Words → Step

-- the voltages by node before solving: sources at the area's fixed nodes, 0 elsewhere
unfoldable pub still_of : Net → ℕ → ℕ → Words
still_of N a k = fold (λ v n. cond (fixed N n) (set v n (held N k n)) v) (replicate (suc Limits.node_end) z) (nodes_of N a)

abbrev pub and_balance : Step → ℕ → Step
and_balance next zero = next
and_balance next (suc n) = stop (Unbalanced (suc n))

unfoldable pub balance_step : Net → ℕ → ℕ → List Branch → Words → Step
balance_step N a k bs v =
    and_balance (move bs v) (unbalanced (limit N.head) (both_legs bs) (injected N k) v (free_of N a))

abbrev pub and_range : Step → ℕ → Step
and_range next zero = next
and_range next (suc n) = stop (Range (suc n))

unfoldable pub range_step : Net → ℕ → ℕ → List Branch → Words → List (Option Voltage) → Step
range_step N a k bs still xs = and_range (balance_step N a k bs (settled (free_of N a) xs still)) (out_of_range (free_of N a) xs)

unfoldable pub solved_step : Net → ℕ → ℕ → List Branch → Words → Step
solved_step N a k bs still = range_step N a k bs still (proposed (both_legs bs) (free_of N a) still (injected N k))

abbrev pub and_floating : Step → ℕ → Step
and_floating next zero = next
and_floating next (suc n) = stop (Floating (suc n))

-- 14 to 16, in turn
unfoldable pub settling : Net → ℕ → ℕ → List Branch → Step
settling N a k bs =
    and_floating (solved_step N a k bs (still_of N a k)) (floating (fixed N) N.nodes (free_of N a) (both_legs bs))

abbrev pub and_history : Net → List Branch → Words → ℕ → Step
and_history N bs v zero = move bs v
and_history N bs v (suc r) = stop (History (branch_number N (suc r)))

unfoldable pub history_step : Net → List Branch → Words → Step
history_step N bs v = and_history N bs v (first_beyond v 0 bs)

-- 17, after these
abbrev pub passing : Net → Step → Step
passing N (stop x) = stop x
passing N (move bs v) = history_step N bs v

-- 14 to 17, in turn
unfoldable pub solve : Net → ℕ → ℕ → List Branch → Step
solve N a k bs = passing N (settling N a k bs)
