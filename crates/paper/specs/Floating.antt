-- "A free node needs a path of conducting branches (R, L, C, closed SW) to ground, to a fixed node, or to a node with a line end, itself
-- included." A line's end is a leg to ground, and an open switch has no conductance, so this is a path of legs that conduct, to ground or to a
-- fixed node. Assumes nothing.
use Rattle.whole.specs.Plain.{ℕ, suc, Bool, cond, not, List, map, eqb, keep, first, numbers}
use Rattle.paper.specs.Legs.{Leg}
use Rattle.paper.specs.Spread.{Join, mark, spread}

abbrev pub conducting : Leg → Bool
conducting l = not (eqb l.g 0)

abbrev pub leg_join : Leg → Join
leg_join l = record { one = l.near; two = l.far }

-- ground and fixed nodes are marked 0, the others by their number
unfoldable pub marks : (ℕ → Bool) → ℕ → List ℕ
marks fix nodes = map (λ n. cond (fix n) 0 n) (numbers 0 (suc nodes))

unfoldable pub reached : (ℕ → Bool) → ℕ → List Leg → List ℕ
reached fix nodes legs = spread (map leg_join (keep conducting legs)) (marks fix nodes)

-- "The search stops at the lowest node without one": 0 where all have one
unfoldable pub floating : (ℕ → Bool) → ℕ → List ℕ → List Leg → ℕ
floating fix nodes free legs = let m = reached fix nodes legs in first (λ n. not (eqb (mark m n) 0)) free
