-- An area's nodes, the free ones and the fixed ones, by the areas and flags by node. Assumes nothing.
use Rattle.std.specs.Prelude.{◌≤◌, ◌≡◌, ◌&&◌, ◌∷◌}
use Rattle.whole.specs.Plain.{ℕ, refl, sym, ap, ◌∙◌, Bool, true, false, not, bool_beq, List, []}
use Rattle.whole.specs.Plain.{map, eqb, get_or, arith, keep, numbers}
use Rattle.whole.specs.Written.{keep_keep}
use Rattle.paper.specs.Limits as Limits
use Rattle.paper.specs.Areas.{Net, area_of, fixed, nodes_of, free_of}
use Rattle.laws_facts.specs.Nets.{NetSound}
use Rattle.plan_record.specs.Mapped.{Mapped}
use Rattle.plan_ends.specs.Own.{fixed_of}
use Rattle.plan_lay.specs.Listed.{listed, listed_same}
use Rattle.plan_lay.specs.Flags.{Flagged}

-- held by a VS or a VC, or not
abbrev pub same : Bool → Bool → Bool
same true b = b
same false b = not b

pub as_asked : (b held : Bool) → bool_beq b held ≡ same held b
as_asked true true = refl
as_asked true false = refl
as_asked false true = refl
as_asked false false = refl

unfoldable pub node_by : List ℕ → List Bool → Bool → ℕ → ℕ → Bool
node_by area flags held a n = eqb (get_or area n 0) a && same held (get_or flags n false)

abbrev pub nodes_by : List ℕ → List Bool → Bool → ℕ → ℕ → List ℕ
nodes_by area flags held a nodes = listed (node_by area flags held a) (λ n. n) 1 nodes

map_self : (l : List ℕ) → map (λ n. n) l ≡ l
map_self [] = refl
map_self (n ∷ l) = ap (λ (r : List ℕ). n ∷ r) (map_self l)

module _ {N : Net} {area : List ℕ} {flags : List Bool} (s : NetSound N) (m : Mapped N area) (f : Flagged N flags) (a : ℕ) where
  nodes_are : (held : Bool) → nodes_by area flags held a N.nodes ≡ keep (λ n. same held (fixed N n)) (nodes_of N a)
  unfolding listed nodes_of node_by
  nodes_are held =
      listed_same (node_by area flags held a) (λ n. eqb (area_of N n) a && same held (fixed N n)) (λ n. n) (λ n. n) 1 N.nodes
      (λ n lo hi. let h : n ≤ Limits.node_end = omega (arith, s.node_most) in rw (m.area_at n h, f.flag_at n h)) (λ n lo hi e. refl)
      ∙ map_self _
      ∙ sym (keep_keep (λ n. same held (fixed N n)) (λ n. eqb (area_of N n) a) (numbers 1 N.nodes))

  pub free_are : nodes_by area flags false a N.nodes ≡ free_of N a
  unfolding free_of
  free_are = nodes_are false

  pub fixed_are : nodes_by area flags true a N.nodes ≡ fixed_of N a
  unfolding fixed_of
  fixed_are = nodes_are true
