-- An area's step, with what is kept for it renewed first. Assumes nothing.
use Rattle.std.specs.Prelude.{Err}
use Rattle.whole.specs.Plain.{ℕ, zero, suc, refl, sym, ap, ◌∙◌, List, arith}
use Rattle.whole.specs.Plain.{[], map, Words, z}
use Rattle.std.specs.Prelude.{Float, ◌≤◌, ◌≡◌, ◌∷◌}
use Rattle.paper.specs.Replies.{Advance}
use Rattle.paper.specs.declared.Refusal.TheVariants.{Floating}
use Rattle.paper.specs.Areas.{Net, fixed, free_of}
use Rattle.paper.specs.Legs.{Leg, leg, both_legs}
use Rattle.paper.specs.Floating as Paper
use Rattle.paper.specs.Solve.{passing, solve, settling, solved_step, still_of, and_floating}
use Rattle.paper.specs.Advance.{Memory, memory, advanced, finish, take_step, ready}
use Rattle.plan_ends.specs.Own.{own_ends}
use Rattle.plan_rows.specs.Planned.{Plan}
use Rattle.plan_own.specs.declared.Own.{Own}
use Rattle.step_legs.specs.declared.Wire.{Wire}
use Rattle.step_legs.specs.declared.Source.{Source}
use Rattle.step_floating.specs.Local.{floating_joins, joins_bare}
use Rattle.step_own.specs.Ends.{leg_of_end, bare_of_end}
use Rattle.step_own.specs.Paper.{own_floating}
use Rattle.step_prepare.specs.declared.Floating as Floated
use Rattle.step_prepare.specs.Serving as Serving
use Rattle.step_try.specs.Trying.{branches}
use Rattle.step_take.specs.declared.Turn.{Turn}
use Rattle.step_keep.specs.Tabled.{Tables}
use Rattle.step_take.specs.Stepping.{Stepping, Moved}

pub record Going (plan : Plan) (owns : List Own) (legs : List Wire) (nodes : List ℕ) (sources : List Source) (f : List (List Float)) (recs froms tos : Words) (turn : Turn) : Type 0 where
  pub net : Net
  pub low : ℕ
  pub high : ℕ
  pub tables : Tables net low high turn.k recs plan owns legs nodes sources f
  pub stepping : Stepping net low high turn (memory recs froms tos)

pub record Steps (plan : Plan) (nodes : List ℕ) (sources : List Source) (turn : Turn) (owns : List Own) (legs : List Wire) (f : List (List Float)) (m : Memory) (r : Advance) (owns' : List Own) (legs' : List Wire) (f' : List (List Float)) (m' : Memory) : Type 0 where
  pub of : (N : Net) (low high : ℕ) → Tables N low high turn.k m.records plan owns legs nodes sources f → Stepping N low high turn m → Moved N low high plan owns' nodes sources f' turn m r legs' m'

-- ---- 14
pub unless_node : {A : Type 0} (n : ℕ) {d : Floated.Floating} (x : A) → Err d ≡ Serving.unless_floating n x → (d.node ≡ n) × (d.node ≡ 0 → ⊥)
unless_node zero x e = cc
unless_node (suc n) {d} x e =
    let q : d ≡ record { node = suc n } = cc in
    let k : d.node ≡ suc n = ap (λ (f : Floated.Floating). f.node) q in
    (k, λ z. let i : suc n ≡ 0 = sym k ∙ z in omega arith)

bares_of : (N : Net) (k : ℕ) (recs froms tos : Words) (l : List ℕ) → map (λ x. leg x.near x.far x.g z) (map (leg_of_end N k recs froms tos) l) ≡ map (bare_of_end N k recs) l
bares_of N k recs froms tos [] = refl
bares_of N k recs froms tos (e ∷ l) = ap (λ (t : List Leg). bare_of_end N k recs e ∷ t) (bares_of N k recs froms tos l)

floats_paper : (N : Net) (a k : ℕ) (recs froms tos : Words) → 1 ≤ a → Paper.floating (fixed N) N.nodes (free_of N a) (both_legs (branches N a k recs froms tos)) ≡ Serving.floats N a k recs
floats_paper N a k recs froms tos one =
    sym (own_floating N a k recs froms tos one (fixed N) N.nodes (free_of N a))
    ∙ sym (floating_joins (fixed N) N.nodes (free_of N a) _ (map (leg_of_end N k recs froms tos) (own_ends N a)) (joins_bare (map (leg_of_end N k recs froms tos) (own_ends N a))))
    ∙ ap (Paper.floating (fixed N) N.nodes (free_of N a)) (bares_of N k recs froms tos (own_ends N a))

pub floating_step : (N : Net) (a k : ℕ) (m : Memory) (node : ℕ) → 1 ≤ a → node ≡ Serving.floats N a k m.records → (node ≡ 0 → ⊥) → advanced (Err (Floating node)) m ≡ ready N a k m
unfolding ready take_step solve settling
floating_step N a k m node one e n = by node (e ∙ sym (floats_paper N a k m.records m.froms m.tos one)) n
  where
    by : (i : ℕ) → i ≡ Paper.floating (fixed N) N.nodes (free_of N a) (both_legs (branches N a k m.records m.froms m.tos)) → (i ≡ 0 → ⊥)
        → advanced (Err (Floating i)) m ≡ finish N a k m
        (passing N (and_floating (solved_step N a k (branches N a k m.records m.froms m.tos) (still_of N a k)) (Paper.floating (fixed N) N.nodes (free_of N a) (both_legs (branches N a k m.records m.froms m.tos)))))
    by zero q z = absurd (z refl)
    by (suc i) q z = rw (← q)
