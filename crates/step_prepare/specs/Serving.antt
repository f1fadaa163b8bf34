-- What is prepared for an area at a position of its switches, and the steps that it serves. Assumes nothing.
use Rattle.whole.specs.Plain.{ℕ, zero, suc, refl, sym, ap, ◌∙◌, ⊎_elim, List, map, length, arith, Words}
use Rattle.std.specs.Prelude.{Float, Some, None, Result, Ok, Err, ◌+◌, ◌≤◌, ◌<◌, ◌≡◌}
use Rattle.whole.specs.Named.{named}
use Rattle.paper.specs.Limits as Limits
use Rattle.paper.specs.declared.Refusal.{Refusal}
use Rattle.paper.specs.declared.Refusal.TheVariants as R
use Rattle.paper.specs.Areas.{Net, fixed, free_of}
use Rattle.paper.specs.Legs.{Leg}
use Rattle.paper.specs.Floating.{floating}
use Rattle.laws_facts.specs.Nets.{NetSound}
use Rattle.plan_ends.specs.Own.{own_ends, Framed}
use Rattle.plan_rows.specs.Planned.{Plan, Planned}
use Rattle.step_legs.specs.declared.Wire.{Wire}
use Rattle.step_legs.specs.Wires.{legs_in, Wires}
use Rattle.step_legs.specs.Leaving.{legs_length, leg_is}
use Rattle.step_legs.specs.Free.{Free}
use Rattle.step_factors.specs.Factors.{Serves}
use Rattle.step_factors.specs.Positions.{bare}
use Rattle.step_factors.specs.Proposed.{matrix_of}
use Rattle.step_own.specs.Ends.{bare_of_end}
use Rattle.step_own.specs.EndSizes as Sizes
use Rattle.step_own.specs.EndSizes.{Ours}
use Rattle.step_own.specs.Laid.{Conducting, SameLatches, end_own, bares_are, conducting_wires, conducting_latched}
use Rattle.step_floating.specs.Search.{loose}
use Rattle.step_floating.specs.Visits.{none_named, named_some, named_not}
use Rattle.step_floating.specs.Free.{free_nodes}
use Rattle.step_floating.specs.Local.{Local, ground, inside, Locals, floating_local, floating_joins, joins_bare}
use Rattle.step_conduct.specs.Conducted.{Conducted}
use Rattle.step_conduct.specs.Paper.{conducting}
use Rattle.step_prepare.specs.declared.Floating.{Floating}

-- its legs without their histories
abbrev pub bares : Net → ℕ → ℕ → Words → List Leg
bares N a k recs = map (bare_of_end N k recs) (own_ends N a)

-- 14 FLOATING: "a free node has no path": the lowest, or 0
abbrev pub floats : Net → ℕ → ℕ → Words → ℕ
floats N a k recs = floating (fixed N) N.nodes (free_of N a) (bares N a k recs)

-- what is given where no node floats; otherwise the lowest that does
module _ {A : Type 0} where
  abbrev pub unless_floating : ℕ → A → Result A Floating
  unless_floating zero x = Ok x
  unless_floating (suc n) x = Err (record { node = suc n })

  pub unless_none : (n : ℕ) (x : A) → n ≡ 0 → Ok x ≡ unless_floating n x
  unless_none n x e = rw e

  pub unless_some : (n : ℕ) (x : A) {m : ℕ} → named n ≡ Some m → Err (record { node = m }) ≡ unless_floating n x
  unless_some zero x e = cc
  unless_some (suc n) x e = let q : suc n ≡ _ = named_some (suc n) e in rw (← q)

  pub unless_ok : (n : ℕ) {x y : A} → Ok x ≡ unless_floating n y → (n ≡ 0) × (x ≡ y)
  unless_ok zero e = (refl, cc)
  unless_ok (suc n) e = cc

pub unless_err : {A B : Type 0} (n : ℕ) {d : Floating} (x : A) (y : B) → Err d ≡ unless_floating n x → Err d ≡ unless_floating n y
unless_err zero x y e = cc
unless_err (suc n) {d} x y e = let q : d ≡ record { node = suc n } = cc in rw q

abbrev pub refused_of : Floating → Refusal
refused_of f = R.Floating f.node

-- an area's own lines, free nodes and plan
pub record Standing (N : Net) (a : ℕ) (plan : Plan) (legs : List Wire) (free : List ℕ) (base : ℕ) : Type 0 where
  pub sound : NetSound N
  pub one : 1 ≤ a
  pub planned : Planned N plan
  pub framed : Framed N a legs
  pub free_is : free ≡ free_of N a
  pub room : base + length free ≤ 32

pub record Known (plan : Plan) (legs : List Wire) (free : List ℕ) (base : ℕ) : Type 0 where
  pub net : Net
  pub area : ℕ
  pub stands : Standing net area plan legs free base

-- the lines conduct as at step k by the records' latches, the table has the factors of the matrix, and no node floats
pub record Serving (N : Net) (a k : ℕ) (recs : Words) (base : ℕ) (legs : List Wire) (f : List (List Float)) : Type 0 where
  pub conducts : Conducting N a k recs legs
  pub serves : Serves base (length (free_of N a)) (matrix_of (bares N a k recs) (free_of N a)) f
  pub grounded : floats N a k recs ≡ 0

-- it goes on serving where none of the area's switches has parted
pub serving_latched : {N : Net} {a k base : ℕ} {recs recs' : Words} {legs : List Wire} {f : List (List Float)} → NetSound N → 1 ≤ a → SameLatches N a recs recs'
    → Serving N a k recs base legs f → Serving N a k recs' base legs f
serving_latched {N} {a} {k} {base} {recs} {recs'} {legs} {f} s one same v =
    let c = conducting_latched s one same v.conducts in
    let e : bares N a k recs ≡ bares N a k recs' = sym (bares_are v.conducts) ∙ bares_are c in
    record { conducts = c; serves = rw e at v.serves; grounded = rw e at v.grounded }

pub record Prepares (N : Net) (a k : ℕ) (recs : Words) (base : ℕ) (r : Result ℕ Floating) (legs : List Wire) (f : List (List Float)) : Type 0 where
  pub until : ℕ
  pub answer : r ≡ unless_floating (floats N a k recs) until
  pub framed : Framed N a legs
  pub serving : floats N a k recs ≡ 0 → (i : ℕ) → k ≤ i → i < until → Serving N a i recs base legs f
  pub on : k < until

module _ {N : Net} {a base : ℕ} {plan : Plan} {legs : List Wire} {free : List ℕ} (s : Standing N a plan legs free base) where
  pub all_free : Free free
  all_free = free_nodes N s.sound a s.free_is

  -- ---- with the conductances of a step
  module _ {recs : Words} {k until : ℕ} {after : List Wire} (c : Conducted plan recs k (length legs) legs after until) where
    pub at_step : (i : ℕ) → k ≤ i → i < until → Conducting N a i recs after
    at_step = conducting s.sound s.one s.planned s.framed c

    here : Conducting N a k recs after
    here = at_step k (omega arith) c.on

    pub all_wires : Wires after
    all_wires = conducting_wires s.sound s.one here

    local : {n : ℕ} → n ≤ N.nodes → Ours N a n → Local N a n
    local l o = ⊎_elim ground (inside l) o

    locals : Locals N a (legs_in after)
    locals = record {
      ends = λ j h.
          let i : j < length after = rw (legs_length after) at h in
          let o = end_own N a j (omega (arith, here.framed.long)) in
          rw (leg_is after j i, (here.framed.line j i).near, (here.framed.line j i).far)
          (local (Sizes.near_most N s.sound a s.one _ o.0 o.1) (Sizes.near_ours N s.sound a s.one _ o.0 o.1), local (Sizes.far_most N s.sound a s.one _ o.0 o.1) (Sizes.far_ours N s.sound a s.one _ o.0 o.1));
    }

    -- the search over the lines is the paper's, at each step that they serve
    pub floats_is : (i : ℕ) → k ≤ i → i < until → floating (loose free) Limits.node_end free (legs_in after) ≡ floats N a i recs
    floats_is i l m =
        rw s.free_is
        (floating_local N s.sound a s.one locals
        ∙ sym (floating_joins (fixed N) N.nodes (free_of N a) (map bare (legs_in after)) (legs_in after) (joins_bare (legs_in after)))
        ∙ ap (floating (fixed N) N.nodes (free_of N a)) (bares_are (at_step i l m)))

    -- ---- what there is then
    abbrev found : ℕ
    found = floating (loose free) Limits.node_end free (legs_in after)

    found_is : found ≡ floats N a k recs
    found_is = floats_is k (omega arith) c.on

    pub stops : {f : List (List Float)} {node : ℕ} → named found ≡ Some node → Prepares N a k recs base (Err (record { node = node })) after f
    stops {node = node} e = record {
      until = until;
      answer = unless_some (floats N a k recs) until (rw found_is at e);
      framed = here.framed;
      serving = λ z. absurd (named_not found e (sym (named_some found e) ∙ found_is ∙ z));
      on = c.on;
    }

    pub goes : {f : List (List Float)} → None ≡ named found → Serves base (length free) (matrix_of (map bare (legs_in after)) free) f → Prepares N a k recs base (Ok until) after f
    goes {f} e v = record {
      until = until;
      answer = unless_none (floats N a k recs) until (sym found_is ∙ none_named found e);
      framed = here.framed;
      serving = λ q i l m. record {
        conducts = at_step i l m;
        serves = rw (s.free_is, bares_are (at_step i l m)) at v;
        grounded = sym (floats_is i l m) ∙ none_named found e;
      };
      on = c.on;
    }
