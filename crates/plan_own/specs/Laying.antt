-- Area after area: what is laid of those below a, with room behind it for the rest. Assumes nothing.
use Rattle.std.specs.Prelude.{◌+◌, ◌≤◌, ◌<◌, ◌≡◌}
use Rattle.whole.specs.Plain.{ℕ, ◌∙◌, List, length, set, length-set, get_or-set_same}
use Rattle.whole.specs.Plain.{get_or-set_other, ℕ_discrete, arith}
use Rattle.paper.specs.Areas.{Net}
use Rattle.laws_facts.specs.Nets.{NetSound}
use Rattle.step_legs.specs.declared.Wire.{Wire}
use Rattle.step_legs.specs.declared.Source.{Source}
use Rattle.plan_own.specs.declared.Own.{Own}
use Rattle.plan_lay.specs.Grown.{part, part_kept}
use Rattle.plan_own.specs.Owns.{own_in, nothing, Tables, Room, Ours, Behind, Apart, LaidBelow, UnpreparedBelow}
use Rattle.plan_own.specs.Areas.{room_first, room_next}

-- o ends before what `at` says is filled
pub record Before (o at : Own) : Type 0 where
  pub legs : o.legs_end ≤ at.legs_end
  pub nodes : o.nodes_end ≤ at.nodes_end
  pub sources : o.sources_end ≤ at.sources_end

-- an area's own stands as long as what is filled up to there does
ours_kept : {N : Net} {a : ℕ} {o at u : Own} {legs legs' : List Wire} {nodes nodes' : List ℕ} {sources sources' : List Source}
    → Tables legs nodes sources → Room N a at → Before o at → Behind at u legs nodes sources legs' nodes' sources' → (b : ℕ) → Ours N b o legs nodes sources → Ours N b o legs' nodes' sources'
ours_kept {N} {a} {o} {at} {u} {legs} {legs'} {nodes} {nodes'} {sources} {sources'} t r e h b w =
    record {
      legs_in = w.legs_in;
      nodes_in = w.nodes_in;
      sources_in = w.sources_in;
      framed = rw (part_kept legs' legs at.legs_end o.legs o.legs_end h.legs_kept w.legs_in.0 e.legs (omega (arith, r.legs, h.tables.legs_long)) (omega (arith, r.legs, t.legs_long))) w.framed;
      free = node_part o.base o.free_end w.nodes_in.0 (omega (arith, e.nodes, w.nodes_in)) ∙ w.free;
      nodes = node_part o.base o.nodes_end (omega (arith, w.nodes_in)) e.nodes ∙ w.nodes;
      sources = part_kept sources' sources at.sources_end o.sources o.sources_end h.sources_kept w.sources_in.0 e.sources (omega (arith, r.sources, h.tables.sources_long)) (omega (arith, r.sources, t.sources_long)) ∙ w.sources;
    }
  where
    node_part : (f e : ℕ) → f ≤ e → e ≤ at.nodes_end → part f e nodes' ≡ part f e nodes
    node_part f e l k = part_kept nodes' nodes at.nodes_end f e h.nodes_kept l k (omega (arith, r.nodes, h.tables.nodes_long)) (omega (arith, r.nodes, t.nodes_long))

pub record Laying (N : Net) (a : ℕ) (at : Own) (owns : List Own) (legs : List Wire) (nodes : List ℕ) (sources : List Source) : Type 0 where
  pub room : Room N a at
  pub laid : LaidBelow N a owns legs nodes sources
  pub unprepared : UnpreparedBelow a owns
  pub before : (b : ℕ) → 1 ≤ b → b < a → Before (own_in owns b) at

pub laying_none : {N : Net} → NetSound N → (owns : List Own) (legs : List Wire) (nodes : List ℕ) (sources : List Source) → length owns ≡ 33 → Tables legs nodes sources → Laying N 1 nothing owns legs nodes sources
laying_none {N} s owns legs nodes sources e t = record {
  room = room_first N 1 s;
  laid = record { long = e; tables = t; ours = λ b l h. absurd (omega arith); apart = λ b c l h k. absurd (omega arith) };
  unprepared = record { until = λ b l h. absurd (omega arith) };
  before = λ b l h. absurd (omega arith);
}

-- one area more
module _ {N : Net} {a : ℕ} {at o : Own} {owns : List Own} {legs legs' : List Wire} {nodes nodes' : List ℕ} {sources sources' : List Source}
    (g : Laying N a at owns legs nodes sources) (h : a < 33) (w : Ours N a o legs' nodes' sources') (k : Behind at o legs nodes sources legs' nodes' sources') where
  -- by area: the new one, or one before
  module _ (P : ℕ → Own → Type 0) (new : P a o) (old : (b : ℕ) → 1 ≤ b → b < a → P b (own_in owns b)) where
    by_area : (b : ℕ) → 1 ≤ b → b < a + 1 → P b (own_in (set owns a o) b)
    by_area b l m = elim (ℕ_discrete b a) [
      | yes q ↦ rw (q, get_or-set_same owns a o nothing (omega (arith, g.laid.long))) new
      | no q ↦ rw (get_or-set_other owns a b o nothing q) (old b l (omega arith))
    ]

  before_it : (b : ℕ) → b < a → (P : Own → Type 0) → P (own_in owns b) → P (own_in (set owns a o) b)
  before_it b l P p = rw (get_or-set_other owns a b o nothing (λ q. omega arith)) p

  apart_new : (b : ℕ) → 1 ≤ b → b < a → Apart (own_in owns b) o
  apart_new b l m = let e = g.before b l m in record { legs = omega (arith, e.legs, k.legs_at); nodes = omega (arith, e.nodes, k.nodes_at); sources = omega (arith, e.sources, k.sources_at) }

  pub laying_more : Laying N (a + 1) o (set owns a o) legs' nodes' sources'
  laying_more = record {
    room = room_next N a g.room w k;
    laid = record {
      long = length-set owns a o ∙ g.laid.long;
      tables = k.tables;
      ours = by_area (λ b u. Ours N b u legs' nodes' sources') w (λ b l m. ours_kept g.laid.tables g.room (g.before b l m) k b (g.laid.ours b l m));
      apart = λ b c l m n. by_area (λ c u. (b : ℕ) → 1 ≤ b → b < c → Apart (own_in (set owns a o) b) u) (λ b l m. before_it b m (λ u. Apart u o) (apart_new b l m))
          (λ c j m b l n. before_it b (omega arith) (λ u. Apart u (own_in owns c)) (g.laid.apart b c l n m)) c (omega arith) n b l m;
    };
    unprepared = record { until = by_area (λ b u. u.until ≡ 0) k.until g.unprepared.until };
    before = by_area (λ b u. Before u o) (record { legs = omega arith; nodes = omega arith; sources = omega arith })
        (λ b l m. let e = g.before b l m in record { legs = omega (arith, e.legs, k.legs_at, w.legs_in); nodes = omega (arith, e.nodes, k.nodes_at, w.nodes_in); sources = omega (arith, e.sources, k.sources_at, w.sources_in) });
  }
