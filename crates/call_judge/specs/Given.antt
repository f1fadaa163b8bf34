-- A network's plan, the step that comes next, and the tables of one area alone. Assumes nothing.
use Rattle.whole.specs.Plain.{ℕ, suc, sym, ap, subst, ◌∙◌, Bool, true, List, length, set}
use Rattle.whole.specs.Plain.{length-set, arith, Words}
use Rattle.std.specs.Prelude.{Float, ◌≤◌, ◌<◌, ◌≡◌}
use Rattle.paper.specs.Rows as Rows
use Rattle.paper.specs.Network.{is_network}
use Rattle.paper.specs.Areas.{Net, area_count, branch_number}
use Rattle.paper.specs.Records.{well_formed}
use Rattle.paper.specs.Advance.{Memory, memory}
use Rattle.laws_facts.specs.Nets.{net_in, area_count_most}
use Rattle.plan_record.specs.Mapped.{Mapped}
use Rattle.plan_rows.specs.declared.Row.{Row}
use Rattle.plan_rows.specs.declared.Totals.{Totals}
use Rattle.plan_rows.specs.Planned.{Plan, row_in, row_of, Planned, totals_of}
use Rattle.plan_net.specs.Of.{Of, of_record}
use Rattle.step_legs.specs.declared.Wire.{Wire}
use Rattle.step_legs.specs.declared.Source.{Source}
use Rattle.plan_own.specs.declared.Own.{Own}
use Rattle.plan_lay.specs.Flags.{Flagged}
use Rattle.plan_own.specs.Owns.{Given, Ours, Behind, own_in}
use Rattle.plan_own.specs.Kept.{own_put}
use Rattle.step_factors.specs.Factors.{Square}
use Rattle.step_take.specs.declared.Turn.{Turn}
use Rattle.step_keep.specs.Tabled.{Tables}
use Rattle.step_take.specs.Stepping.{Stepping}
use Rattle.call_state.specs.Judged.{Long, MappedOf}
use Rattle.call_state.specs.Kept.{kept}

-- a network that passes, its plan and its areas by node
pub record Seen (net : Words) (plan : Plan) (areas : List ℕ) (totals : Totals) : Type 0 where
  pub network : is_network net ≡ true
  pub planned : Planned (net_in net) plan
  pub mapped : Mapped (net_in net) areas
  pub counts : totals ≡ totals_of (net_in net)

-- step k of an area, within the network's limit
abbrev pub turn_at : Totals → ℕ → ℕ → Turn
turn_at t a k = record { area = a; k = k; limit = t.limit }

module _ {net : Words} {plan : Plan} {areas : List ℕ} {totals : Totals} (s : Seen net plan areas totals) where
  pub of : Of (net_in net) plan totals
  of = of_record net s.network s.planned s.counts

  pub mapped_of : MappedOf (net_in net) plan areas totals
  mapped_of = record { of = of; mapped = s.mapped }

  pub given : {fixed : List Bool} → Flagged (net_in net) fixed → Given net plan areas fixed totals
  given f = record { network = s.network; planned = s.planned; mapped = s.mapped; flagged = f; counted = s.counts }

  pub row_count : totals.rows ≡ length (net_in net).rows
  row_count = ap (λ (t : Totals). t.rows) s.counts

  pub area_count_lem : totals.areas ≡ area_count (net_in net)
  area_count_lem = ap (λ (t : Totals). t.areas) s.counts

  pub step_count : totals.steps ≡ Rows.steps (net_in net).head
  step_count = ap (λ (t : Totals). t.steps) s.counts

  pub area_few : (a : ℕ) → a ≤ totals.areas → a < 33
  area_few a h = omega (arith, area_count_lem, area_count_most (net_in net) of.sound, of.sound.node_most)

  pub stepping : {recs froms tos : Words} {turn : Turn} (a k : ℕ) → Long recs froms tos → well_formed (net_in net) recs froms tos ≡ true
      → 1 ≤ a → a ≤ totals.areas → k ≤ totals.steps → turn ≡ turn_at totals a k → Stepping (net_in net) 1 totals.areas turn (memory recs froms tos)
  stepping a k l e one h d q =
      rw q (record { least = one; most = h; step = omega (arith, step_count); limit = ap (λ (t : Totals). t.limit) s.counts; kept = kept (net_in net) l e })

-- the number of the branch in the place that is waited for
pub number_is : {N : Net} {plan : Plan} → Planned N plan → (i : ℕ) → i < length N.rows → (row_in plan i).number ≡ branch_number N (suc i)
unfolding row_of
number_is q i h = ap (λ (r : Row). r.number) (q.row i h)

-- ---- one area alone

pub stepping_alone : {N : Net} {low high : ℕ} {turn : Turn} {m : Memory} → Stepping N low high turn m → Stepping N turn.area turn.area turn m
stepping_alone g = record { least = omega arith; most = omega arith; step = g.step; limit = g.limit; kept = g.kept }

-- its own is put into the table of areas, laid as the first; nothing is prepared for it
module _ {net : Words} {plan : Plan} {areas : List ℕ} {totals : Totals} {turn : Turn} {m : Memory} (s : Seen net plan areas totals) (g : Stepping (net_in net) 1 totals.areas turn m)
    (owns : List Own) (at o : Own) {owns' : List Own} {legs legs' : List Wire} {nodes nodes' : List ℕ} {sources sources' : List Source} {f : List (List Float)} (long : length owns ≡ 33)
    (e : owns' ≡ set owns turn.area o) (w : Ours (net_in net) turn.area o legs' nodes' sources') (b : Behind at o legs nodes sources legs' nodes' sources') (q : Square f) where
  own : (a : ℕ) → turn.area ≤ a → a ≤ turn.area → own_in owns' a ≡ o
  own a l h =
      let p : a ≡ turn.area = omega arith in
      ap (own_in owns') p ∙ ap (λ (x : List Own). own_in x turn.area) e ∙ own_put owns turn.area o (omega (arith, area_few s turn.area g.most))

  pub tables_alone : Tables (net_in net) turn.area turn.area turn.k m.records plan owns' legs' nodes' sources' f
  tables_alone = record {
    sound = (of s).sound;
    planned = s.planned;
    least = g.least;
    most = omega (arith, g.most, area_count_lem s);
    long = ap length e ∙ length-set owns turn.area o ∙ long;
    tables = b.tables;
    square = q;
    ours = λ a l h. let p : turn.area ≡ a = omega arith in
        subst (λ (x : ℕ). Ours (net_in net) x (own_in owns' a) legs' nodes' sources') p (subst (λ (x : Own). Ours (net_in net) turn.area x legs' nodes' sources') (sym (own a l h)) w);
    apart = λ a c l h k. absurd (omega arith);
    kept = λ a j l h k u. absurd (omega (arith, ap (λ (x : Own). x.until) (own a l h), b.until));
  }
