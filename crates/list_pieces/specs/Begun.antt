-- What a piece begins from: a study in step, and the tables of its areas, with nothing prepared for any; and how far it has come. Assumes nothing.
use Rattle.whole.specs.Plain.{ℕ, suc, refl, sym, ap, ◌∙◌, List, length, arith, Words}
use Rattle.std.proofs.Common.{add-one}
use Rattle.std.specs.Prelude.{Float, Ok, ◌+◌, ◌≤◌, ◌<◌, ◌≡◌}
use Rattle.paper.specs.Replies.{Listing}
use Rattle.paper.specs.Limits as Limits
use Rattle.paper.specs.Rows.{steps}
use Rattle.paper.specs.Advance.{Memory, memory}
use Rattle.paper.specs.Pieces.{steps_taken, piece_of}
use Rattle.laws_facts.specs.Nets.{net_in}
use Rattle.plan_rows.specs.declared.Totals.{Totals}
use Rattle.plan_net.specs.Of.{Of}
use Rattle.step_factors.specs.Factors.{Square}
use Rattle.step_keep.specs.Tabled.{tables_later}
use Rattle.call_counts.specs.Counts.{CountsIn}
use Rattle.call_counts.specs.Level.{taken_by, taken_is}
use Rattle.call_state.specs.Judged.{Long}
use Rattle.call_state.specs.Facts.{formed_counts, taken_end}
use Rattle.list_digits.specs.Puts.{Puts}
use Rattle.list_round.specs.declared.Step.{Step}
use Rattle.list_round.specs.Round.{Round, InStep, AllTables, Starts, Ran, Runs}
use Rattle.list_turn.specs.Turned.{round_bytes, small, Listable, Turned, turned}
use Rattle.list_pieces.specs.Sofar.{Gives, Sofar, sofar_none, sofar_step}
use Rattle.plan_rows.specs.declared.Row.{Row}
use Rattle.plan_own.specs.declared.Own.{Own}
use Rattle.step_legs.specs.declared.Wire.{Wire}
use Rattle.step_legs.specs.declared.Source.{Source}

-- the step that follows k of them
abbrev pub step_of : Totals → ℕ → Step
step_of t k = record { taken = k; areas = t.areas; limit = t.limit }

-- the tables serve whatever the factors' table holds
pub record Begins (net : Words) (plan : List Row) (totals : Totals) (owns : List Own) (legs : List Wire) (nodes : List ℕ) (sources : List Source) (m : Memory) : Type 0 where
  pub of : Of (net_in net) plan totals
  pub tables : (f : List (List Float)) → Square f → AllTables net 1 m.records plan owns legs nodes sources f
  pub level : InStep net (steps_taken (net_in net) m.records) m

-- of some network
pub record Beginning (plan : List Row) (totals : Totals) (owns : List Own) (legs : List Wire) (nodes : List ℕ) (sources : List Source) (recs froms tos : Words) : Type 0 where
  pub net : Words
  pub begins : Begins net plan totals owns legs nodes sources (memory recs froms tos)

-- of every network
pub record Pieces (plan : List Row) (totals : Totals) (owns : List Own) (legs : List Wire) (nodes : List ℕ) (sources : List Source) (m : Memory) (out : List ℕ) (x : Listing) (count : ℕ) (b : List ℕ) (after : Memory) : Type 0 where
  pub of : (net : Words) → Begins net plan totals owns legs nodes sources m → Gives (piece_of net (net_in net) m (length out)) out x count b after

-- k steps are taken, and what is listed of them stands in the buffer
pub record Along (net : Words) (plan : List Row) (nodes : List ℕ) (sources : List Source) (m : Memory) (out : List ℕ) (owns : List Own) (legs : List Wire) (f : List (List Float)) (now : Memory) (at k : ℕ) (b : List ℕ) : Type 0 where
  pub tables : AllTables net (suc k) now.records plan owns legs nodes sources f
  pub level : InStep net k now
  pub sofar : Sofar net (piece_of net (net_in net) m (length out)) out k now at b

-- ---- what is lent

pub lent_long : {net : Words} {k : ℕ} {m : Memory} → InStep net k m → Long m.records m.froms m.tos
lent_long v = let l = v.level.inv.long in record { records_long = l.records; froms_long = l.froms; tos_long = l.tos }

module _ {net : Words} {plan : List Row} {owns : List Own} {totals : Totals} {legs : List Wire} {nodes : List ℕ} {sources : List Source} {m : Memory} (b : Begins net plan totals owns legs nodes sources m) where
  pub all_steps : totals.steps ≡ steps (net_in net).head
  all_steps = ap (λ (t : Totals). t.steps) b.of.counts

  pub counts_in : CountsIn m.records totals.areas
  counts_in = formed_counts b.of (lent_long b.level) b.level.level.inv.good

  pub taken_few : taken_by m.records totals.areas totals.steps ≤ totals.steps
  taken_few = taken_end b.of (lent_long b.level) b.level.level.inv.good

  -- nothing yet
  pub along_none : {f : List (List Float)} (out : List ℕ) (k : ℕ) → Square f → k ≡ taken_by m.records totals.areas totals.steps → Limits.step_bytes ≤ length out
      → Along net plan nodes sources m out owns legs f m 0 k out
  along_none {f} out k q e h =
      let t = taken_is b.of m.records ∙ sym e in
      record { tables = tables_later (suc k) (omega arith) (b.tables f q); level = rw t at b.level; sofar = sofar_none net m out k t h }

  module _ {out c : List ℕ} {owns' : List Own} {legs' : List Wire} {f : List (List Float)} {now : Memory} {at k : ℕ} (a : Along net plan nodes sources m out owns' legs' f now at k c) (h : k < totals.steps) where
    pub left : k < steps (net_in net).head
    left = omega (arith, all_steps)

    pub starts : {t : Step} → t ≡ step_of totals k → Starts net t plan owns' legs' nodes sources f now
    starts q =
        rw q
        (record {
          tables = a.tables;
          level = a.level;
          left = left;
          areas = ap (λ (t : Totals). t.areas) b.of.counts;
          limit = ap (λ (t : Totals). t.limit) b.of.counts;
        })

    pub ran : {t : Step} {q : Round} {owns'' : List Own} {legs'' : List Wire} {f' : List (List Float)} {m' : Memory} → t ≡ step_of totals k
        → Runs t plan nodes sources owns' legs' f now q owns'' legs'' f' m' → Ran net k plan nodes sources now q owns'' legs'' f' m'
    ran e d = rw e at (d.of net (starts e))

    module _ {q : Round} {owns'' : List Own} {legs'' : List Wire} {f' : List (List Float)} {m' : Memory} (r : Ran net k plan nodes sources now q owns'' legs'' f' m') where
      pub listable : length m'.records ≡ Limits.record_words → Listable plan totals m'.records k q
      listable l = record { net = net_in net; of = b.of; long = l; left = left; small = λ e. rw b.of.counts (small (r.rounds.on e)) }

      module _ {n : ℕ} {c' : List ℕ} (p : Puts c at (round_bytes (net_in net) (suc k) m'.records q) n c') where
        pub turned_so : Turned net k now q m' c at n c'
        turned_so = turned b.of.sound left r.rounds p

        pub along_next : at + Limits.step_bytes ≤ length out → q ≡ Ok tt → Along net plan nodes sources m out owns'' legs'' f' m' n (k + 1) c'
        along_next i e =
            rw (add-one k)
            (record {
              tables = tables_later (suc (suc k)) (omega arith) r.tables;
              level = turned_so.on (rw e refl);
              sofar = sofar_step net _ out a.sofar left i e turned_so;
            })
