-- One area's turn within a step, and the areas that have passed: the tables and the state that they leave. Assumes nothing.
use Rattle.whole.specs.Plain.{ℕ, suc, refl, sym, ◌∙◌, ap, true, false≢true, List}
use Rattle.whole.specs.Plain.{length, arith, Words}
use Rattle.std.proofs.Common.{add-one}
use Rattle.std.specs.Prelude.{Float, Ok, Err, ◌+◌, ◌≤◌, ◌-◌, ◌<◌, ◌≡◌, ◌++◌}
use Rattle.paper.specs.Replies.{Advance}
use Rattle.paper.specs.declared.Refusal.{Refusal}
use Rattle.paper.specs.declared.Pause.TheVariants.{Stopped}
use Rattle.whole.specs.Turns.{turns_end, turns, turns_more, turns_next}
use Rattle.paper.specs.Answers.{accepted}
use Rattle.paper.specs.Areas.{area_count}
use Rattle.paper.specs.Advance.{Memory, Advanced, advanced, ready, advance_of}
use Rattle.paper.specs.Advance as Paper
use Rattle.paper.specs.Pieces.{area_piece, Piece, writing, ended, listed, went_on}
use Rattle.paper.specs.Rows.{steps}
use Rattle.paper.specs.Network.{is_network}
use Rattle.paper.specs.Listing.{stop_line}
use Rattle.laws_facts.specs.Nets.{net_in, area_count_most}
use Rattle.step_take.specs.declared.Turn.{Turn}
use Rattle.step_keep.specs.Tabled.{Tables}
use Rattle.step_take.specs.Stepping.{Stepping, Moved}
use Rattle.step_area.specs.Going.{Steps}
use Rattle.call_state.specs.Kept.{kept}
use Rattle.list_round.specs.declared.Step.{Step}
use Rattle.list_round.specs.Round.{AllTables, turn_of, Starts, Ran, InStep}
use Rattle.laws_pieces.specs.Level.{Partway, level_start, level_end, is_ready, leads_on}
use Rattle.laws_pieces.specs.Steps.{run_ended}
use Rattle.plan_rows.specs.declared.Row.{Row}
use Rattle.plan_own.specs.declared.Own.{Own}
use Rattle.step_legs.specs.declared.Wire.{Wire}
use Rattle.step_legs.specs.declared.Source.{Source}

-- the areas before a have taken step k + 1
pub record InPart (net : Words) (k a : ℕ) (m : Memory) : Type 0 where
  pub network : is_network net ≡ true
  pub part : Partway net network k a m

pub part_start : {net : Words} {k : ℕ} {m : Memory} → InStep net k m → InPart net k 1 m
part_start {net} s = record { network = s.network; part = level_start net s.network s.level }

pub part_end : {net : Words} {k a : ℕ} {m : Memory} → a ≡ suc (area_count (net_in net)) → InPart net k a m → InStep net (suc k) m
part_end {net} e p = record { network = p.network; level = level_end net p.network (rw e at p.part) }

-- the turns from area a on
abbrev pub turns_from : Words → ℕ → ℕ → Memory → List ℕ → Piece
turns_from net k a m out = turns a (suc (area_count (net_in net))) (area_piece net (suc k)) (writing m out)

module _ {net : Words} {k a : ℕ} {m m' : Memory} {r : Advance} (p : InPart net k a m) (one : 1 ≤ a) (most : a ≤ area_count (net_in net)) (left : k < steps (net_in net).head)
    (e : advanced r m' ≡ ready (net_in net) a (suc k) m) where
  call : advance_of net a m ≡ advanced r m'
  call = is_ready net p.network k a m p.part one most left ∙ sym e

  turn : (out : List ℕ) → area_piece net (suc k) a (writing m out) ≡ went_on (suc k) a out m' r
  unfolding area_piece
  turn out = rw call

  pub took_part : {c : ℕ} → r ≡ Ok c → InPart net k (suc a) m'
  took_part h =
      record {
        network = p.network;
        part = rw call at (leads_on net p.network k a m p.part one most (ap (λ (x : Advanced). accepted x.answer) call ∙ ap accepted h));
      }

  -- the turns that are left lead to the same
  pub took_turns : (z : List ℕ → Piece) {c : ℕ} → r ≡ Ok c → ((out : List ℕ) → turns_from net k a m out ≡ z out) → (out : List ℕ) → turns_from net k (a + 1) m' out ≡ z out
  took_turns z h t out =
      turns_next a (suc (area_count (net_in net))) (area_piece net (suc k)) (writing m out) (writing m' out) (z out) (omega arith) (sym (turn out ∙ ap (went_on (suc k) a out m') h)) (t out)

  pub refused_turns : (z : List ℕ → Piece) {x : Refusal} → r ≡ Err x → ((out : List ℕ) → turns_from net k a m out ≡ z out) → (out : List ℕ) → z out ≡ ended (listed (Ok (Stopped a x)) (out ++ stop_line (suc k) a x) m')
  unfolding turns area_piece
  refused_turns z {x} h t out =
      let n = suc (area_count (net_in net)) in
      let l = listed (Ok (Stopped a x)) (out ++ stop_line (suc k) a x) m' in
      sym (t out) ∙ turns_more a n (area_piece net (suc k)) (writing m out) (omega arith)
      ∙ ap (turns (a + 1) n (area_piece net (suc k))) (turn out ∙ ap (went_on (suc k) a out m') h)
      ∙ run_ended (area_piece net (suc k)) (λ b x. refl) (n - (a + 1)) (a + 1) l

-- the areas before a, from memory m
pub record Passed (net : Words) (k : ℕ) (plan : List Row) (nodes : List ℕ) (sources : List Source) (m : Memory) (a : ℕ) (owns : List Own) (legs : List Wire) (f : List (List Float)) (now : Memory) : Type 0 where
  pub tables : AllTables net (suc k) now.records plan owns legs nodes sources f
  pub part : InPart net k a now
  pub leads : (out : List ℕ) → turns_from net k a now out ≡ turns_from net k 1 m out

pub passed_none : {net : Words} {step : Step} {plan : List Row} {owns : List Own} {legs : List Wire} {nodes : List ℕ} {sources : List Source} {f : List (List Float)} {m : Memory}
    → Starts net step plan owns legs nodes sources f m → Passed net step.taken plan nodes sources m 1 owns legs f m
passed_none s = record { tables = s.tables; part = part_start s.level; leads = λ out. refl }

pub few : {net : Words} {step : Step} {plan : List Row} {owns : List Own} {legs : List Wire} {nodes : List ℕ} {sources : List Source} {f : List (List Float)} {m : Memory}
    → Starts net step plan owns legs nodes sources f m → step.areas ≤ 32
few {net} s = let n = s.tables.sound in omega (arith, s.areas, area_count_most (net_in net) n, n.node_most)

-- what is lent keeps its lengths
pub record Lent (l : List Wire) (m : Memory) (l' : List Wire) (m' : Memory) : Type 0 where
  pub legs : length l' ≡ length l
  pub records : length m'.records ≡ length m.records
  pub froms : length m'.froms ≡ length m.froms
  pub tos : length m'.tos ≡ length m.tos

module _ {net : Words} {step : Step} {plan : List Row} {owns₀ owns : List Own} {legs₀ legs : List Wire} {nodes : List ℕ} {sources : List Source} {f₀ f : List (List Float)} {m now : Memory} {a : ℕ}
    (s : Starts net step plan owns₀ legs₀ nodes sources f₀ m) (p : Passed net step.taken plan nodes sources m a owns legs f now) where
  pub lent : Lent legs₀ m legs now
  lent =
      let v = s.level.level.inv.long in
      let w = p.part.part.inv.long in
      record {
        legs = p.tables.tables.legs_long ∙ sym s.tables.tables.legs_long;
        records = w.records ∙ sym v.records;
        froms = w.froms ∙ sym v.froms;
        tos = w.tos ∙ sym v.tos;
      }

  -- all areas
  pub all_passed : a ≡ step.areas + 1 → Ran net step.taken plan nodes sources m (Ok tt) owns legs f now
  all_passed h =
      let e : a ≡ suc (area_count (net_in net)) = omega (arith, s.areas) in
      record {
        tables = p.tables;
        rounds =
            record {
              is = λ out. sym (turns_end a (suc (area_count (net_in net))) (area_piece net (suc step.taken)) _ _ (omega arith) (p.leads out));
              on = λ x. part_end e p.part;
            };
      }

  -- ---- one more
  module _ (one : 1 ≤ a) (most : a ≤ step.areas) {t : Turn} (q : t ≡ turn_of step a) where
    there : a ≤ area_count (net_in net)
    there = omega (arith, s.areas)

    pub tabled : Tables (net_in net) 1 (area_count (net_in net)) t.k now.records plan owns legs nodes sources f
    tabled = rw (q, add-one step.taken) p.tables

    pub stepping : Stepping (net_in net) 1 (area_count (net_in net)) t now
    stepping =
        let v = p.part.part.inv in
        rw q
        (record {
          least = one;
          most = there;
          step = omega (arith, s.left);
          limit = s.limit;
          kept = kept (net_in net) (record { records_long = v.long.records; froms_long = v.long.froms; tos_long = v.long.tos }) v.good;
        })

    module _ {r : Advance} {owns' : List Own} {legs' : List Wire} {f' : List (List Float)} {m' : Memory}
        (d : Steps plan nodes sources t owns legs f now r owns' legs' f' m') where
      moved : Moved (net_in net) 1 (area_count (net_in net)) plan owns' nodes sources f' t now r legs' m'
      moved = d.of (net_in net) 1 (area_count (net_in net)) tabled stepping

      done : Paper.advanced r m' ≡ Paper.ready (net_in net) a (suc step.taken) now
      done = rw (q, add-one step.taken) at moved.step

      kept_tables : AllTables net (suc step.taken) m'.records plan owns' legs' nodes sources f'
      kept_tables = rw (q, add-one step.taken) at moved.tables

      pub passed_on : {c : ℕ} → r ≡ Ok c → Passed net step.taken plan nodes sources m (a + 1) owns' legs' f' m'
      passed_on h =
          record {
            tables = kept_tables;
            part = rw (add-one a) (took_part p.part one there s.left done h);
            leads = took_turns p.part one there s.left done _ h p.leads;
          }

      pub refused : {x : Refusal} → r ≡ Err x → Ran net step.taken plan nodes sources m (Err (record { area = a; refusal = x })) owns' legs' f' m'
      refused h =
          record {
            tables = kept_tables;
            rounds = record { is = refused_turns p.part one there s.left done _ h p.leads; on = λ x. absurd (false≢true x) };
          }
