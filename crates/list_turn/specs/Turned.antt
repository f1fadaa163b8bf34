-- A step of all areas and what it lists: its lines, or the stop line. Assumes nothing.
use Rattle.std.specs.Prelude.{Ok, Err, IsOk, ◌+◌, ◌-◌, ◌≤◌, ◌<◌, ◌≡◌, ◌++◌}
use Rattle.whole.specs.Plain.{ℕ, suc, refl, ap, ◌∙◌, List, lit≤, length, le_trans}
use Rattle.whole.specs.Plain.{arith, Words}
use Rattle.paper.specs.declared.Pause.TheVariants.{Stopped}
use Rattle.paper.specs.Limits as Limits
use Rattle.paper.specs.Rows.{steps}
use Rattle.paper.specs.Areas.{Net}
use Rattle.paper.specs.Records.{current_at, to_current_at}
use Rattle.paper.proofs.Apart.{voltages_in, currents_in, to_currents_in, end_most, record_end}
use Rattle.paper.specs.Advance.{Memory}
use Rattle.paper.specs.Listing.{step_lines, stop_line}
use Rattle.paper.specs.Pieces.{Piece, writing, ended, listed, full_step, step_piece}
use Rattle.laws_facts.specs.Nets.{NetSound, net_in}
use Rattle.laws_facts.proofs.Nets.{net_sound}
use Rattle.list_digits.specs.Puts.{Puts}
use Rattle.plan_rows.specs.declared.Totals.{Totals}
use Rattle.plan_net.specs.Of.{Of}
use Rattle.list_step.specs.Bounds.{Small, stop_short, lines_short}
use Rattle.list_round.specs.Round.{InStep, Round, round_piece, Rounds}
use Rattle.plan_rows.specs.declared.Row.{Row}

-- ---- a state in step has its words in range

pub small : {net : Words} {k : ℕ} {m : Memory} → InStep net k m → Small (net_in net).nodes (length (net_in net).rows) m.records
small {net} {k} {m} v =
    let N = net_in net in
    let s = net_sound net v.network in
    let f = record_end N m.records m.froms m.tos v.level.inv.good in
    record {
      volts = λ n l h.
          let e : 32 + n - 1 ≡ 32 + (n - 1) = omega arith in
          rw e (le_trans (f (32 + (n - 1))) (end_most N voltages_in (n - 1) (omega (arith, s.node_most))));
      froms = λ i h. le_trans (f (current_at i)) (end_most N currents_in i (omega (arith, s.row_most)));
      tos = λ i h. le_trans (f (to_current_at i)) (end_most N to_currents_in i (omega (arith, s.row_most)));
    }

-- ---- what is listed

-- at step k
abbrev pub round_bytes : Net → ℕ → Words → Round → List ℕ
round_bytes N k recs (Ok u) = step_lines N recs k
round_bytes N k recs (Err s) = stop_line k s.area s.refusal

-- where all areas took the step, the words that are listed are in range
pub record Listable (plan : List Row) (totals : Totals) (recs : Words) (k : ℕ) (r : Round) : Type 0 where
  pub net : Net
  pub of : Of net plan totals
  pub long : length recs ≡ Limits.record_words
  pub left : k < steps net.head
  pub small : IsOk r → Small totals.nodes totals.rows recs

-- ---- the step's outcome

abbrev pub turn_piece : Round → Memory → List ℕ → Piece
turn_piece (Ok u) m out = writing m out
turn_piece (Err s) m out = ended (listed (Ok (Stopped s.area s.refusal)) out m)

pub record Turned (net : Words) (k : ℕ) (m : Memory) (r : Round) (after : Memory) (l : List ℕ) (at n : ℕ) (l' : List ℕ) : Type 0 where
  pub bytes : List ℕ
  pub puts : Puts l at bytes n l'
  pub short : length bytes ≤ 4128
  pub is : (out : List ℕ) → step_piece net (net_in net) (suc k) (writing m out) ≡ turn_piece r after (out ++ bytes)
  pub on : IsOk r → InStep net (suc k) after

-- in either case it is short
bytes_short : {N : Net} → NetSound N → {recs : Words} {k : ℕ} → k < steps N.head → (r : Round) → (IsOk r → Small N.nodes (length N.rows) recs) → length (round_bytes N (suc k) recs r) ≤ 4128
bytes_short s {recs} {k} h (Ok u) f = lines_short s (f refl) (suc k) (le_trans h s.study.steps_in.most)
bytes_short s {recs} {k} h (Err x) f = le_trans (stop_short (suc k) x.area x.refusal) (lit≤ tt)

-- ---- from the areas' turns and what was put

lists : (N : Net) (k : ℕ) (out : List ℕ) (m : Memory) (r : Round) → full_step N k (round_piece k out m r) ≡ turn_piece r m (out ++ round_bytes N k m.records r)
unfolding full_step
lists N k out m (Ok u) = refl
lists N k out m (Err x) = refl

pub turned : {net : Words} {k : ℕ} {m m' : Memory} {r : Round} {l l' : List ℕ} {at n : ℕ} → NetSound (net_in net) → k < steps (net_in net).head → Rounds net k m r m'
    → Puts l at (round_bytes (net_in net) (suc k) m'.records r) n l' → Turned net k m r m' l at n l'
unfolding step_piece
turned {net} {k} {m} {m'} {r} s left d p =
    record {
      bytes = round_bytes (net_in net) (suc k) m'.records r;
      puts = p;
      short = bytes_short s left r (λ e. small (d.on e));
      is = λ out. ap (full_step (net_in net) (suc k)) (d.is out) ∙ lists (net_in net) (suc k) out m' r;
      on = d.on;
    }
