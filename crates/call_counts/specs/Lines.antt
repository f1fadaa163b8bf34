-- The plan's lines are the network's: whose counts are compared, and for which row an area waits. Assumes nothing.
use Rattle.std.specs.Prelude.{◌+◌, ◌≤◌, ◌<◌, ◌≡◌}
use Rattle.whole.specs.Plain.{ℕ, suc, max, refl, sym, ap, subst, ◌∙◌, true, false, [], length, drop}
use Rattle.whole.specs.Plain.{drop_of_length-le, drop-cons, le_trans, div-le_self, eq-eqb, arith, Words, word, nat}
use Rattle.std.proofs.Common.{add-one}
use Rattle.paper.specs.Rows as Rows
use Rattle.paper.specs.Classes.{line_branch, breaker_branch, breaker_line}
use Rattle.paper.specs.Rows.{is_line, is_breaker, travel}
use Rattle.paper.specs.Areas.{Net, area_of, area_count, step}
use Rattle.paper.specs.Records.{latch_at, near, latched}
use Rattle.paper.specs.Latch.{latch_formed}
use Rattle.paper.specs.Advance.{waits_for, first_late}
use Rattle.laws_facts.specs.Sound.{BranchSound, LineSound}
use Rattle.laws_facts.specs.Nets.{NetSound, row_at, area_of_lem}
use Rattle.plan_ends.specs.Own.{owner_of}
use Rattle.plan_rows.specs.declared.Row.{Row}
use Rattle.plan_rows.specs.declared.Totals.{Totals}
use Rattle.plan_rows.specs.Planned.{Plan, row_in, row_of, Planned}
use Rattle.plan_rows.specs.Switching.{may_paper}
use Rattle.plan_net.specs.Of.{Of}
use Rattle.call_counts.specs.Counts.{CountIn, CountsIn, EndsIn, Counted, near_by, latch_formed_by, latched_by, waits_by}

-- a plan of the network's rows
pub record RowsOf (N : Net) (plan : Plan) (rows : ℕ) : Type 0 where
  pub planned : Planned N plan
  pub count : rows ≡ length N.rows

pub rows_of : {N : Net} {plan : Plan} {t : Totals} → Of N plan t → RowsOf N plan t.rows
rows_of o = record { planned = o.planned; count = ap (λ (t : Totals). t.rows) o.counts }

-- ---- by one row
module _ (N : Net) (recs : Words) (i : ℕ) where
  near_row : near_by recs (row_of N i) ≡ near N recs (row_at N i)
  unfolding near_by near row_of owner_of
  near_row = elim (is_line (row_at N i)) as (λ l. is_line (row_at N i) ≡ l → near_by recs (row_of N i) ≡ near N recs (row_at N i)) [ true ↦ λ e. rw e | false ↦ λ e. rw e ] refl

  latched_row : latched_by recs (row_of N i) i ≡ latched N recs i
  unfolding latched_by latch_formed_by latched latch_formed row_of owner_of
  latched_row = elim (is_breaker (row_at N i)) as (λ b. is_breaker (row_at N i) ≡ b → latched_by recs (row_of N i) i ≡ latched N recs i) [
    | true ↦ λ e. rw (may_paper N i (nat (word recs (latch_at i))), e, breaker_line (row_at N i) e, breaker_branch (row_at N i) e)
    | false ↦ λ e. rw e
  ] refl

  waits_row : (a k : ℕ) → waits_by a k recs (row_of N i) ≡ waits_for N a k recs (row_at N i)
  unfolding waits_by waits_for row_of owner_of
  waits_row a k = elim (is_line (row_at N i)) as (λ l. is_line (row_at N i) ≡ l → waits_by a k recs (row_of N i) ≡ waits_for N a k recs (row_at N i)) [ true ↦ λ e. rw e | false ↦ λ e. rw e ] refl

module _ {N : Net} {plan : Plan} (p : Planned N plan) (i : ℕ) (h : i < length N.rows) where
  pub kind_is_lem : (row_in plan i).kind ≡ Rows.kind (row_at N i)
  unfolding row_of
  kind_is_lem = ap (λ (r : Row). r.kind) (p.row i h)

  pub near_is : (recs : Words) → near_by recs (row_in plan i) ≡ near N recs (row_at N i)
  near_is recs = ap (near_by recs) (p.row i h) ∙ near_row N recs i

  pub latched_is : (recs : Words) → latched_by recs (row_in plan i) i ≡ latched N recs i
  latched_is recs = ap (λ (r : Row). latched_by recs r i) (p.row i h) ∙ latched_row N recs i

  pub waits_is : (a k : ℕ) (recs : Words) → waits_by a k recs (row_in plan i) ≡ waits_for N a k recs (row_at N i)
  waits_is a k recs = ap (waits_by a k recs) (p.row i h) ∙ waits_row N recs i a k

-- ---- the counts at a line's two ends

module _ {N : Net} (s : NetSound N) {recs : Words} (c : CountsIn recs (area_count N)) (i : ℕ) (h : i < length N.rows) (l : is_line (row_at N i) ≡ true) where
  ends_in : EndsIn recs (row_of N i)
  unfolding row_of owner_of
  ends_in =
      let r = row_at N i in
      let line : LineSound N.head r = (s.row i h).line l in
      let branch : BranchSound (step N) N.nodes r = (s.row i h).branch (line_branch r l) in
      rw l
      (record {
        from = c.at (area_of N (Rows.from r)) (s.area_least _ line.from_off branch.from_in.most) (area_of_lem N (Rows.from r));
        to = c.at (area_of N (Rows.to r)) (s.area_least _ line.to_off branch.to_in.most) (area_of_lem N (Rows.to r));
        delay = le_trans (div-le_self (travel r) (step N)) line.travel_in.most;
      })

-- an SW's area
breaker_in : {N : Net} → NetSound N → {recs : Words} → CountsIn recs (area_count N) → (i : ℕ) → i < length N.rows → is_breaker (row_at N i) ≡ true → CountIn recs (row_of N i).from_area
unfolding row_of owner_of
breaker_in {N} s c i h b =
    let r = row_at N i in
    let e : BranchSound (step N) N.nodes r = (s.row i h).branch (breaker_branch r b) in
    let n = max (Rows.from r) (Rows.to r) in
    rw (breaker_line r b, breaker_branch r b) (c.at (area_of N n) (s.area_least n (omega (arith, e.apart)) (omega (arith, e.from_in.most, e.to_in.most))) (area_of_lem N n))

pub counted : {N : Net} {plan : Plan} {t : Totals} {recs : Words} → Of N plan t → CountsIn recs t.areas → Counted plan t.rows recs
counted {N} {plan} {t} {recs} o c =
    let n : t.rows ≡ length N.rows = ap (λ (u : Totals). u.rows) o.counts in
    let a : CountsIn recs (area_count N) = rw (ap (λ (u : Totals). u.areas) o.counts) at c in
    record {
      few = omega (arith, n, o.sound.row_most);
      line = λ i h l.
          let k : i < length N.rows = omega arith in
          rw (o.planned.row i k) (ends_in o.sound a i k (rw (kind_is_lem o.planned i k) at l));
      breaker = λ i h b.
          let k : i < length N.rows = omega arith in
          subst (λ (r : Row). CountIn recs r.from_area) (sym (o.planned.row i k)) (breaker_in o.sound a i k (eq-eqb _ 5 (sym (kind_is_lem o.planned i k) ∙ b)));
    }

-- ---- 13 WAIT, row by row
module _ (N : Net) (a k : ℕ) (recs : Words) (i : ℕ) where
  pub late_hit : i < length N.rows → waits_for N a k recs (row_at N i) ≡ true → first_late N a k recs i (drop i N.rows) ≡ suc i
  unfolding first_late
  late_hit h e = rw (drop-cons N.rows i [] h, e)

  pub late_pass : i < length N.rows → waits_for N a k recs (row_at N i) ≡ false
      → first_late N a k recs (i + 1) (drop (i + 1) N.rows) ≡ first_late N a k recs i (drop i N.rows)
  unfolding first_late
  late_pass h e = rw (drop-cons N.rows i [] h, e, add-one)

  pub late_none : length N.rows ≤ i → first_late N a k recs i (drop i N.rows) ≡ 0
  unfolding first_late
  late_none h = rw (drop_of_length-le N.rows h)
