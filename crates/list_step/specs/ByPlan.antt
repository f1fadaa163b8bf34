-- A row's line by the plan, and the paper's lines of every network that the plan is of. Assumes nothing.
use Rattle.std.specs.Prelude.{◌≤◌, ◌<◌, ◌≡◌, ◌∷◌, ◌++◌}
use Rattle.whole.specs.Plain.{ℕ, suc, sym, ap, true, false, cond, List, [], eqb, pos, length}
use Rattle.whole.specs.Plain.{ne_eqb, arith, Words, word, numbers}
use Rattle.paper.specs.Rows.{bytes}
use Rattle.paper.specs.Areas.{Net}
use Rattle.paper.specs.Records.{current_at, to_current_at}
use Rattle.paper.specs.Listing.{line_of, current_line, step_lines}
use Rattle.laws_facts.specs.Nets.{branch_number_most}
use Rattle.list_digits.specs.Puts.{Parts}
use Rattle.plan_rows.specs.declared.Row.{Row}
use Rattle.plan_rows.specs.declared.Totals.{Totals}
use Rattle.paper.specs.Rows.{branch_kind}
use Rattle.plan_rows.specs.Planned.{Plan, row_in, row_of}
use Rattle.plan_net.specs.Of.{Of}
use Rattle.list_step.specs.Joined.{joined, joined_same, volts_text, volts_joined, currents_joined}

-- from side; for a line the to end too
abbrev pub plain_line : ℕ → Words → ℕ → ℕ → List ℕ
plain_line b recs k i = line_of (bytes "i") (pos k ∷ pos b ∷ word recs (current_at i) ∷ [])

abbrev pub two_ended : ℕ → Words → ℕ → ℕ → List ℕ
two_ended b recs k i = line_of (bytes "i") (pos k ∷ pos b ∷ word recs (current_at i) ∷ word recs (to_current_at i) ∷ [])

unfoldable pub current_line_by : Plan → Words → ℕ → ℕ → List ℕ
current_line_by plan recs k i =
    let r = row_in plan i in
    cond (eqb r.kind 4) (two_ended r.number recs k i) (cond (branch_kind r.kind) (plain_line r.number recs k i) [])

abbrev pub currents_text : Plan → Words → ℕ → ℕ → List ℕ
currents_text plan recs k rows = joined (current_line_by plan recs k) (numbers 0 rows)

module _ (plan : Plan) (recs : Words) (k i : ℕ) where
  pub line_of_line : (row_in plan i).kind ≡ 4 → current_line_by plan recs k i ≡ two_ended (row_in plan i).number recs k i
  unfolding current_line_by
  line_of_line e = rw e

  pub line_of_branch : ((row_in plan i).kind ≡ 4 → ⊥) → branch_kind (row_in plan i).kind ≡ true → current_line_by plan recs k i ≡ plain_line (row_in plan i).number recs k i
  unfolding current_line_by
  line_of_branch n b = rw (ne_eqb (row_in plan i).kind 4 n, b)

  pub line_of_source : ((row_in plan i).kind ≡ 4 → ⊥) → branch_kind (row_in plan i).kind ≡ false → current_line_by plan recs k i ≡ []
  unfolding current_line_by
  line_of_source n b = rw (ne_eqb (row_in plan i).kind 4 n, b)

-- a row's number is one of two digits
pub record Numbered (plan : Plan) (rows : ℕ) : Type 0 where
  pub few : rows ≤ 80
  pub small : (i : ℕ) → i < rows → (row_in plan i).number < 100

-- ---- of a network that the plan is of
module _ {N : Net} {plan : Plan} {totals : Totals} (o : Of N plan totals) where
  pub rows_are : totals.rows ≡ length N.rows
  rows_are = ap (λ (t : Totals). t.rows) o.counts

  pub nodes_are : totals.nodes ≡ N.nodes
  nodes_are = ap (λ (t : Totals). t.nodes) o.counts

  pub numbered : Numbered plan totals.rows
  unfolding row_of
  numbered =
      record {
        few = omega (arith, rows_are, o.sound.row_most);
        small = λ i h. omega (arith, ap (λ (r : Row). r.number) (o.planned.row i (rw (← rows_are) h)), branch_number_most N o.sound (suc i));
      }

  pub line_by : (recs : Words) (k i : ℕ) → i < length N.rows → current_line_by plan recs k i ≡ current_line N recs k i
  unfolding current_line_by current_line row_of
  line_by recs k i h =
      let r = o.planned.row i h in
      rw (ap (λ (r : Row). r.kind) r, ap (λ (r : Row). r.number) r)

  pub step_parts : (recs : Words) (k : ℕ) → Parts (step_lines N recs k) (volts_text recs k totals.nodes) (currents_text plan recs k totals.rows)
  unfolding step_lines
  step_parts recs k =
      record {
        is =
            rw (nodes_are, rows_are, volts_joined N recs k (numbers 1 N.nodes), currents_joined N recs k (numbers 0 (length N.rows)))
            (ap (λ (l : List ℕ). volts_text recs k N.nodes ++ l) (sym (joined_same (length N.rows) (line_by recs k))));
      }
