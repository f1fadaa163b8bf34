-- What follows from a network record alone and a step goes by: each row decoded, and the counts. Assumes nothing.
use Rattle.std.specs.Prelude.{◌≤◌, ◌<◌, ◌≡◌}
use Rattle.whole.specs.Plain.{ℕ, suc, cond, List, eqb, pos, length, get_or, word, nat}
use Rattle.paper.specs.Limits as Limits
use Rattle.paper.specs.Rows as Rows
use Rattle.paper.specs.Rows.{is_branch}
use Rattle.paper.specs.Conductance.{conductance}
use Rattle.paper.specs.Faults as Faults
use Rattle.paper.specs.Areas.{Net, step, area_count, branch_number}
use Rattle.paper.specs.Records as Records
use Rattle.laws_facts.specs.Nets.{row_at}
use Rattle.plan_ends.specs.Own.{owner_of}
use Rattle.plan_rows.specs.declared.Row.{Row}
use Rattle.plan_rows.specs.declared.Totals.{Totals}

-- what stands where no row was put
abbrev pub no_row : Row
no_row =
    record {
      kind = 0;
      from = 0;
      to = 0;
      g = 0;
      delay = 0;
      rest = 0;
      step = 0;
      slots = 0;
      place = 0;
      closes = 0;
      opens = 0;
      from_area = 0;
      to_area = 0;
      number = 0;
    }

-- the rows of a plan
abbrev pub Plan : Type 0
Plan = List Row

abbrev pub row_in : Plan → ℕ → Row
row_in plan i = get_or plan i no_row

-- a source has none of either
unfoldable pub conductance_at : Net → ℕ → ℕ
conductance_at N i = cond (is_branch (row_at N i)) (conductance (step N) (row_at N i)) 0

unfoldable pub to_at : Net → ℕ → ℕ
to_at N i = cond (is_branch (row_at N i)) (nat (word (row_at N i) 2)) 0

-- row i, as the paper has it
unfoldable pub row_of : Net → ℕ → Row
row_of N i =
    let r = row_at N i in
    record {
      kind = Rows.kind r;
      from = nat (word r 1);
      to = to_at N i;
      g = conductance_at N i;
      delay = Faults.delay (step N) r;
      rest = Faults.rest (step N) r;
      step = step N;
      slots = Faults.slots N.head r;
      place = Records.offset N i;
      closes = Rows.closes r;
      opens = Rows.opens r;
      from_area = owner_of N r 1;
      to_area = owner_of N r 2;
      number = branch_number N (suc i);
    }

-- an end's area and node
unfoldable pub owner_in : Row → ℕ → ℕ
owner_in r e = cond (eqb e 1) r.from_area r.to_area

unfoldable pub node_in : Row → ℕ → ℕ
node_in r e = cond (eqb e 1) r.from r.to

-- the first n rows
pub record PlannedTo (N : Net) (n : ℕ) (plan : Plan) : Type 0 where
  pub long : length plan ≡ 80
  pub row : (i : ℕ) → i < n → row_in plan i ≡ row_of N i

abbrev pub Planned : Net → Plan → Type 0
Planned N plan = PlannedTo N (length N.rows) plan

-- a row names nodes, and its kind is one of the table
pub record Noded (r : Row) : Type 0 where
  pub kind_end : r.kind ≤ 9
  pub from_end : r.from ≤ Limits.node_end
  pub to_end : r.to ≤ Limits.node_end

-- the counts
abbrev pub totals_of : Net → Totals
totals_of N =
    record {
      rows = length N.rows;
      nodes = N.nodes;
      areas = area_count N;
      slots = Records.slot_count N;
      steps = Rows.steps N.head;
      limit = pos (Rows.limit N.head);
    }
