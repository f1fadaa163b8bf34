-- What an area's advance needs of its network: a part of what every network that passes refusal 8 has. Assumes nothing.
use Rattle.std.specs.Prelude.{◌≤◌, ◌<◌, ◌≡◌}
use Rattle.whole.specs.Plain.{ℕ, sym, ap, ◌∙◌, true, true≢false, [], length, get_or-eq_default, dec_lt}
use Rattle.whole.specs.Plain.{arith}
use Rattle.paper.specs.Limits as Limits
use Rattle.paper.specs.Rows.{kinds, branch_kind, is_branch, is_line, from, to}
use Rattle.paper.specs.Classes.{line_branch}
use Rattle.paper.specs.Faults.{delay}
use Rattle.paper.specs.Areas.{Net, area_of, area_count, step}
use Rattle.paper.specs.Records.{slot_count}
use Rattle.laws_facts.specs.Nets.{NetSound, row_at, area_count_most}

pub record Sound (N : Net) : Type 0 where
  pub rows : length N.rows ≤ Limits.row_end
  pub nodes : N.nodes ≤ Limits.node_end
  pub areas : area_count N ≤ Limits.node_end
  pub slots : slot_count N ≤ Limits.store_words
  -- "No line ends on ground", and a travel time is a step at least
  pub from_area : (i : ℕ) → is_line (row_at N i) ≡ true → 1 ≤ area_of N (from (row_at N i))
  pub to_area : (i : ℕ) → is_line (row_at N i) ≡ true → 1 ≤ area_of N (to (row_at N i))
  pub travels : (i : ℕ) → is_line (row_at N i) ≡ true → 0 < delay (step N) (row_at N i)

-- a row that is there: past the table no word is of a kind
pub row_there : (N : Net) (i : ℕ) → is_branch (row_at N i) ≡ true → i < length N.rows
unfolding branch_kind kinds
row_there N i e = go (dec_lt i (length N.rows))
  where
    go : Dec (i < length N.rows) → i < length N.rows
    go (yes h) = h
    go (no h) = absurd (true≢false (sym e ∙ ap is_branch (get_or-eq_default N.rows [] (omega arith))))

pub sound : (N : Net) → NetSound N → Sound N
sound N s = record {
  rows = s.row_most;
  nodes = s.node_most;
  areas = omega (arith, area_count_most N s, s.node_most);
  slots = s.slot_most;
  from_area = λ i l. let h = there i l in s.area_least (from (row_at N i)) ((s.row i h).line l).from_off ((s.row i h).branch (line_branch (row_at N i) l)).from_in.most;
  to_area = λ i l. let h = there i l in s.area_least (to (row_at N i)) ((s.row i h).line l).to_off ((s.row i h).branch (line_branch (row_at N i) l)).to_in.most;
  travels = λ i l. ((s.row i (there i l)).line l).late;
}
  where
    there : (i : ℕ) → is_line (row_at N i) ≡ true → i < length N.rows
    there i l = row_there N i (line_branch (row_at N i) l)
