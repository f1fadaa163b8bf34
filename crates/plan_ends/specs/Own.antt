-- What is an area's own: the ends of rows that leave its nodes, its nodes, its sources. End e is the end 1 + e mod 2 of row e / 2: 1 the from end, 2
-- the to end. Assumes nothing.
use Rattle.std.specs.Prelude.{◌+◌, ◌-◌, ◌*◌, ◌/◌, ◌%◌, ◌≤◌, ◌<◌, ◌≡◌, ◌&&◌, ◌++◌}
use Rattle.whole.specs.Plain.{ℕ, zero, suc, refl, Bool, true, false, cond}
use Rattle.whole.specs.Plain.{List, map, eqb, ℤ, pos, neg_ℤ, get_or, length, arith, word, nat, numbers, keep}
use Rattle.paper.specs.Rows.{Row, kind, is_line, is_branch, is_source, is_vC, at, peak, start, rise, frequency}
use Rattle.paper.specs.Areas.{Net, step, area_of, row_area, fixed, nodes_of, free_of}
use Rattle.paper.specs.Classes.{line_branch}
use Rattle.laws_facts.specs.Nets.{row_at}
use Rattle.step_legs.specs.declared.Wire.{Wire}
use Rattle.plan_ends.specs.Kinds.{kind_at}
use Rattle.step_legs.specs.declared.Source.{Source}
use Rattle.step_legs.specs.Wires.{wire_at}

-- the area at one end of a row: a line's ends are each their own node's, a source has none
unfoldable pub owner_of : Net → Row → ℕ → ℕ
owner_of N r end = cond (is_line r) (area_of N (nat (word r end))) (cond (is_branch r) (row_area N r) 0)

-- so what an area owns is a branch's
pub own_branch : (N : Net) (r : Row) (end a : ℕ) → 1 ≤ a → owner_of N r end ≡ a → is_branch r ≡ true
unfolding owner_of
own_branch N r end a one o = go (is_line r) refl (is_branch r) refl o
  where
    go : (l : Bool) → is_line r ≡ l → (b : Bool) → is_branch r ≡ b → cond l (area_of N (nat (word r end))) (cond b (row_area N r) 0) ≡ a → is_branch r ≡ true
    go true l b q o = line_branch r l
    go false l true q o = q
    go false l false q o = absurd (omega arith)

-- one end or the other
pub of_sides : (P : ℕ → Type 0) → P 1 → P 2 → (end : ℕ) → 1 ≤ end → end ≤ 2 → P end
of_sides P from to zero l m = absurd (omega arith)
of_sides P from to (suc zero) l m = from
of_sides P from to (suc (suc zero)) l m = to
of_sides P from to (suc (suc (suc end))) l m = absurd (omega arith)

abbrev pub row_of_end : Net → ℕ → Row
row_of_end N e = row_at N (e / 2)

abbrev pub side_of_end : ℕ → ℕ
side_of_end e = 1 + e % 2

unfoldable pub own_end : Net → ℕ → ℕ → Bool
own_end N a e = eqb (owner_of N (row_of_end N e) (side_of_end e)) a

-- in table order, a row's from end before its to end
unfoldable pub own_ends : Net → ℕ → List ℕ
own_ends N a = keep (own_end N a) (numbers 0 (2 * length N.rows))

-- the j-th of them
abbrev pub end_at : Net → ℕ → ℕ → ℕ
end_at N a j = get_or (own_ends N a) j 0

-- ---- an end as a wire: what of a leg the network alone settles

unfoldable pub near_of : Net → ℕ → ℕ
near_of N e = nat (word (row_of_end N e) (side_of_end e))

-- a line's end is a leg to ground
unfoldable pub far_of : Net → ℕ → ℕ
far_of N e = cond (is_line (row_of_end N e)) 0 (nat (word (row_of_end N e) (3 - side_of_end e)))

pub record FrameOf (N : Net) (e : ℕ) (w : Wire) : Type 0 where
  pub near : w.near ≡ near_of N e
  pub far : w.far ≡ far_of N e
  pub row : w.row ≡ e / 2
  pub end : w.end ≡ side_of_end e
  pub kind : w.kind ≡ kind (row_of_end N e)

-- the area's legs, each with its frame
pub record Framed (N : Net) (a : ℕ) (legs : List Wire) : Type 0 where
  pub long : length legs ≡ length (own_ends N a)
  pub line : (j : ℕ) → j < length legs → FrameOf N (end_at N a j) (wire_at legs j)

-- ---- its nodes: the free ones, "in rising order", then the fixed ones

unfoldable pub fixed_of : Net → ℕ → List ℕ
fixed_of N a = keep (fixed N) (nodes_of N a)

abbrev pub own_nodes : Net → ℕ → List ℕ
own_nodes N a = free_of N a ++ fixed_of N a

-- ---- its sources, in table order

unfoldable pub own_source : Net → ℕ → Row → Bool
own_source N a r = is_source r && eqb (area_of N (at r)) a

unfoldable pub own_sources : Net → ℕ → List Row
own_sources N a = keep (own_source N a) N.rows

-- a source's rise; in its place a VC has minus its pace, by how much its phase goes on at each step: "step · frequency". As a rise that is over before
-- it begins: a VC goes the way of any source to its whole peak, and swings then
unfoldable pub pace_of : Net → Row → ℤ
pace_of N r = cond (is_vC r) (neg_ℤ (pos (step N * frequency r))) (pos (rise r))

-- a source, as a step goes by it
unfoldable pub source_line : Net → Row → Source
source_line N r = record { kind = kind_at (kind r); node = at r; peak = peak r; start = pos (start r); pace = pace_of N r }

abbrev pub source_lines : Net → ℕ → List Source
source_lines N a = map (source_line N) (own_sources N a)
