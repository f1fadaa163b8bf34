-- An area's own ends as wires, by a plan: they are those of the network that the plan is of. Assumes nothing.
use Rattle.std.specs.Prelude.{◌-◌, ◌*◌, ◌/◌, ◌≤◌, ◌<◌, ◌≡◌}
use Rattle.whole.specs.Plain.{ℕ, refl, ap, ◌∙◌, Bool, true, cond, List}
use Rattle.whole.specs.Plain.{map, eqb, length, length-map, eqb-true, arith, word, nat}
use Rattle.whole.specs.Folds.{get_d_map}
use Rattle.paper.specs.Rows.{kind, is_line, is_branch}
use Rattle.paper.specs.Areas.{Net}
use Rattle.laws_facts.specs.Nets.{row_at}
use Rattle.plan_ends.specs.Own.{of_sides, own_branch, row_of_end, side_of_end, own_end, own_ends, near_of, far_of, Framed}
use Rattle.plan_rows.specs.declared.Row.{Row}
use Rattle.step_legs.specs.declared.Wire.{Wire}
use Rattle.step_legs.specs.Wires.{no_wire}
use Rattle.plan_rows.specs.ByKind.{line_kind}
use Rattle.plan_rows.specs.Planned.{row_in, row_of, to_at, owner_in, node_in, Planned}
use Rattle.plan_rows.specs.Laws.{owner_is}
use Rattle.plan_lay.specs.Listed.{listed, listed_same}

-- the other node of an end; a line's end is a leg to ground
unfoldable pub far_in : Row → ℕ → ℕ
far_in r end = cond (line_kind r.kind) 0 (node_in r (3 - end))

-- one end of row i as a wire: near, far, row, end, kind; the words of a step are 0
abbrev pub frame_in : Row → ℕ → ℕ → Wire
frame_in r i end = record no_wire { near = node_in r end; far = far_in r end; row = i; end = end; kind = r.kind }

unfoldable pub own_by : List Row → ℕ → ℕ → Bool
own_by plan a e = eqb (owner_in (row_in plan (e / 2)) (side_of_end e)) a

unfoldable pub frame_by : List Row → ℕ → Wire
frame_by plan e = frame_in (row_in plan (e / 2)) (e / 2) (side_of_end e)

abbrev pub legs_by : List Row → ℕ → ℕ → List Wire
legs_by plan a rows = listed (own_by plan a) (frame_by plan) 0 (2 * rows)

-- end e, of what stands in the plan
module _ (plan : List Row) (i e end : ℕ) (half : e / 2 ≡ i) (side : side_of_end e ≡ end) where
  pub own_at : (a : ℕ) → own_by plan a e ≡ eqb (owner_in (row_in plan i) end) a
  unfolding own_by
  own_at a = rw (half, side)

  pub frame_at : frame_by plan e ≡ frame_in (row_in plan i) i end
  unfolding frame_by
  frame_at = rw (half, side)

-- as the network has them
unfoldable pub frame_of : Net → ℕ → Wire
frame_of N e = record no_wire { near = near_of N e; far = far_of N e; row = e / 2; end = side_of_end e; kind = kind (row_of_end N e) }

pub framed_lines : (N : Net) (a : ℕ) → Framed N a (map (frame_of N) (own_ends N a))
unfolding frame_of
framed_lines N a = record {
  long = length-map (own_ends N a) (frame_of N);
  line = λ j h. rw (get_d_map (frame_of N) (own_ends N a) j 0 no_wire (omega (arith, length-map (own_ends N a) (frame_of N)))) (record { near = refl; far = refl; row = refl; end = refl; kind = refl });
}

-- ---- one end of a row
module _ (N : Net) (i : ℕ) (b : is_branch (row_at N i) ≡ true) where
  node_is : (e : ℕ) → 1 ≤ e → e ≤ 2 → node_in (row_of N i) e ≡ nat (word (row_at N i) e)
  unfolding node_in row_of to_at
  node_is = of_sides (λ e. node_in (row_of N i) e ≡ nat (word (row_at N i) e)) refl (rw b)

  far_is : (e : ℕ) → 1 ≤ e → e ≤ 2 → far_in (row_of N i) e ≡ cond (is_line (row_at N i)) 0 (nat (word (row_at N i) (3 - e)))
  unfolding far_in row_of
  far_is e l h = ap (λ (n : ℕ). cond (is_line (row_at N i)) 0 n) (node_is (3 - e) (omega arith) (omega arith))

-- ---- all of them
module _ {N : Net} {plan : List Row} (p : Planned N plan) (a : ℕ) (one : 1 ≤ a) where
  row_of_lem : (e : ℕ) → e < 2 * length N.rows → row_in plan (e / 2) ≡ row_of N (e / 2)
  row_of_lem e h = p.row (e / 2) (omega arith)

  own_same : (e : ℕ) → e < 2 * length N.rows → own_by plan a e ≡ own_end N a e
  unfolding own_by own_end
  own_same e h = ap (λ (r : Row). eqb (owner_in r (side_of_end e)) a) (row_of_lem e h) ∙ ap (λ (x : ℕ). eqb x a) (owner_is N (e / 2) (side_of_end e) (omega arith) (omega arith))

  kind_is_lem : (i : ℕ) → (row_of N i).kind ≡ kind (row_at N i)
  unfolding row_of
  kind_is_lem i = refl

  frame_same : (e : ℕ) → e < 2 * length N.rows → own_end N a e ≡ true → frame_by plan e ≡ frame_of N e
  unfolding frame_by frame_of own_end near_of far_of
  frame_same e h o =
      let b = own_branch N (row_of_end N e) (side_of_end e) a one (eqb-true _ a o) in
      ap (λ (r : Row). frame_in r (e / 2) (side_of_end e)) (row_of_lem e h)
      ∙ rw (node_is N (e / 2) b (side_of_end e) (omega arith) (omega arith), far_is N (e / 2) b (side_of_end e) (omega arith) (omega arith), kind_is_lem (e / 2))

  pub legs_are : legs_by plan a (length N.rows) ≡ map (frame_of N) (own_ends N a)
  unfolding listed own_ends
  legs_are = listed_same (own_by plan a) (own_end N a) (frame_by plan) (frame_of N) 0 (2 * length N.rows) (λ e l h. own_same e (omega arith)) (λ e l h. frame_same e (omega arith))
