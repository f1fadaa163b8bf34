-- One area laid behind those before it: there is room, what was laid stands, and the tables hold the areas' own apart from each other. Assumes nothing.
use Rattle.std.specs.Prelude.{◌+◌, ◌*◌, ◌≤◌, ◌≡◌}
use Rattle.whole.specs.Plain.{ℕ, refl, sym, ap, ◌∙◌, Bool, true, false, cond, not, List, map}
use Rattle.whole.specs.Plain.{length, get_or, length-map, length-append, arith, numbers}
use borrow.Rule.Slice.PartMut.{mid_len}
use Rattle.whole.specs.Folds.{length_keep, count_le, length_numbers}
use Rattle.whole.specs.Prefix.{count_parts}
use Rattle.paper.specs.Rows.{is_source, at}
use Rattle.paper.specs.Areas.{Net, area_of, fixed, nodes_of, free_of}
use Rattle.laws_facts.specs.Nets.{NetSound}
use Rattle.plan_ends.specs.Own.{owner_of, row_of_end, side_of_end, own_end, own_ends, fixed_of, own_source, own_sources, source_line, source_lines}
use Rattle.step_legs.specs.declared.Wire.{Wire}
use Rattle.step_legs.specs.declared.Source.{Source}
use Rattle.plan_own.specs.declared.Own.{Own}
use Rattle.plan_lay.specs.Grown.{Grown, grown_before, grown_part, grown_then, grown_still}
use Rattle.plan_own.specs.Counting.{count_from, count_of, count_all, count_from_lem}
use Rattle.plan_lay.specs.Ends.{frame_of, framed_lines}
use Rattle.plan_own.specs.Owns.{nothing, Tables, Room, Ours, Behind}

-- ---- counts
module _ (N : Net) (a : ℕ) where
  ends_counted : count_of (λ e. true) (λ e. owner_of N (row_of_end N e) (side_of_end e)) a (numbers 0 (2 * length N.rows)) ≡ length (own_ends N a)
  unfolding count_of own_ends own_end
  ends_counted = sym (length_keep (own_end N a) (numbers 0 (2 * length N.rows)))

  nodes_counted : count_of (λ n. true) (area_of N) a (numbers 1 N.nodes) ≡ length (nodes_of N a)
  unfolding count_of nodes_of
  nodes_counted = sym (length_keep _ (numbers 1 N.nodes))

  sources_counted : count_of is_source (λ r. area_of N (at r)) a N.rows ≡ length (own_sources N a)
  unfolding count_of own_sources own_source
  sources_counted = sym (length_keep (own_source N a) N.rows)

  -- a node is free or fixed
  pub free_or_fixed : length (free_of N a) + length (fixed_of N a) ≡ length (nodes_of N a)
  unfolding free_of fixed_of
  free_or_fixed =
      rw (length_keep, length_keep) (count_parts 0 (λ n. not (fixed N n)) (fixed N) (nodes_of N a) (λ i h. one (fixed N (get_or (nodes_of N a) i 0))))
    where
      one : (b : Bool) → cond (not b) 1 0 + cond b 1 0 ≡ 1
      one true = refl
      one false = refl

  -- ---- room
  pub room_first : NetSound N → Room N a nothing
  room_first s = record {
    legs = omega (arith, count_all (λ e. true) (λ e. owner_of N (row_of_end N e) (side_of_end e)) a (numbers 0 (2 * length N.rows)), count_le (λ e. true) (numbers 0 (2 * length N.rows)), length_numbers 0 (2 * length N.rows), s.row_most);
    nodes = omega (arith, count_all (λ n. true) (area_of N) a (numbers 1 N.nodes), count_le (λ n. true) (numbers 1 N.nodes), length_numbers 1 N.nodes, s.node_most);
    sources = omega (arith, count_all is_source (λ r. area_of N (at r)) a N.rows, s.source_most);
  }

  pub record RoomHere (o : Own) : Type 0 where
    pub legs : o.legs_end + length (own_ends N a) ≤ 160
    pub nodes : o.nodes_end + length (nodes_of N a) ≤ 32
    pub sources : o.sources_end + length (own_sources N a) ≤ 16

  ends_from : count_from (λ e. true) (λ e. owner_of N (row_of_end N e) (side_of_end e)) a (numbers 0 (2 * length N.rows)) ≡ length (own_ends N a) + count_from (λ e. true) (λ e. owner_of N (row_of_end N e) (side_of_end e)) (a + 1) (numbers 0 (2 * length N.rows))
  ends_from = rw (← ends_counted) (count_from_lem (λ e. true) (λ e. owner_of N (row_of_end N e) (side_of_end e)) a (numbers 0 (2 * length N.rows)))

  nodes_from : count_from (λ n. true) (area_of N) a (numbers 1 N.nodes) ≡ length (nodes_of N a) + count_from (λ n. true) (area_of N) (a + 1) (numbers 1 N.nodes)
  nodes_from = rw (← nodes_counted) (count_from_lem (λ n. true) (area_of N) a (numbers 1 N.nodes))

  sources_from : count_from is_source (λ r. area_of N (at r)) a N.rows ≡ length (own_sources N a) + count_from is_source (λ r. area_of N (at r)) (a + 1) N.rows
  sources_from = rw (← sources_counted) (count_from_lem is_source (λ r. area_of N (at r)) a N.rows)

  pub room_here : {o : Own} → Room N a o → RoomHere o
  room_here r = record { legs = omega (arith, r.legs, ends_from); nodes = omega (arith, r.nodes, nodes_from); sources = omega (arith, r.sources, sources_from) }

-- ---- one area
-- its own is as long as it is
pub room_next : (N : Net) (a : ℕ) {at o : Own} {legs legs' : List Wire} {nodes nodes' : List ℕ} {sources sources' : List Source}
    → Room N a at → Ours N a o legs' nodes' sources' → Behind at o legs nodes sources legs' nodes' sources' → Room N (a + 1) o
room_next N a {at} {o} {legs' = legs'} {nodes' = nodes'} {sources' = sources'} r w k =
    let t = k.tables in
    let l : o.legs_end ≡ at.legs_end + length (own_ends N a) = omega (arith, w.framed.long, mid_len o.legs o.legs_end legs' (omega (arith, w.legs_in, t.legs_long)), w.legs_in, k.legs_at) in
    let n : o.nodes_end ≡ at.nodes_end + length (nodes_of N a) = omega (arith, ap length w.nodes, length-append (free_of N a) (fixed_of N a), free_or_fixed N a, mid_len o.base o.nodes_end nodes' (omega (arith, w.nodes_in, t.nodes_long)), w.nodes_in, k.nodes_at) in
    let s : o.sources_end ≡ at.sources_end + length (own_sources N a) = omega (arith, ap length w.sources, length-map (own_sources N a) (source_line N), mid_len o.sources o.sources_end sources' (omega (arith, w.sources_in, t.sources_long)), w.sources_in, k.sources_at) in
    record { legs = omega (arith, r.legs, ends_from N a); nodes = omega (arith, r.nodes, nodes_from N a); sources = omega (arith, r.sources, sources_from N a) }

abbrev standing : Own → ℕ → ℕ → ℕ → ℕ → Own
standing at lend fend nend send = record { legs = at.legs_end; legs_end = lend; base = at.nodes_end; free_end = fend; nodes_end = nend; sources = at.sources_end; sources_end = send; until = 0 }

module _ (N : Net) (a : ℕ) (at : Own) {legs₀ legs : List Wire} {sources₀ sources : List Source} {nodes₀ nodes₁ nodes : List ℕ} {lend fend nend send : ℕ}
    (t : Tables legs₀ nodes₀ sources₀)
    (l : Grown legs₀ at.legs_end (map (frame_of N) (own_ends N a)) lend legs)
    (f : Grown nodes₀ at.nodes_end (free_of N a) fend nodes₁)
    (h : Grown nodes₁ fend (fixed_of N a) nend nodes)
    (s : Grown sources₀ at.sources_end (source_lines N a) send sources) where
  pub ours : Ours N a (standing at lend fend nend send) legs nodes sources
  ours = record {
    legs_in = (omega (arith, l.count), omega (arith, l.within, t.legs_long));
    nodes_in = (omega (arith, f.count), omega (arith, h.count), omega (arith, h.within, f.long, t.nodes_long));
    sources_in = (omega (arith, s.count), omega (arith, s.within, t.sources_long));
    framed = rw (grown_part l) (framed_lines N a);
    free = grown_part (grown_still f h);
    nodes = grown_part (grown_then f h);
    sources = grown_part s;
  }

  pub behind : Behind at (standing at lend fend nend send) legs₀ nodes₀ sources₀ legs nodes sources
  behind = record {
    legs_at = refl;
    nodes_at = refl;
    sources_at = refl;
    until = refl;
    tables = record { legs_long = l.long ∙ t.legs_long; nodes_long = h.long ∙ f.long ∙ t.nodes_long; sources_long = s.long ∙ t.sources_long };
    legs_kept = grown_before l;
    nodes_kept = grown_before (grown_then f h);
    sources_kept = grown_before s;
  }
