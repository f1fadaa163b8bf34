-- `plan_own::lay_area` meets its contract: each part is laid by its own function. Assumes nothing.
use Rattle.std.specs.Prelude.{◌≤◌, ◌≡◌}
use Rattle.whole.specs.Plain.{ℕ, ap, ◌∙◌, Bool, true, false, List, map, length, length-map, arith, Words}
use Rattle.laws_facts.specs.Nets.{NetSound, net_in}
use Rattle.laws_facts.proofs.Nets.{net_sound}
use Rattle.paper.specs.Areas.{free_of}
use Rattle.plan_ends.specs.Own.{own_ends, fixed_of, source_lines}
use Rattle.plan_rows.specs.declared.Row.{Row}
use Rattle.plan_rows.specs.declared.Totals.{Totals}
use Rattle.plan_lay.specs.Ends.{legs_by, frame_of, legs_are}
use Rattle.plan_lay.specs.Nodes.{nodes_by, free_are, fixed_are}
use Rattle.plan_lay.specs.Sources.{sources_by, sources_are}
use Rattle.plan_own.specs.Owns.{Given}
use Rattle.plan_own.specs.Areas.{room_here, free_or_fixed, ours, behind}
use Rattle.plan_own.proofs.lay_area.Goals as goal

module _ {net : Words} {plan : List Row} {area : List ℕ} {fixed : List Bool} {totals : Totals} (g : Given net plan area fixed totals) where
  sound : NetSound (net_in net)
  sound = net_sound net g.network

  rows : totals.rows ≡ length (net_in net).rows
  rows = ap (λ (t : Totals). t.rows) g.counted

  nodes : totals.nodes ≡ (net_in net).nodes
  nodes = ap (λ (t : Totals). t.nodes) g.counted

  -- what is asked for is the area's own
  legs : (a : ℕ) → 1 ≤ a → legs_by plan a totals.rows ≡ map (frame_of (net_in net)) (own_ends (net_in net) a)
  legs a one = ap (legs_by plan a) rows ∙ legs_are g.planned a one

  free : (a : ℕ) → nodes_by area fixed false a totals.nodes ≡ free_of (net_in net) a
  free a = ap (nodes_by area fixed false a) nodes ∙ free_are sound g.mapped g.flagged a

  held : (a : ℕ) → nodes_by area fixed true a totals.nodes ≡ fixed_of (net_in net) a
  held a = ap (nodes_by area fixed true a) nodes ∙ fixed_are sound g.mapped g.flagged a

  sources : (a : ℕ) → sources_by (net_in net) a totals.rows ≡ source_lines (net_in net) a
  sources a = ap (sources_by (net_in net) a) rows ∙ sources_are (net_in net) a

pub lay_legs-legs_end-requires : goal.lay_legs-legs_end-requires
lay_legs-legs_end-requires c =
    let g = c.requires.given in
    let room = room_here (net_in c.args.net.words.now) c.args.a c.requires.tables.1.1 in record {
      rows_bound = omega (arith, rows g, (sound g).row_most);
      rows_in_bounds = rw (legs g c.args.a c.requires.tables.1.0, length-map) (omega (arith, room.legs, c.requires.tables.0.legs_long));
    }

pub lay_nodes-free_end-requires : goal.lay_nodes-free_end-requires
lay_nodes-free_end-requires c =
    let g = c.requires.given in
    let N = net_in c.args.net.words.now in
    let room = room_here N c.args.a c.requires.tables.1.1 in record {
      count_bound = omega (arith, nodes g, (sound g).node_most);
      count_in_bounds = rw (free g c.args.a) (omega (arith, room.nodes, free_or_fixed N c.args.a, c.requires.tables.0.nodes_long));
    }

pub lay_nodes-nodes_end-requires : goal.lay_nodes-nodes_end-requires
lay_nodes-nodes_end-requires c =
    let g = c.requires.given in
    let N = net_in c.args.net.words.now in
    let room = room_here N c.args.a c.requires.tables.1.1 in
    let freed = rw (free g c.args.a) at c.lay_nodes-free_end.ensures in record {
      count_bound = omega (arith, nodes g, (sound g).node_most);
      count_in_bounds = rw (held g c.args.a) (omega (arith, room.nodes, free_or_fixed N c.args.a, c.requires.tables.0.nodes_long, freed.count, freed.long));
    }

pub lay_sources-sources_end-requires : goal.lay_sources-sources_end-requires
lay_sources-sources_end-requires c =
    let g = c.requires.given in
    let room = room_here (net_in c.args.net.words.now) c.args.a c.requires.tables.1.1 in record {
      rows_value = rows g;
      mapped = (g.mapped, rw (sources g c.args.a, length-map) (omega (arith, room.sources, c.requires.tables.0.sources_long)));
    }

pub returns : goal.returns
returns c =
    let g = c.requires.given in
    let N = net_in c.args.net.words.now in
    let L = rw (legs g c.args.a c.requires.tables.1.0) at c.lay_legs-legs_end.ensures in
    let F = rw (free g c.args.a) at c.lay_nodes-free_end.ensures in
    let H = rw (held g c.args.a) at c.lay_nodes-nodes_end.ensures in
    let S = rw (sources g c.args.a) at c.lay_sources-sources_end.ensures in
    record {
      ours = ours N c.args.a c.args.at c.requires.tables.0 L F H S;
      behind = behind N c.args.a c.args.at c.requires.tables.0 L F H S;
    }
