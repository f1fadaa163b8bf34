-- `plan_own::lay_all` meets its contract: the areas passed are laid, with room for the rest. Assumes nothing.
use Rattle.std.specs.Prelude.{◌+◌, ◌≤◌, ◌≡◌}
use Rattle.whole.specs.Plain.{ℕ, Bool, List, Words, suc, sym, ap, ◌∙◌, set, arith}
use Rattle.paper.specs.Areas.{area_count}
use Rattle.laws_facts.specs.Nets.{net_in, area_count_most}
use Rattle.laws_facts.proofs.Nets.{net_sound}
use Rattle.plan_rows.specs.declared.Row.{Row}
use Rattle.plan_rows.specs.declared.Totals.{Totals}
use Rattle.plan_own.specs.Owns.{Given}
use Rattle.plan_own.specs.Laying.{Laying, laying_none, laying_more}
use Rattle.plan_own.proofs.lay_all.Goals as goal
use Rattle.plan_own.proofs.lay_all.Goals.{After-lay_area-at}

areas : {net : Words} {plan : List Row} {area : List ℕ} {fixed : List Bool} {totals : Totals} → Given net plan area fixed totals → totals.areas ≡ area_count (net_in net)
areas g = ap (λ (t : Totals). t.areas) g.counted

few : {net : Words} {plan : List Row} {area : List ℕ} {fixed : List Bool} {totals : Totals} → Given net plan area fixed totals → totals.areas ≤ 32
few g = let n = net_sound _ g.network in omega (arith, areas g, area_count_most _ n, n.node_most)

pub loop-a-init : goal.loop-a-init
loop-a-init c = (omega arith, laying_none (net_sound _ c.requires.given.network) _ _ _ _ c.requires.tables.1 c.requires.tables.0)

pub lay_area-at-requires : goal.lay_area-at-requires
lay_area-at-requires c =
    record {
      given = c.requires.given;
      tables = (c.loop-a.invariant.1.laid.tables, (omega arith, c.loop-a.invariant.1.room));
    }

pub offset_bounds-owns-a : goal.offset_bounds-owns-a
offset_bounds-owns-a c = omega (arith, few c.requires.given)

pub bounds-owns-a : goal.bounds-owns-a
bounds-owns-a c = omega (arith, few c.requires.given)

laid : (c : After-lay_area-at) → Laying (net_in c.args.net.words.now) (c.loop-a.a + 1) c.lay_area-at.result (set c.loop-a.owns c.loop-a.a c.lay_area-at.result) c.lay_area-at.new.legs c.lay_area-at.new.nodes c.lay_area-at.new.sources
laid c = laying_more c.loop-a.invariant.1 (omega (arith, few c.requires.given)) c.lay_area-at.ensures.ours c.lay_area-at.ensures.behind

pub loop-a-preserved : goal.loop-a-preserved
loop-a-preserved c = (omega arith, laid c.before.before.before.before.before.before)

pub returns : goal.returns
returns c =
    let e : c.loop-a.a ≡ suc (area_count (net_in c.args.net.words.now)) = omega (arith, areas c.requires.given) in
    record { laid = rw e at c.loop-a.invariant.1.laid; unprepared = rw e at c.loop-a.invariant.1.unprepared }

pub returns-2 : goal.returns-2
returns-2 c =
    let g = laid c.before.before.before.before.before.before in
    let e : c.loop-a.a + 1 ≡ suc (area_count (net_in c.args.net.words.now)) = omega (arith, areas c.requires.given) in
    record { laid = rw e at g.laid; unprepared = rw e at g.unprepared }

pub shape_of-legs : goal.shape_of-legs
shape_of-legs c = c.loop-a.invariant.1.laid.tables.legs_long ∙ sym c.requires.tables.0.legs_long

pub shape_of-nodes : goal.shape_of-nodes
shape_of-nodes c = c.loop-a.invariant.1.laid.tables.nodes_long ∙ sym c.requires.tables.0.nodes_long

pub shape_of-sources : goal.shape_of-sources
shape_of-sources c = c.loop-a.invariant.1.laid.tables.sources_long ∙ sym c.requires.tables.0.sources_long
