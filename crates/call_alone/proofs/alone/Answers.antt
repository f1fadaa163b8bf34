-- `call_alone::alone` meets its contract: the tables hold the area's own, and its step from them is the paper's. Assumes nothing.
use Rattle.whole.specs.Plain.{refl, replicate, arith}
use Rattle.laws_facts.specs.Nets.{net_in}
use Rattle.plan_own.specs.Areas.{room_first}
use Rattle.plan_own.specs.Owns.{nothing}
use Rattle.call_judge.specs.Given.{of, area_few, stepping_alone, tables_alone}
use Rattle.call_alone.proofs.alone.Goals as goal

pub lay_area-requires-clause-tables : goal.lay_area-requires-clause-tables
lay_area-requires-clause-tables c = (
  record { legs_long = c.requires.legs_len.0; nodes_long = refl; sources_long = refl },
  (c.requires.stepping.least, room_first (net_in c.args.net.now) c.args.ready.turn.area (of c.requires.seen).sound),
)

pub bounds-owns-turn : goal.bounds-owns-turn
bounds-owns-turn c = area_few c.requires.seen c.args.ready.turn.area c.requires.stepping.most

pub offset_bounds-owns-turn : goal.offset_bounds-owns-turn
offset_bounds-owns-turn c = omega (arith, area_few c.requires.seen c.args.ready.turn.area c.requires.stepping.most)

pub ready-requires : goal.ready-requires
ready-requires c = record {
  net = net_in c.args.net.now;
  low = c.args.ready.turn.area;
  high = c.args.ready.turn.area;
  tables =
      tables_alone c.requires.seen c.requires.stepping (replicate 33 nothing) _ _ refl refl c.lay_area.ensures.ours
      c.lay_area.ensures.behind c.requires.legs_len.1;
  stepping = stepping_alone c.requires.stepping;
}

pub returns : goal.returns
returns c =
    (c.ready.ensures.of (net_in c.args.net.now) c.args.ready.turn.area c.args.ready.turn.area
    (tables_alone c.requires.seen c.requires.stepping (replicate 33 nothing) _ _ refl refl c.lay_area.ensures.ours
    c.lay_area.ensures.behind c.requires.legs_len.1)
    (stepping_alone c.requires.stepping)).step
