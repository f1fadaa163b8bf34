-- `plan_lay::lay_sources` meets its contract: the sources among the rows passed are laid. Assumes nothing.
use Rattle.std.specs.Prelude.{◌<◌, ◌≡◌}
use Rattle.whole.specs.Plain.{length, arith}
use Rattle.laws_facts.specs.Nets.{net_in}
use Rattle.plan_lay.specs.Listed.{gathered_none, gathered_room, gathered_more}
use Rattle.plan_lay.proofs.lay_sources.Goals as goal
use Rattle.plan_lay.proofs.lay_sources.Goals.{In-loop-i}

pub loop-i-init : goal.loop-i-init
loop-i-init c = gathered_none _ _ 0 (omega (arith, c.requires.mapped.1))

there : (c : In-loop-i) → c.loop-i.i < length (net_in c.args.net.words.now).rows
there c = omega (arith, c.requires.rows_value)

pub lay_source-t-requires : goal.lay_source-t-requires
lay_source-t-requires c =
    record {
      i_in_bounds = there c.before;
      mapped = (c.requires.mapped.0, gathered_room _ _ 0 c.loop-i.invariant (omega arith) c.requires.mapped.1 c.loop-i.i (omega arith));
    }

pub loop-i-preserved : goal.loop-i-preserved
loop-i-preserved c =
    gathered_more _ _ 0 c.loop-i.invariant (omega arith) c.requires.mapped.1 c.loop-i.i (omega arith) c.lay_source-t.ensures

pub returns : goal.returns
returns c =
    let e : c.loop-i.i ≡ c.args.rows = omega arith in
    rw e at c.loop-i.invariant

pub shape_of-sources : goal.shape_of-sources
shape_of-sources c = c.loop-i.invariant.long
