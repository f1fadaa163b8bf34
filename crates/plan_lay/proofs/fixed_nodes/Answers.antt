-- `plan_lay::fixed_nodes` meets its contract: the flags of the rows passed. Assumes nothing.
use Rattle.std.specs.Prelude.{◌≡◌}
use Rattle.whole.specs.Plain.{length, arith}
use Rattle.laws_facts.specs.Nets.{net_in}
use Rattle.plan_lay.specs.Flags.{flagged_none, flagged_more, flagged_all}
use Rattle.plan_lay.proofs.fixed_nodes.Goals as goal

pub loop-i-init : goal.loop-i-init
loop-i-init c = flagged_none _

pub flag_row-requires : goal.flag_row-requires
flag_row-requires c = omega (arith, c.requires)

pub loop-i-preserved : goal.loop-i-preserved
loop-i-preserved c = rw c.flag_row.ensures (flagged_more c.loop-i.invariant (omega (arith, c.requires)))

pub returns : goal.returns
returns c =
    let e : c.loop-i.i ≡ length (net_in c.args.net.words.now).rows = omega (arith, c.requires) in
    flagged_all (rw e at c.loop-i.invariant)
