-- `plan_lay::fixed_nodes` meets its contract: the flags of the rows passed. Assumes nothing.
use Rattle.laws_facts.specs.Nets.{net_in}
use Rattle.plan_lay.specs.Flags.{FlaggedTo}
use Rattle.plan_lay.proofs.fixed_nodes.Given as goal

abbrev pub invariant-loop-i : goal.invariant-loop-i
invariant-loop-i l = FlaggedTo (net_in l.net.words.now) l.i l.flags
