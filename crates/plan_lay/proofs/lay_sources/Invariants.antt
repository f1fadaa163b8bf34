-- `plan_lay::lay_sources` meets its contract: the sources among the rows passed are laid. Assumes nothing.
use Rattle.laws_facts.specs.Nets.{net_in}
use Rattle.plan_lay.specs.Grown.{Grown}
use Rattle.plan_lay.specs.Sources.{sources_by}
use Rattle.plan_lay.proofs.lay_sources.Given as goal

abbrev pub invariant-loop-i : goal.invariant-loop-i
invariant-loop-i l = Grown l.initial.sources l.m (sources_by (net_in l.net.words.now) l.a l.i) l.t l.sources
