-- `plan_areas::spread` meets its contract: the rounds that are left lead to all of them. Assumes nothing.
use Rattle.std.specs.Prelude.{◌≡◌}
use Rattle.whole.specs.Plain.{length}
use Rattle.whole.specs.Turns.{turns}
use Rattle.laws_facts.specs.Nets.{net_in}
use Rattle.plan_areas.specs.Marks.{round_of}
use Rattle.plan_areas.proofs.spread.Given as goal

abbrev pub invariant-loop-turn : goal.invariant-loop-turn
invariant-loop-turn l =
    let rows = (net_in l.net.words.now).rows in
    (length l.area ≡ 33) × (turns l._turn 32 (round_of rows) l.area ≡ turns 0 32 (round_of rows) l.initial.area)
