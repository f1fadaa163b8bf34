-- `plan_areas::areas` meets its contract: from each node's own number, by rounds to the lowest nodes, and from these to the areas' numbers. Assumes nothing.
use Rattle.std.specs.Prelude.{◌≤◌}
use Rattle.whole.specs.Plain.{ℕ, suc, ap, ◌∙◌, List, length, arith, filled, numbers}
use Rattle.whole.specs.Turns.{turns}
use Rattle.whole.specs.Folds.{length_numbers}
use Rattle.whole.specs.Filled.{length_filled}
use Rattle.laws_facts.specs.Nets.{net_in}
use Rattle.laws_facts.proofs.Nets.{net_sound}
use Rattle.plan_areas.specs.Marks.{mark_words, round_of}
use Rattle.plan_areas.specs.Numbered.{spread_in}
use Rattle.plan_areas.proofs.areas.Goals as goal

pub start-requires : goal.start-requires
start-requires c =
    (c.requires.1, omega (arith, c.requires.0, (net_sound c.args.net.words.now c.args.net.passes).node_most))

pub spread-requires : goal.spread-requires
spread-requires c =
    let k : suc c.args.nodes ≤ mark_words = omega (arith, c.requires.0, (net_sound c.args.net.words.now c.args.net.passes).node_most) in
    ap length c.start.ensures ∙ length_filled mark_words 0 (numbers 0 (suc c.args.nodes)) (rw length_numbers k)

pub number_areas-requires : goal.number_areas-requires
number_areas-requires c =
    let net = c.args.net.words.now in
    let first : ℕ → List ℕ = λ n. filled mark_words 0 (numbers 0 (suc n)) in (
      c.requires.0,
      c.spread.ensures ∙ ap (λ (m : List ℕ). turns 0 32 (round_of (net_in net).rows) m) (c.start.ensures ∙ ap first c.requires.0) ∙ spread_in net c.args.net.passes,
    )
