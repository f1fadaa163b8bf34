-- `plan_areas::round` meets its contract: the rows that are left lead to the round, and where no mark changed so far they stand as they were. Assumes nothing.
use Rattle.whole.specs.Plain.{refl, ◌∙◌, arith, fold}
use Rattle.whole.specs.Folds.{fold_end}
use Rattle.laws_facts.specs.Nets.{net_in, row_at}
use Rattle.plan_areas.specs.Marks.{join_row, round_of, moved_next, length_row}
use Rattle.plan_areas.proofs.round.Goals as goal

pub loop-i-init : goal.loop-i-init
loop-i-init c = (c.requires, (λ f. refl, refl))

pub join_row-here-requires : goal.join_row-here-requires
join_row-here-requires c = (omega (arith, c.row_count-i-end.ensures), c.loop-i.invariant.0)

pub loop-i-preserved : goal.loop-i-preserved
loop-i-preserved c =
    let N = net_in c.args.net.words.now in
    let m = c.loop-i.area in
    let w = c.join_row-here.ensures in (
      length_row m c.join_row-here.new.area (row_at N c.loop-i.i) c.join_row-here.result w ∙ c.loop-i.invariant.0,
      moved_next c.args.area.now m c.join_row-here.new.area (fold join_row c.args.area.now N.rows) c.loop-i.moved c.join_row-here.result N.rows c.loop-i.i (row_at N c.loop-i.i)
          (omega (arith, c.row_count-i-end.ensures)) refl c.loop-i.invariant.1 w,
    )

pub returns : goal.returns
unfolding round_of
returns c =
    let N = net_in c.args.net.words.now in
    record { is = fold_end join_row N.rows c.loop-i.i c.loop-i.area _ (omega (arith, c.row_count-i-end.ensures)) c.loop-i.invariant.1.1; still = c.loop-i.invariant.1.0 }
