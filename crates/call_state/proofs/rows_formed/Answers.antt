-- `call_state::rows_formed` meets its contract. The invariant: the flag says whether the rows passed so far are formed. Assumes nothing.
use Rattle.std.specs.Prelude.{◌≡◌}
use Rattle.whole.specs.Plain.{refl, zero-add, arith, every, numbers}
use Rattle.whole.specs.Folds.{every_numbers}
use Rattle.call_state.specs.Judged.{planned_formed}
use Rattle.call_state.proofs.rows_formed.Goals as goal

pub loop-i-init : goal.loop-i-init
unfolding every numbers
loop-i-init c = refl

pub row_formed-good-requires : goal.row_formed-good-requires
row_formed-good-requires c =
    let p = c.requires.counted in
    record {
      line_in = (p.line c.loop-i.i (omega arith), p.breaker c.loop-i.i (omega arith));
      i_bound = (omega (arith, p.few), c.requires.records_len.0, c.requires.records_len.1);
    }

pub loop-i-preserved : goal.loop-i-preserved
unfolding planned_formed
loop-i-preserved c = rw (every_numbers, zero-add, c.loop-i.invariant, c.row_formed-good.ensures)

pub returns : goal.returns
returns c = let e : c.loop-i.i ≡ c.args.rows = omega arith in rw (← e) c.loop-i.invariant
