-- `list_turn::put_turn` meets its contract: the step's lines where all areas took it, the stop line where one did not. Assumes nothing.
use Rattle.std.specs.Prelude.{ℕ, ◌+◌, ◌≤◌, List, refl}
use Rattle.std.proofs.Common.{add-one, arith}
use Rattle.whole.specs.Plain.{Words}
use Rattle.paper.specs.Limits as Limits
use Rattle.plan_rows.specs.declared.Totals.{Totals}
use Rattle.list_step.specs.Bounds.{stop_short}
use Rattle.list_round.specs.Round.{Round}
use Rattle.list_turn.specs.Turned.{Listable}
use Rattle.list_turn.proofs.put_turn.Goals as goal
use Rattle.plan_rows.specs.declared.Row.{Row}

few : {plan : List Row} {totals : Totals} {recs : Words} {k : ℕ} {r : Round} → Listable plan totals recs k r → k + 1 ≤ Limits.steps_end
few p = omega (arith, p.left, p.of.sound.study.steps_in.most)

pub put_step-requires : goal.put_step-requires
put_step-requires c =
    let p = c.requires.listable in
    record {
      of_some = (record { net = _; of = p.of }, few p);
      records_len = (p.long, p.small (rw c.in-Ok.is refl));
      at_in_bounds = c.requires.at_in_bounds;
    }

pub returns-in-Ok : goal.returns-in-Ok
returns-in-Ok c N o = rw c.in-Ok.is (rw (add-one c.args.taken) at (c.put_step.ensures N o))

pub put_stop-requires : goal.put_stop-requires
put_stop-requires c =
    let r = c.in-Err.stopped in
    rw (c.refusal_number-number.ensures, c.refusal_place-place.ensures) (omega (arith, c.requires.at_in_bounds, stop_short (c.args.taken + 1) r.area r.refusal))

pub returns-in-Err : goal.returns-in-Err
returns-in-Err c N o = rw c.in-Err.is (rw (add-one c.args.taken, c.refusal_number-number.ensures, c.refusal_place-place.ensures) at c.put_stop.ensures)
