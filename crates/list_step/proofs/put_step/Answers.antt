-- `list_step::put_step` meets its contract: the nodes' lines, then the branches'. Assumes nothing.
use Rattle.std.specs.Prelude.{◌+◌, ◌≤◌}
use Rattle.whole.specs.Plain.{ℕ, length, Words, arith}
use Rattle.paper.specs.Limits as Limits
use Rattle.paper.specs.Areas.{Net}
use Rattle.paper.specs.Listing.{step_lines}
use Rattle.plan_rows.specs.Planned.{Plan}
use Rattle.plan_rows.specs.declared.Totals.{Totals}
use Rattle.plan_net.specs.Of.{Of}
use Rattle.list_digits.specs.Puts.{room_first, room_second, both_put}
use Rattle.list_step.specs.ByPlan.{rows_are, nodes_are, numbered, step_parts}
use Rattle.list_step.specs.Bounds.{Small, lines_short}
use Rattle.list_step.proofs.put_step.Goals as goal

room : {N : Net} {plan : Plan} {totals : Totals} (o : Of N plan totals) (recs : Words) (step at size : ℕ) → Small totals.nodes totals.rows recs → step ≤ Limits.steps_end → at + Limits.step_bytes ≤ size → at + length (step_lines N recs step) ≤ size
room o recs step at size f k h = omega (arith, lines_short o.sound (rw (nodes_are o, rows_are o) at f) step k, h)

pub put_volts-next-requires : goal.put_volts-next-requires
put_volts-next-requires c =
    let h = c.head_of-volts.ensures in
    let q = c.requires.of_some in
    let o = q.0.of in
    let r = room o c.args.records.now c.args.step c.args.at _ c.requires.records_len.1 q.1 c.requires.at_in_bounds in
    record {
      letter = h.1;
      nodes_bound = (omega (arith, nodes_are o, o.sound.node_most), c.requires.records_len.0);
      nodes_in_bounds = rw h.2 (room_first (step_parts o c.args.records.now c.args.step) c.args.at _ r);
    }

pub put_currents-requires : goal.put_currents-requires
put_currents-requires c =
    let h = c.head_of-currents.ensures in
    let q = c.requires.of_some in
    let o = q.0.of in
    let r = room o c.args.records.now c.args.step c.args.at _ c.requires.records_len.1 q.1 c.requires.at_in_bounds in
    record {
      letter = h.1;
      numbered = (numbered o, c.requires.records_len.0);
      rows_in_bounds = rw h.2 (room_second (step_parts o c.args.records.now c.args.step) r (rw c.head_of-volts.ensures.2 at c.put_volts-next.ensures));
    }

pub returns : goal.returns
returns c N o =
    both_put (step_parts o c.args.records.now c.args.step) (rw c.head_of-volts.ensures.2 at c.put_volts-next.ensures) (rw c.head_of-currents.ensures.2 at c.put_currents.ensures)
