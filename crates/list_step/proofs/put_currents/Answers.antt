-- `list_step::put_currents` meets its contract. The invariant: the lines of the rows passed are put. Assumes nothing.
use Rattle.std.specs.Prelude.{◌+◌, ◌≡◌}
use Rattle.whole.specs.Plain.{ℕ, ap, arith, numbers}
use Rattle.list_digits.specs.Puts.{puts_none, puts_as}
use Rattle.list_step.specs.Joined.{joined, line_room, line_put}
use Rattle.list_step.specs.ByPlan.{current_line_by}
use Rattle.list_step.proofs.put_currents.Goals as goal

pub loop-i-init : goal.loop-i-init
unfolding joined numbers
loop-i-init c = puts_none c.args.out.now c.args.at

pub loop-i-preserved : goal.loop-i-preserved
loop-i-preserved c =
    let l = c.loop-i in
    let e : 0 + l.i ≡ l.i = omega arith in
    line_put (current_line_by c.args.plan.now c.args.records.now c.args.lines.head.step) 0 l.i l.invariant (rw e c.put_current-next.ensures)

pub returns : goal.returns
returns c =
    let e : c.loop-i.i ≡ c.args.rows = omega arith in
    puts_as (ap (λ (n : ℕ). joined (current_line_by c.args.plan.now c.args.records.now c.args.lines.head.step) (numbers 0 n)) e) c.loop-i.invariant

pub put_current-next-requires : goal.put_current-next-requires
put_current-next-requires c =
    let l = c.loop-i in
    let t = c.loop-i-test.true in
    let n = c.requires.numbered in
    let e : 0 + l.i ≡ l.i = omega arith in
    record {
      letter = c.requires.letter;
      i_bound = (omega (arith, t, n.0.few), n.0.small l.i t, n.1);
      i_in_bounds = rw e at (line_room (current_line_by c.args.plan.now c.args.records.now c.args.lines.head.step) 0 l.i l.invariant c.args.rows t c.requires.rows_in_bounds);
    }
