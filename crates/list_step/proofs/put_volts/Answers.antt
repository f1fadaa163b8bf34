-- `list_step::put_volts` meets its contract. The invariant: the lines of the nodes passed are put. Assumes nothing.
use Rattle.std.specs.Prelude.{◌+◌, ◌-◌, ◌≡◌}
use Rattle.whole.specs.Plain.{ℕ, ap, arith, numbers}
use Rattle.whole.specs.Int.{read64}
use Rattle.paper.specs.Rows.{bytes}
use Rattle.list_digits.specs.Puts.{Puts, puts_none, puts_as}
use Rattle.list_step.specs.Joined.{joined, volt_line, line_room, line_put}
use Rattle.list_step.proofs.put_volts.Goals as goal
use Rattle.list_step.proofs.put_volts.Goals.{After-put_row-next}

pub loop-node-init : goal.loop-node-init
unfolding joined numbers
loop-node-init c = (omega arith, puts_none c.args.out.now c.args.at)

-- after a node's line
put : (c : After-put_row-next) → Puts c.args.out.now c.args.at (joined (volt_line c.args.records.now c.args.lines.head.step) (numbers 1 c.loop-node.node)) c.put_row-next.result c.put_row-next.new.out
unfolding volt_line bytes
put c =
    let l = c.loop-node in
    let e : l.node - 1 + 1 ≡ l.node = omega arith in
    let f : 1 + (l.node - 1) ≡ l.node = omega arith in
    let line : Puts l.out l.next (volt_line c.args.records.now c.args.lines.head.step (1 + (l.node - 1))) c.put_row-next.result c.put_row-next.new.out =
    rw (f, ← c.requires.letter) (rw (read64 _ c.put_row-arg-1.given) at c.put_row-next.ensures) in
    rw e at (line_put (volt_line c.args.records.now c.args.lines.head.step) 1 (l.node - 1) l.invariant.1 line)

pub loop-node-preserved : goal.loop-node-preserved
loop-node-preserved c =
    let e : c.loop-node.node + 1 - 1 ≡ c.loop-node.node = omega arith in
    (omega arith, rw e (put c.before.before.before.before))

pub returns : goal.returns
returns c =
    let e : c.loop-node.node - 1 ≡ c.args.nodes = omega arith in
    puts_as (ap (λ (n : ℕ). joined (volt_line c.args.records.now c.args.lines.head.step) (numbers 1 n)) e) c.loop-node.invariant.1

pub returns-2 : goal.returns-2
returns-2 c =
    let e : c.loop-node.node ≡ c.args.nodes = omega arith in
    puts_as (ap (λ (n : ℕ). joined (volt_line c.args.records.now c.args.lines.head.step) (numbers 1 n)) e) (put c.before.before.before.before)

pub put_row-next-requires : goal.put_row-next-requires
unfolding volt_line bytes
put_row-next-requires c =
    let l = c.loop-node in
    let f : 1 + (l.node - 1) ≡ l.node = omega arith in
    record {
      number_value = omega (arith, c.requires.nodes_bound.0);
      x_in_bounds =
          rw (read64 _ c.put_row-arg-1.given)
          (rw f at (line_room (volt_line c.args.records.now c.args.lines.head.step) 1 (l.node - 1) l.invariant.1 c.args.nodes (omega arith) c.requires.nodes_in_bounds));
    }
