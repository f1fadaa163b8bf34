-- `list_line::Lines::put_start` meets its contract: the head, the number, a tab. Assumes nothing.
use Rattle.whole.specs.Plain.{arith}
use Rattle.list_digits.specs.Puts.{puts_one, puts_length, room_first, room_second, both_put}
use Rattle.list_line.specs.Texts.{start_parts, count_parts}
use Rattle.list_line.proofs.Lines.put_start.Goals as goal

pub put_head-next-requires : goal.put_head-next-requires
put_head-next-requires c = (c.args.self.spelt, room_first (start_parts c.args.self.head c.args.number) c.args.at _ c.requires.number_in_bounds)

pub put_small-last-requires : goal.put_small-last-requires
put_small-last-requires c =
    let p = c.put_head-next in
    (c.requires.number_value, room_first (count_parts c.args.number) p.result _ (room_second (start_parts c.args.self.head c.args.number) c.requires.number_in_bounds p.ensures))

pub returns : goal.returns
returns c =
    let p = c.put_small-last in
    both_put (start_parts c.args.self.head c.args.number) c.put_head-next.ensures (both_put (count_parts c.args.number) p.ensures (puts_one _ p.result 9))

pub bounds-out-last : goal.bounds-out-last
bounds-out-last c =
    omega (arith, room_second (count_parts c.args.number) (room_second (start_parts c.args.self.head c.args.number) c.requires.number_in_bounds c.put_head-next.ensures) c.put_small-last.ensures)

pub overflow_add-result : goal.overflow_add-result
overflow_add-result c =
    let p = c.put_head-next.ensures in
    let q = c.put_small-last.ensures in
    let room = room_second (count_parts c.args.number) (room_second (start_parts c.args.self.head c.args.number) c.requires.number_in_bounds p) q in
    record { fits = omega (arith, room, puts_length p, puts_length q) }
