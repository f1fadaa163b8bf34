-- `list_line::put_ended` meets its contract. Assumes nothing.
use Rattle.whole.specs.Plain.{arith}
use mir.Facts.{to_z-of_z}
use Rattle.list_digits.specs.Puts.{puts_one, puts_length, room_first, room_second, both_put}
use Rattle.list_line.specs.Texts.{ended_parts}
use Rattle.list_line.proofs.put_ended.Goals as goal

pub put_number-next-requires : goal.put_number-next-requires
put_number-next-requires c = rw (to_z-of_z c.ranges.x) (room_first (ended_parts c.args.x c.args.end) c.args.at _ c.requires)

pub returns : goal.returns
returns c =
    let p = c.put_number-next in
    both_put (ended_parts c.args.x c.args.end) (rw (to_z-of_z c.ranges.x) at p.ensures) (puts_one _ p.result c.args.end)

pub bounds-out-next : goal.bounds-out-next
bounds-out-next c = omega (arith, room_second (ended_parts c.args.x c.args.end) c.requires (rw (to_z-of_z c.ranges.x) at c.put_number-next.ensures))

pub overflow_add-result : goal.overflow_add-result
overflow_add-result c =
    let p = c.put_number-next.ensures in
    record { fits = omega (arith, room_second (ended_parts c.args.x c.args.end) c.requires (rw (to_z-of_z c.ranges.x) at p), puts_length p) }
