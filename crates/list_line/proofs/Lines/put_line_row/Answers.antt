-- `list_line::Lines::put_line_row` meets its contract: the start of the line, and two values. Assumes nothing.
use mir.Facts.{to_z-of_z}
use Rattle.list_digits.specs.Puts.{room_first, room_second, both_put}
use Rattle.list_line.specs.Texts.{line_parts, both_parts}
use Rattle.list_line.proofs.Lines.put_line_row.Goals as goal

pub put_start-next-requires : goal.put_start-next-requires
put_start-next-requires c =
    record { number_value = c.requires.number_value; number_in_bounds = room_first (line_parts c.args.self.head c.args.number c.args.x c.args.y) c.args.at _ c.requires.y_in_bounds }

pub put_ended-last-requires : goal.put_ended-last-requires
put_ended-last-requires c =
    let p = c.put_start-next in
    let r = room_second (line_parts c.args.self.head c.args.number c.args.x c.args.y) c.requires.y_in_bounds p.ensures in
    rw (to_z-of_z c.ranges.x) (room_first (both_parts c.args.x c.args.y) p.result _ r)

pub put_ended-requires : goal.put_ended-requires
put_ended-requires c =
    let r = room_second (line_parts c.args.self.head c.args.number c.args.x c.args.y) c.requires.y_in_bounds c.put_start-next.ensures in
    rw (to_z-of_z c.ranges.y) (room_second (both_parts c.args.x c.args.y) r (rw (to_z-of_z c.ranges.x) at c.put_ended-last.ensures))

pub returns : goal.returns
returns c =
    both_put (line_parts c.args.self.head c.args.number c.args.x c.args.y) c.put_start-next.ensures
    (both_put (both_parts c.args.x c.args.y) (rw (to_z-of_z c.ranges.x) at c.put_ended-last.ensures) (rw (to_z-of_z c.ranges.y) at c.put_ended.ensures))
