-- `list_line::Lines::put_row` meets its contract: two parts, one after the other. Assumes nothing.
use mir.Facts.{to_z-of_z}
use Rattle.list_digits.specs.Puts.{room_first, room_second, both_put}
use Rattle.list_line.specs.Texts.{row_parts}
use Rattle.list_line.proofs.Lines.put_row.Goals as goal

pub put_start-next-requires : goal.put_start-next-requires
put_start-next-requires c = record { number_value = c.requires.number_value; number_in_bounds = room_first (row_parts c.args.self.head c.args.number c.args.x) c.args.at _ c.requires.x_in_bounds }

pub put_ended-requires : goal.put_ended-requires
put_ended-requires c = rw (to_z-of_z c.ranges.x) (room_second (row_parts c.args.self.head c.args.number c.args.x) c.requires.x_in_bounds c.put_start-next.ensures)

pub returns : goal.returns
returns c = both_put (row_parts c.args.self.head c.args.number c.args.x) c.put_start-next.ensures (rw (to_z-of_z c.ranges.x) at c.put_ended.ensures)
