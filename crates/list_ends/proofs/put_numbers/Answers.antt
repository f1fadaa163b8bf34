-- `list_ends::put_numbers` meets its contract: a tab and a number more; at the end, the end of the line. Assumes nothing.
use Rattle.std.proofs.Common.{sym}
use Rattle.list_digits.specs.Puts.{going_room, going_on, going_last, room_first, room_second, puts_as}
use Rattle.list_ends.specs.Parts.{left_next, tab_next, shown_next, none_left}
use Rattle.list_ends.proofs.put_numbers.Goals as goal

pub put_byte-next-requires : goal.put_byte-next-requires
put_byte-next-requires g c =
    let n = left_next g.N.Number.number c.args.numbers.now c.loop-number.number-index c.number-item.result c.loop-number-test.true c.number-item.is in
    room_first (tab_next n) c.loop-number.next _ (going_room c.loop-number.invariant c.requires)

pub put-next-requires : goal.put-next-requires
put-next-requires g c =
    let n = left_next g.N.Number.number c.args.numbers.now c.loop-number.number-index c.number-item.result c.loop-number-test.true c.number-item.is in
    room_first (shown_next _ _) c.put_byte-next.result _ (room_second (tab_next n) (going_room c.loop-number.invariant c.requires) c.put_byte-next.ensures)

pub loop-number-preserved : goal.loop-number-preserved
loop-number-preserved g c =
    let n = left_next g.N.Number.number c.args.numbers.now c.loop-number.number-index c.number-item.result c.loop-number-test.true c.number-item.is in
    going_on (going_on c.loop-number.invariant (tab_next n) c.put_byte-next.ensures) (shown_next _ _) c.put-next.ensures

pub put_byte-requires : goal.put_byte-requires
put_byte-requires g c =
    rw (none_left g.N.Number.number c.args.numbers.now c.loop-number.number-index c.loop-number-test.false) at (going_room c.loop-number.invariant c.requires)

pub returns : goal.returns
returns g c =
    going_last c.loop-number.invariant
    (puts_as (sym (none_left g.N.Number.number c.args.numbers.now c.loop-number.number-index c.loop-number-test.false)) c.put_byte.ensures)
