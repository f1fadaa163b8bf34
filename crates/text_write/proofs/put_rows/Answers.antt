-- `text_write::put_rows` meets its contract. The invariant: what is put so far, and the lines that are left. Assumes nothing.
use Rattle.std.specs.Prelude.{◌<◌}
use Rattle.whole.specs.Plain.{sym, arith, length}
use Rattle.paper.specs.Writing.{text_of}
use Rattle.laws_facts.specs.Nets.{net_in}
use Rattle.list_digits.specs.Puts.{going_start, going_room, going_on, going_last, room_first, puts_none, puts_as, puts_length}
use Rattle.text_write.specs.Lines.{rows_next, rows_end}
use Rattle.text_write.proofs.put_rows.Goals as goal

pub loop-row-init : goal.loop-row-init
loop-row-init c = going_start c.args.out.now c.args.at (text_of (net_in c.args.net.words.now).rows)

pub put_row-next-requires : goal.put_row-next-requires
put_row-next-requires c =
    let rows = (net_in c.args.net.words.now).rows in
    let inside : c.loop-row.row < length rows = omega arith in
    record {
      known = inside;
      room = room_first (rows_next rows c.loop-row.row inside) c.loop-row.next _ (going_room c.loop-row.invariant c.requires);
    }

pub loop-row-preserved : goal.loop-row-preserved
loop-row-preserved c =
    let rows = (net_in c.args.net.words.now).rows in
    let inside : c.loop-row.row < length rows = omega arith in
    going_on c.loop-row.invariant (rows_next rows c.loop-row.row inside) c.put_row-next.ensures

pub returns : goal.returns
returns c =
    let l = c.loop-row in
    going_last l.invariant (puts_as (sym (rows_end (net_in c.args.net.words.now).rows l.row (omega arith))) (puts_none l.out l.next))

pub shape_of-out : goal.shape_of-out
shape_of-out c = puts_length (returns c)
