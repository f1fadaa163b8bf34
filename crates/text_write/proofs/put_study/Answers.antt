-- `text_write::put_study` meets its contract: the study's line, and those of its rows. Assumes nothing.
use Rattle.whole.specs.Plain.{sym, arith, length-take-le}
use Rattle.laws_facts.specs.Nets.{network_length}
use Rattle.list_digits.specs.Puts.{room_first, room_second, both_put}
use Rattle.text_write.specs.Lines.{study_parts}
use Rattle.text_write.proofs.put_study.Goals as goal

pub slice_bounds-put_line-end : goal.slice_bounds-put_line-end
slice_bounds-put_line-end c = sym (length-take-le 3 c.args.net.now (omega (arith, network_length c.args.net.now c.requires.0)))

pub put_line-next-requires : goal.put_line-next-requires
put_line-next-requires c =
    room_first (study_parts c.args.net.now) 0 _ (omega (arith, c.requires.1))

pub put_rows-requires : goal.put_rows-requires
put_rows-requires c =
    room_second (study_parts c.args.net.now) (omega (arith, c.requires.1)) c.put_line-next.ensures

pub returns : goal.returns
returns c = both_put (study_parts c.args.net.now) c.put_line-next.ensures c.put_rows.ensures
