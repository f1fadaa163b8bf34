-- `list_digits::put_eight` meets its contract: the halves, one after the other. Assumes nothing.
use Rattle.whole.specs.Plain.{arith}
use Rattle.list_digits.specs.Puts.{both_put}
use Rattle.list_digits.specs.Decimal.{fixed_cut, fixed_room}
use Rattle.list_digits.proofs.put_eight.Goals as goal

pub put_four-requires : goal.put_four-requires
put_four-requires c =
    let s = c.before.before.before.before.before.before.before in
    (omega (arith, c.ten_thousands-lead.ensures), fixed_room 4 4 _ c.put_four-next.ensures s.requires.1)

pub returns : goal.returns
returns c =
    let q = c.ten_thousands-lead.ensures in
    both_put (fixed_cut 4 c.args.n q (omega (arith, q)) 4)
    c.put_four-next.ensures c.put_four.ensures
