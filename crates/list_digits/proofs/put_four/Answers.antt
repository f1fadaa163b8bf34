-- `list_digits::put_four` meets its contract: the halves, one after the other. Assumes nothing.
use Rattle.whole.specs.Plain.{arith}
use Rattle.list_digits.specs.Puts.{both_put}
use Rattle.list_digits.specs.Decimal.{fixed_cut, fixed_room}
use Rattle.list_digits.proofs.put_four.Goals as goal

pub put_pair-requires : goal.put_pair-requires
put_pair-requires c =
    let s = c.before.before.before.before.before.before.before in
    (omega (arith, c.hundreds-lead.ensures), fixed_room 2 2 _ c.put_pair-next.ensures s.requires.1)

pub returns : goal.returns
returns c =
    let q = c.hundreds-lead.ensures in
    both_put (fixed_cut 2 c.args.n q (omega (arith, q)) 2)
    c.put_pair-next.ensures c.put_pair.ensures
