-- `list_line::head_of` meets its contract. Assumes nothing.
use Rattle.whole.specs.Plain.{refl, length-set, arith}
use Rattle.list_line.specs.Heads.{headed, spelt_again}
use Rattle.list_line.proofs.head_of.Goals as goal

pub four_at-requires : goal.four_at-requires
four_at-requires c = rw length-set (omega (arith, c.requires.room, c.requires.least))

pub four_at-requires-2 : goal.four_at-requires-2
four_at-requires-2 c = rw length-set (omega (arith, c.requires.room, c.requires.least))

pub four_at-requires-3 : goal.four_at-requires-3
four_at-requires-3 c = rw length-set (omega (arith, c.requires.room, c.requires.least))

pub returns : goal.returns
returns c = (headed c.requires c.args.letter c.four_at.ensures c.four_at-2.ensures c.four_at-3.ensures, refl, refl, spelt_again c.requires c.args.letter)
