-- `text_write::put_rows` meets its contract. The invariant: what is put so far, and the lines that are left. Assumes nothing.
use Rattle.whole.specs.Plain.{drop}
use Rattle.paper.specs.Writing.{text_of}
use Rattle.laws_facts.specs.Nets.{net_in}
use Rattle.list_digits.specs.Puts.{Going}
use Rattle.text_write.proofs.put_rows.Given as goal

abbrev pub invariant-loop-row : goal.invariant-loop-row
invariant-loop-row l = Going l.initial.out l.at (text_of (net_in l.net.words.now).rows) (text_of (drop l.row (net_in l.net.words.now).rows)) l.next l.out
