-- `plan_record::Record::row_count` meets its contract. Assumes nothing.
use Rattle.whole.specs.Plain.{ap, ◌∙◌, arith, nat}
use Rattle.whole.specs.Int.{read64}
use Rattle.whole.specs.Index.{index}
use Rattle.laws_facts.specs.Nets.{network_length, row_count_word}
use Rattle.plan_record.proofs.Record.row_count.Goals as goal

pub bounds-self-3 : goal.bounds-self-3
bounds-self-3 c = omega (arith, network_length c.args.self.words.now c.args.self.passes)

pub overflow_cast-result : goal.overflow_cast-result
overflow_cast-result c = index _ _ (omega arith) (row_count_word c.args.self.words.now c.args.self.passes)

pub returns : goal.returns
returns c = ap nat (read64 _ (omega arith) ∙ row_count_word c.args.self.words.now c.args.self.passes)
