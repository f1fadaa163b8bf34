-- `plan_record::Record::value` meets its contract: the row's word is the record's. Assumes nothing.
use Rattle.whole.specs.Plain.{sym, ◌∙◌, arith}
use Rattle.whole.specs.Int.{read64}
use Rattle.laws_facts.specs.Nets.{network_length, row_word}
use Rattle.laws_facts.proofs.Nets.{net_sound}
use Rattle.plan_record.proofs.Record.value.Goals as goal

pub overflow_mul-result : goal.overflow_mul-result
overflow_mul-result c = omega (arith, (net_sound _ c.args.self.passes).row_most)

pub overflow_add-result : goal.overflow_add-result
overflow_add-result c = omega (arith, (net_sound _ c.args.self.passes).row_most)

pub overflow_add-result-2 : goal.overflow_add-result-2
overflow_add-result-2 c = omega (arith, (net_sound _ c.args.self.passes).row_most)

pub offset_bounds-self-i : goal.offset_bounds-self-i
offset_bounds-self-i c = omega (arith, (net_sound _ c.args.self.passes).row_most)

pub bounds-self-i : goal.bounds-self-i
bounds-self-i c = omega (arith, (net_sound _ c.args.self.passes).row_most, network_length _ c.args.self.passes)

pub returns : goal.returns
returns c =
    let a = c.args in
    read64 _ (omega arith) ∙ sym (row_word a.self.words.now a.self.passes a.i a.j c.requires.0 c.requires.1)
