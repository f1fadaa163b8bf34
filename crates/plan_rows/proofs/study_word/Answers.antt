-- `plan_rows::study_word` meets its contract. Assumes nothing.
use Rattle.whole.specs.Plain.{sym, ◌∙◌, arith}
use Rattle.whole.specs.Int.{read64}
use Rattle.laws_facts.specs.Nets.{network_length, head_word}
use Rattle.plan_rows.proofs.study_word.Goals as goal

pub bounds-net-j : goal.bounds-net-j
bounds-net-j c = omega (arith, network_length c.args.net.words.now c.args.net.passes, c.requires)

pub returns : goal.returns
returns c =
    read64 _ (omega arith) ∙ sym (head_word c.args.net.words.now c.args.net.passes c.args.j c.requires)
