use Rattle.whole.specs.Plain.{arith}
use Rattle.text_words.specs.Words.{Other, only_R, only_L, only_LINE, only_C, only_SW, only_SWT, only_VS, only_VC, only_IS, only_study, only_none}
use Rattle.text_words.proofs.candidate.Goals as goal

pub returns-then-length-eq1 : goal.returns-then-length-eq1
returns-then-length-eq1 c = only_L c.in-76.is c.if-length-eq1.true

pub returns-then-length-eq3 : goal.returns-then-length-eq3
returns-then-length-eq3 c = only_SWT c.in-83.is c.if-length-eq3.true

pub returns-then-second-eq67 : goal.returns-then-second-eq67
returns-then-second-eq67 c = only_VC c.in-86.is c.if-second-eq67.true

pub returns-in-82 : goal.returns-in-82
returns-in-82 c = only_R c.in-82.is

pub returns-else-length-eq1 : goal.returns-else-length-eq1
returns-else-length-eq1 c = only_LINE c.in-76.is c.if-length-eq1.false

pub returns-in-67 : goal.returns-in-67
returns-in-67 c = only_C c.in-67.is

pub returns-else-length-eq3 : goal.returns-else-length-eq3
returns-else-length-eq3 c = only_SW c.in-83.is c.if-length-eq3.false

pub returns-else-second-eq67 : goal.returns-else-second-eq67
returns-else-second-eq67 c = only_VS c.in-86.is c.if-second-eq67.false

pub returns-in-73 : goal.returns-in-73
returns-in-73 c = only_IS c.in-73.is

pub returns-in-97-to-122 : goal.returns-in-97-to-122
returns-in-97-to-122 c =
    let o : Other c.args.first = record { not_R = omega arith; not_L = omega arith; not_C = omega arith; not_S = omega arith; not_V = omega arith; not_I = omega arith } in
    only_study o

pub returns-in_default : goal.returns-in_default
returns-in_default c =
    let o : Other c.args.first = record { not_R = omega arith; not_L = omega arith; not_C = omega arith; not_S = omega arith; not_V = omega arith; not_I = omega arith } in
    only_none o (omega arith)

pub returns-in_default-2 : goal.returns-in_default-2
returns-in_default-2 c =
    let o : Other c.args.first = record { not_R = omega arith; not_L = omega arith; not_C = omega arith; not_S = omega arith; not_V = omega arith; not_I = omega arith } in
    only_none o (omega arith)
