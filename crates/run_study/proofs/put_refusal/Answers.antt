-- `run_study::put_refusal` meets its contract: the line fits. Assumes nothing.
use Rattle.whole.specs.Plain.{arith}
use Rattle.run_study.specs.Runs.{bad_short}
use Rattle.run_study.proofs.put_refusal.Goals as goal

pub put_bad-requires : goal.put_bad-requires
put_bad-requires c = omega (arith, bad_short c.unread_line.result c.unread_number.result, c.requires)
