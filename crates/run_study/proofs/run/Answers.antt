-- `run_study::run` meets its contract: what is read is a network, or the text is refused. Assumes nothing.
use Rattle.std.proofs.Common.{rules}
use Rattle.whole.specs.Plain.{sym, ◌∙◌}
use Rattle.run_study.specs.Runs.{read_network}
use Rattle.run_study.proofs.run.Goals as goal

pub list_study-requires : goal.list_study-requires
list_study-requires g c = rw c.read.ensures.network (read_network _ (sym c.read.ensures.answer ∙ search rules))
