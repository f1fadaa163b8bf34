-- `step_histories::sent` meets its contract: the end's side reads the far store. Assumes nothing.
use Rattle.whole.specs.Int.{read64}
use Rattle.step_histories.specs.Heard.{sent_by}
use Rattle.step_histories.proofs.sent.Goals as goal

pub returns : goal.returns
unfolding sent_by
returns c = rw (read64 c.received.result c.received.type_inv) c.received.ensures
