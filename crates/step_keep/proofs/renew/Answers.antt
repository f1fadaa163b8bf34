-- `step_keep::renew` meets its contract. Assumes nothing.
use Rattle.whole.specs.Plain.{refl}
use Rattle.step_keep.specs.Tabled.{renews_none, renews_stop, renews_on}
use Rattle.step_keep.proofs.renew.Goals as goal

pub returns-then-k-o : goal.returns-then-k-o
returns-then-k-o c = renews_none refl c.if-k-o.true

pub returns-in-Ok : goal.returns-in-Ok
returns-in-Ok c = let p = c.prepare.ensures in renews_on refl c.if-k-o.false p.prepares p.renewed c.in-Ok.is refl

pub returns-in-Err : goal.returns-in-Err
returns-in-Err c = let p = c.prepare.ensures in renews_stop refl c.if-k-o.false p.prepares p.renewed c.in-Err.is
