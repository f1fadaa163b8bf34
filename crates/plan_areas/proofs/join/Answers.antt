-- `plan_areas::join` meets its contract: what is stored is the lower of the two marks. Assumes nothing.
use Rattle.whole.specs.Plain.{arith}
use Rattle.plan_areas.specs.Marks.{join_moves}
use Rattle.plan_areas.proofs.join.Goals as goal

pub returns : goal.returns
returns c =
    let a = c.args in
    join_moves a.area.now a.one a.two c.min-low.result (omega arith) (omega arith) c.min-low.ensures
