-- `step_records::put_area` meets its contract. Assumes nothing.
use Rattle.std.specs.Prelude.{◌≡◌}
use Rattle.whole.specs.Plain.{pos, arith}
use mir.Syntax.{w64}
use mir.Val.{to_z}
use mir.Facts.{to_z_pos}
use Rattle.step_records.specs.Records.{area_put}
use Rattle.step_records.proofs.put_area.Goals as goal

pub returns : goal.returns
unfolding area_put
returns c =
    let one : to_z w64 c.args.k ≡ pos c.args.k = to_z_pos w64 (omega arith) in
    rw one at c.put_nodes.ensures
