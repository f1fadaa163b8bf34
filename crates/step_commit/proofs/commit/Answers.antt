-- `step_commit::commit` meets its contract: each part writes its own. Assumes nothing.
use Rattle.step_records.specs.Records.{begun_latches}
use Rattle.step_commit.proofs.commit.Goals as goal

pub returns : goal.returns
returns c =
    let a = c.args in
    let r = c.requires.recordable in
    let e = c.put_legs.ensures in
    record {
      records_value = rw c.put_area.ensures at e.records_value;
      unparted = begun_latches a.nodes.now a.v.now a.records.now a.area a.k r.nodes_end r.area_least_lem r.area_most_lem (rw c.put_area.ensures at e.unparted);
      froms_value = e.froms_value;
      tos_value = e.tos_value;
    }
