-- `run_study::list_study` meets its contract: a network is reset, whatever stood in the room, and then listed. Assumes nothing.
use Rattle.whole.specs.Plain.{ℕ, sym, subst, refl}
use Rattle.paper.specs.Advance.{Memory, memory}
use Rattle.laws_stays.specs.Stays.{Long}
use Rattle.run_pieces.specs.Pieces.{Hand, out_bytes}
use Rattle.run_study.specs.Runs.{reset_takes}
use Rattle.run_study.proofs.list_study.Goals as goal

pub returns : goal.returns
returns g c =
    let long : Long (memory c.record_room-records.result c.store_room-froms.result c.store_room-tos.result) = record { records = sym c.record_room-records.ensures; froms = sym c.store_room-froms.ensures; tos = sym c.store_room-tos.ensures } in
    let took = reset_takes c.requires long c.reset.ensures in
    let n = c.reset.new in
    subst (λ (m : Memory). Hand c.args.network.now out_bytes m c.list_all.result) took.1
    (subst (λ (k : ℕ). Hand c.args.network.now k (memory n.records n.froms n.tos) c.list_all.result) (sym c.large_buffer-out.ensures) c.list_all.ensures.hand)

pub unwrap-requires : goal.unwrap-requires
unwrap-requires g c =
    let long : Long (memory c.record_room-records.result c.store_room-froms.result c.store_room-tos.result) = record { records = sym c.record_room-records.ensures; froms = sym c.store_room-froms.ensures; tos = sym c.store_room-tos.ensures } in
    rw (reset_takes c.requires long c.reset.ensures).0 refl
