-- A state that was judged to be in step. Assumes nothing.
use Rattle.std.specs.Prelude.{◌≡◌, ◌&&◌}
use Rattle.whole.specs.Plain.{true, Words}
use Rattle.whole.specs.Folds.{and_left, and_right}
use Rattle.paper.specs.Network.{is_network}
use Rattle.paper.specs.Records.{well_formed}
use Rattle.paper.specs.Advance.{Memory}
use Rattle.paper.specs.Pieces.{steps_taken, level}
use Rattle.laws_facts.specs.Nets.{net_in}
use Rattle.laws_pieces.specs.Level.{level_counts}
use Rattle.call_state.specs.Judged.{Long}
use Rattle.list_round.specs.Round.{InStep}

pub level_here : (net : Words) (m : Memory) → is_network net ≡ true → Long m.records m.froms m.tos
    → (well_formed (net_in net) m.records m.froms m.tos && level (net_in net) m.records) ≡ true → InStep net (steps_taken (net_in net) m.records) m
level_here net m n l e =
    let N = net_in net in
    let good = well_formed N m.records m.froms m.tos in
    record {
      network = n;
      level =
          record {
            inv = record { long = record { records = l.records_long; froms = l.froms_long; tos = l.tos_long }; good = and_left good (level N m.records) e };
            counts = level_counts net n m.records (and_right good (level N m.records) e);
          };
    }
