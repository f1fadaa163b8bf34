-- `emt::emt_advance_in_tables` meets its contract: 9 for a room of another size, else what `advance_in` answers. Assumes nothing.
use Rattle.std.specs.Prelude.{◌+◌}
use Rattle.whole.specs.Plain.{ap, ◌∙◌}
use Rattle.paper.specs.Answers.{advance_number, advance_place, advance_count}
use Rattle.emt.specs.Numbered.{other_room, right_room}
use Rattle.emt.proofs.emt_advance_in_tables.Goals as goal

pub returns-then-room-ne-ROOM_BYTES : goal.returns-then-room-ne-ROOM_BYTES
returns-then-room-ne-ROOM_BYTES c = other_room _ _ _ c.if-room-ne-ROOM_BYTES.true c.advance_number.ensures

pub returns : goal.returns
returns c =
    let r = c.advance_in-told.ensures in
    right_room _ _ _ c.if-room-ne-ROOM_BYTES.false
    (record { answer = c.advance_number-2.ensures ∙ ap advance_number r.answer; place_of = c.place_or_count.ensures ∙ ap (λ x. advance_place x + advance_count x) r.answer; memory = r.memory })
