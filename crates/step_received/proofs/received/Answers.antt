-- `step_received::received` meets its contract: the part is read as the store is. Assumes nothing.
use Rattle.whole.specs.Plain.{◌∙◌, ap, length, arith}
use Rattle.whole.specs.Int.{read64}
use Rattle.step_received.specs.Received.{part_length, part_heard}
use Rattle.step_received.proofs.received.Goals as goal

pub sent-requires : goal.sent-requires
sent-requires c =
    let a = c.args in
    omega (arith, ap length c.far-part.ensures ∙ part_length a.side a.froms.now a.tos.now a.start a.slots c.requires.1.0 c.requires.1.1)

pub returns : goal.returns
returns c =
    let a = c.args in
    let p = c.requires in
    let e = ap length c.far-part.ensures ∙ part_length a.side a.froms.now a.tos.now a.start a.slots p.1.0 p.1.1 in
    read64 _ c.sent.type_inv ∙ c.sent.ensures
    ∙ rw (e, c.far-part.ensures) (part_heard a.side a.froms.now a.tos.now a.start a.slots p.1.0 p.1.1 a.k a.d p.0)
