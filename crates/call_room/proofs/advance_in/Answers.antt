-- `call_room::advance_in` meets its contract: what is refused before, or the step, from lent tables that are cleared. Assumes nothing.
use Rattle.std.proofs.lemmas.Result.{err_from_is_err_and}
use Rattle.whole.specs.Plain.{refl, ap, [], length, get_or-replicate}
use Rattle.call_room.proofs.advance_in.Goals as goal

pub returns-in_err-ready : goal.returns-in_err-ready
returns-in_err-ready c =
    let p = err_from_is_err_and c.from_residual.result c.from_residual.ensures.1 in
    rw (p.1, p.2) c.in_err-ready.ensures

pub alone-requires-clause-legs_len : goal.alone-requires-clause-legs_len
alone-requires-clause-legs_len c = (refl, record { lines = refl; line = λ q h. ap length (get_or-replicate 32 q _ [] h) })

pub returns : goal.returns
returns c = c.in_ok-ready.ensures.ends _ _ c.alone.ensures
