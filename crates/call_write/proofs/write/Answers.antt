-- `call_write::write` meets its contract: 9, 8, or the text. Assumes nothing.
use Rattle.std.proofs.lemmas.Result.{err_from_is_err_and}
use Rattle.whole.specs.Plain.{arith}
use Rattle.call_network.specs.Admitted.{fit_network}
use Rattle.call_write.specs.Cases.{no_room, refused, text_room, wrote}
use Rattle.call_write.proofs.write.Goals as goal

pub returns-then-out-lt-STUDY_BYTES : goal.returns-then-out-lt-STUDY_BYTES
returns-then-out-lt-STUDY_BYTES c = no_room c.args.network.now c.args.out.now (omega (arith, c.if-out-lt-STUDY_BYTES.true))

pub returns-in_err-admit : goal.returns-in_err-admit
returns-in_err-admit c =
    let p = err_from_is_err_and c.from_residual.result c.from_residual.ensures.1 in
    rw (p.1, p.2) (refused c.args.network.now c.args.out.now c.if-out-lt-STUDY_BYTES.false c.in_err-admit.ensures)

pub put_study-bytes-requires : goal.put_study-bytes-requires
put_study-bytes-requires c =
    let passes = fit_network c.args.network.now c.in_ok-admit.ensures in
    (passes, text_room c.args.network.now c.args.out.now c.if-out-lt-STUDY_BYTES.false passes)

pub returns : goal.returns
returns c =
    wrote c.args.network.now c.args.out.now c.if-out-lt-STUDY_BYTES.false (fit_network c.args.network.now c.in_ok-admit.ensures) c.put_study-bytes.ensures
