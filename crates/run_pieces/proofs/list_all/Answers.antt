-- `run_pieces::list_all` meets its contract. Assumes nothing.
use Rattle.whole.specs.Plain.{refl, sym, ◌∙◌, arith}
use Rattle.run_pieces.specs.Pieces.{going_none, going_on, going_ends, going_breaks, going_full}
use Rattle.run_pieces.proofs.list_all.Goals as goal

pub loop-before-init : goal.loop-before-init
loop-before-init g c = record { long = refl; going = going_none _ _ _ }

-- the output did not take the piece
pub returns-in-Err : goal.returns-in-Err
returns-in-Err g c =
    let v = c.loop-before.invariant in
    going_breaks v.going v.long c.list_piece.ensures _ refl

-- nothing is listed
pub returns-in_default : goal.returns-in_default
returns-in_default g c =
    let v = c.loop-before.invariant in
    going_ends v.going v.long c.list_piece.ensures c.in-Ok.is (λ e. let q = sym c.in_default.is ∙ e in cc)

-- the last piece
pub returns-in_default-pause : goal.returns-in_default-pause
returns-in_default-pause g c =
    let v = c.loop-before.invariant in
    going_ends v.going v.long c.list_piece.ensures (cc) (λ e. c.in_default-pause.not-More (cc))

pub loop-before-preserved : goal.loop-before-preserved
loop-before-preserved g c =
    let v = c.loop-before.invariant in
    record { long = c.list_piece.auto.out ∙ v.long; going = going_on v.going v.long c.list_piece.ensures (cc) }

pub returns : goal.returns
returns g c = going_full c.loop-before.before (omega arith) (omega arith) c.loop-before.invariant.going
