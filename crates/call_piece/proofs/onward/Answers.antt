-- `call_piece::onward` meets its contract: the tables of all areas, and the piece from these. Assumes nothing.
use Rattle.call_piece.specs.Laid.{begins}
use Rattle.call_piece.proofs.onward.Goals as goal

pub steps_on-requires-clause-beginning : goal.steps_on-requires-clause-beginning
steps_on-requires-clause-beginning c = record {
  net = c.args.net.now;
  begins = begins c.args.net.now c.requires.of.0 c.lay_all.ensures.laid c.lay_all.ensures.unprepared c.requires.in_step;
}

pub returns : goal.returns
returns c =
    c.steps_on.ensures.of c.args.net.now
    (begins c.args.net.now c.requires.of.0 c.lay_all.ensures.laid c.lay_all.ensures.unprepared c.requires.in_step)
