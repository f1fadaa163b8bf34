-- `step_conduct::conduct` meets its contract: the first legs. Assumes nothing.
use Rattle.std.specs.Prelude.{◌≡◌}
use Rattle.whole.specs.Plain.{refl, length, arith}
use Rattle.step_conduct.specs.Conducted.{conducted_more}
use Rattle.step_conduct.proofs.conduct.Goals as goal

pub loop-leg-init : goal.loop-leg-init
loop-leg-init c =
    record { long = refl; done = λ j h. absurd (omega arith); left = λ j h. refl; stays = λ j h. absurd (omega arith); on = omega (arith, c.requires.rated.1); most = omega arith }

pub conduct_leg-until-requires : goal.conduct_leg-until-requires
conduct_leg-until-requires c = record {
  leg_rated = rw (c.loop-leg.invariant.left c.loop-leg.leg-index (omega arith)) (c.requires.rated.0.wire c.loop-leg.leg-index c.loop-leg-test.true);
  records_len = c.requires.records_len;
}

pub loop-leg-preserved : goal.loop-leg-preserved
loop-leg-preserved c = rw c.conduct_leg-until.ensures.leg_value (conducted_more c.loop-leg.invariant c.loop-leg-test.true c.conduct_leg-until.ensures.stays)

pub returns : goal.returns
returns c =
    let e : c.loop-leg.leg-index ≡ length c.args.legs.now = omega arith in
    rw e at c.loop-leg.invariant
