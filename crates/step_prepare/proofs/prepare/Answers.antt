-- `step_prepare::prepare` meets its contract: each part gives what the next asks. Assumes nothing.
use Rattle.whole.specs.Plain.{sym, ◌∙◌}
use Rattle.step_conduct.specs.Paper.{rated}
use Rattle.step_factors.specs.Blocks.{renewed_none}
use Rattle.step_prepare.specs.Serving.{all_free, all_wires, stops, goes}
use Rattle.step_prepare.proofs.prepare.Goals as goal

pub conduct-until-requires : goal.conduct-until-requires
conduct-until-requires c =
    let s = c.requires.known.0.stands in
    record { rated = (rated s.sound s.one s.planned s.framed, c.requires.known.2); records_len = c.requires.records_len }

pub floating-requires : goal.floating-requires
floating-requires c = let s = c.requires.known.0.stands in (all_wires s c.conduct-until.ensures, all_free s)

pub returns-in-Some : goal.returns-in-Some
returns-in-Some c = record {
  prepares = λ N n s. stops s c.conduct-until.ensures (sym c.floating.ensures ∙ c.in-Some.is);
  renewed = renewed_none _ _ c.requires.known.1;
}

pub prepare-requires : goal.prepare-requires
prepare-requires c = let s = c.requires.known.0.stands in (all_wires s c.conduct-until.ensures, all_free s, s.room, c.requires.known.1)

pub returns-clause-prepares : goal.returns-clause-prepares
returns-clause-prepares c =
    λ N n s. goes s c.conduct-until.ensures (sym c.in_default.is ∙ c.floating.ensures) c.prepare.ensures.serves
