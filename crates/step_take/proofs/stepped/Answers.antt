-- `step_take::stepped` meets its contract: a try that fails writes nothing, and one that passes is written as the definition says. Assumes nothing.
use Rattle.std.proofs.lemmas.Result.{err_from_is_err_and}
use Rattle.whole.specs.Plain.{ap}
use Rattle.paper.specs.Answers.{accepted}
use Rattle.step_take.specs.Stepping.{tried_at, not_taken, stayed, asked, came}
use Rattle.step_take.proofs.stepped.Goals as goal

pub returns-in_err-tried : goal.returns-in_err-tried
returns-in_err-tried c =
    let t = c.try_step-tried.ensures in
    let p = err_from_is_err_and c.from_residual.result c.from_residual.ensures.1 in
    record { of = λ N low high owns R. rw (p.1, p.2) (stayed R t.same_but (rw c.in_err-tried.was at (not_taken N _ _ _ _ _ (tried_at R c.at_of.ensures t.tries).tried (ap accepted c.in_err-tried.was)))) }

pub commit-parted-requires : goal.commit-parted-requires
commit-parted-requires c =
    let t = c.try_step-tried.ensures in
    let q = asked c.requires.ready t.same_but (tried_at c.requires.ready c.at_of.ensures t.tries) (ap accepted c.in_ok-tried.was) in
    record { recordable = q.0; sendable = q.1 }

pub returns : goal.returns
returns c =
    let t = c.try_step-tried.ensures in
    let q = c.commit-parted.ensures in
    record { of = λ N low high owns R. came R t.same_but (tried_at R c.at_of.ensures t.tries) (ap accepted c.in_ok-tried.was) q.records_value q.froms_value q.tos_value q.unparted }
