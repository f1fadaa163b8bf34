-- `call_shape::areas` meets its contract. Assumes nothing.
use Rattle.std.specs.Prelude.{Ok}
use Rattle.std.proofs.lemmas.Result.{err_from_is_err_and}
use Rattle.whole.specs.Plain.{sym, ap, ◌∙◌}
use Rattle.plan_rows.specs.declared.Totals.{Totals}
use Rattle.call_network.specs.Admitted.{fit_network}
use Rattle.call_shape.specs.Asked.{areas_in}
use Rattle.call_shape.specs.LaidOut.{refuses, laid_out}
use Rattle.call_shape.proofs.areas.Goals as goal

pub returns-in_err-admit : goal.returns-in_err-admit
returns-in_err-admit c =
    let p = err_from_is_err_and c.from_residual.result c.from_residual.ensures.1 in
    rw (p.1, p.2) (sym (refuses c.args.network.now c.in_err-admit.ensures areas_in))

pub make-totals-requires-clause-net_value : goal.make-totals-requires-clause-net_value
make-totals-requires-clause-net_value c = fit_network c.args.network.now c.in_ok-admit.ensures

pub returns : goal.returns
unfolding areas_in
returns c = let l = laid_out c.in_ok-admit.ensures c.make-totals.ensures.planned c.make-totals.ensures.value in ap (λ (t : Totals). Ok t.areas) l.counts ∙ sym (l.asked areas_in)
