-- `call_shape::row` meets its contract: the plan's numbers of branches are the paper's. Assumes nothing.
use Rattle.std.proofs.lemmas.Result.{err_from_is_err_and}
use Rattle.whole.specs.Plain.{sym, ap, ◌∙◌, lt-leb, arith}
use Rattle.laws_facts.proofs.Nets.{net_sound}
use Rattle.plan_rows.specs.declared.Totals.{Totals}
use Rattle.call_network.specs.Admitted.{fit_network}
use Rattle.call_shape.specs.Asked.{branch_row, row_in, or_nothing, place_in, told_place, told_nothing}
use Rattle.call_shape.specs.LaidOut.{refuses, laid_out, place_is}
use Rattle.call_shape.proofs.row.Goals as goal

pub returns-in_err-admit : goal.returns-in_err-admit
returns-in_err-admit c =
    let p = err_from_is_err_and c.from_residual.result c.from_residual.ensures.1 in
    rw (p.1, p.2) (sym (refuses c.args.network.now c.in_err-admit.ensures (λ N. row_in N c.args.branch)))

pub make-totals-requires-clause-net_value : goal.make-totals-requires-clause-net_value
make-totals-requires-clause-net_value c = fit_network c.args.network.now c.in_ok-admit.ensures

pub returns-then-branch-lt1 : goal.returns-then-branch-lt1
unfolding row_in branch_row
returns-then-branch-lt1 c = sym ((laid_out c.in_ok-admit.ensures c.make-totals.ensures.planned c.make-totals.ensures.value).asked (λ N. row_in N c.args.branch) ∙ rw (lt-leb 1 c.args.branch c.if-branch-lt1.true))

pub place_of-requires : goal.place_of-requires
place_of-requires c =
    let l = laid_out c.in_ok-admit.ensures c.make-totals.ensures.planned c.make-totals.ensures.value in
    omega (arith, ap (λ (t : Totals). t.rows) l.counts, (net_sound c.args.network.now l.network).row_most)

pub overflow_add-result : goal.overflow_add-result
overflow_add-result c =
    let l = laid_out c.in_ok-admit.ensures c.make-totals.ensures.planned c.make-totals.ensures.value in
    record { fits = omega (arith, place_in _ _ _ c.in-Some.ensures, ap (λ (t : Totals). t.rows) l.counts, (net_sound c.args.network.now l.network).row_most) }

pub returns-in_default : goal.returns-in_default
unfolding row_in
returns-in_default c =
    let l = laid_out c.in_ok-admit.ensures c.make-totals.ensures.planned c.make-totals.ensures.value in
    told_nothing _ c.in_default.ensures ∙ (ap or_nothing (place_is c.args.branch l c.if-branch-lt1.false) ∙ sym (l.asked (λ N. row_in N c.args.branch)))

pub returns : goal.returns
unfolding row_in
returns c =
    let l = laid_out c.in_ok-admit.ensures c.make-totals.ensures.planned c.make-totals.ensures.value in
    told_place _ c.in-Some.ensures ∙ (ap or_nothing (place_is c.args.branch l c.if-branch-lt1.false) ∙ sym (l.asked (λ N. row_in N c.args.branch)))
