-- `call_judge::judge` meets its contract: 9, 8, then what the network says. Assumes nothing.
use Rattle.std.proofs.lemmas.Result.{err_from_is_err_and}
use Rattle.paper.specs.Advance.{memory}
use Rattle.paper.specs.One.{Advances}
use Rattle.call_lent.specs.Lengths.{lengths, fit}
use Rattle.call_network.specs.Admitted.{fit_network}
use Rattle.call_judge.specs.Cases.{wrong_length, no_network, on_network}
use Rattle.call_judge.specs.Judging.{OnNet, judged_on}
use Rattle.call_judge.proofs.judge.Goals as goal

pub returns-in_err-admit : goal.returns-in_err-admit
returns-in_err-admit c =
    let p = err_from_is_err_and c.from_residual.result c.from_residual.ensures.1 in
    rw (p.1, p.2) (wrong_length c.args.network.now c.args.area (memory c.args.records.now c.args.froms.now c.args.tos.now) c.in_err-admit.ensures)

pub returns-in_err-admit-2 : goal.returns-in_err-admit-2
returns-in_err-admit-2 c =
    let p = err_from_is_err_and c.from_residual-in_err-admit-2.result c.from_residual-in_err-admit-2.ensures.1 in
    rw (p.1, p.2)
    (no_network c.args.network.now c.args.area (memory c.args.records.now c.args.froms.now c.args.tos.now) c.in_ok-admit.ensures c.in_err-admit-2.ensures)

pub on_network-requires-clause-passes : goal.on_network-requires-clause-passes
on_network-requires-clause-passes c =
    let m = memory c.args.records.now c.args.froms.now c.args.tos.now in
    let l = lengths c.args.network.now m (fit c.args.network.now m c.in_ok-admit.ensures) in
    (fit_network c.args.network.now c.in_ok-admit-2.ensures, record { records_long = l.records; froms_long = l.froms; tos_long = l.tos })

pub returns : goal.returns
returns c =
    let net = c.args.network.now in
    let m = memory c.args.records.now c.args.froms.now c.args.tos.now in
    judged_on (OnNet net c.args.area m) (Advances net c.args.area m) net c.args.area m _ _ _
    (λ x n q. on_network net c.args.area m c.in_ok-admit.ensures x n c.in_ok-admit-2.ensures q) c.on_network.ensures
