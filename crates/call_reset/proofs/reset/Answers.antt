-- `call_reset::reset` meets its contract: 9, 8, or all zeros. Assumes nothing.
use Rattle.std.proofs.lemmas.Result.{err_from_is_err_and}
use Rattle.paper.specs.Advance.{memory}
use Rattle.call_reset.specs.Cases.{wrong_length, no_network, cleared}
use Rattle.call_reset.proofs.reset.Goals as goal

pub returns-in_err-admit : goal.returns-in_err-admit
returns-in_err-admit c =
    let p = err_from_is_err_and c.from_residual.result c.from_residual.ensures.1 in
    rw (p.1, p.2) (wrong_length c.args.network.now (memory c.args.records.now c.args.froms.now c.args.tos.now) (c.in_err-admit.ensures))

pub returns-in_err-admit-2 : goal.returns-in_err-admit-2
returns-in_err-admit-2 c =
    let p = err_from_is_err_and c.from_residual-in_err-admit-2.result c.from_residual-in_err-admit-2.ensures.1 in
    rw (p.1, p.2)
    (no_network c.args.network.now (memory c.args.records.now c.args.froms.now c.args.tos.now) (c.in_ok-admit.ensures) (c.in_err-admit-2.ensures))

pub returns : goal.returns
returns c =
    cleared c.args.network.now (memory c.args.records.now c.args.froms.now c.args.tos.now) (c.in_ok-admit.ensures) _ _ _ (c.in_ok-admit-2.ensures)
    c.clear.ensures c.clear-2.ensures c.clear-3.ensures
