-- `call_list::list` meets its contract: 9, 8, then what the network says. Assumes nothing.
use Rattle.std.proofs.lemmas.Result.{err_from_is_err_and}
use Rattle.whole.specs.Plain.{length}
use Rattle.paper.specs.Advance.{memory}
use Rattle.call_lent.specs.Lengths.{lengths, fit}
use Rattle.call_network.specs.Admitted.{fit_network}
use Rattle.call_level.specs.Cases.{gives_none}
use Rattle.call_list.specs.Cases.{lists, wrong_length, no_room, no_network, on_network}
use Rattle.call_list.proofs.list.Goals as goal

pub returns-in_err-admit : goal.returns-in_err-admit
returns-in_err-admit c =
    let p = err_from_is_err_and c.from_residual.result c.from_residual.ensures.1 in
    rw (p.1, p.2)
    (lists (gives_none _ _ _ (wrong_length c.args.network.now (memory c.args.records.now c.args.froms.now c.args.tos.now) _ c.in_err-admit.ensures)))

pub returns-then-out-lt-STEP_BYTES : goal.returns-then-out-lt-STEP_BYTES
returns-then-out-lt-STEP_BYTES c =
    lists
    (gives_none _ _ _
    (no_room c.args.network.now (memory c.args.records.now c.args.froms.now c.args.tos.now) _ c.in_ok-admit.ensures c.if-out-lt-STEP_BYTES.true))

pub returns-in_err-admit-2 : goal.returns-in_err-admit-2
returns-in_err-admit-2 c =
    let p = err_from_is_err_and c.from_residual-in_err-admit-2.result c.from_residual-in_err-admit-2.ensures.1 in
    rw (p.1, p.2)
    (lists
    (gives_none _ _ _
    (no_network c.args.network.now (memory c.args.records.now c.args.froms.now c.args.tos.now) _ c.in_ok-admit.ensures c.if-out-lt-STEP_BYTES.false
    c.in_err-admit-2.ensures)))

pub on_network-requires-clause-net_value : goal.on_network-requires-clause-net_value
on_network-requires-clause-net_value c =
    let m = memory c.args.records.now c.args.froms.now c.args.tos.now in
    let l = lengths c.args.network.now m (fit c.args.network.now m c.in_ok-admit.ensures) in
    (fit_network c.args.network.now c.in_ok-admit-2.ensures, record { records_long = l.records; froms_long = l.froms; tos_long = l.tos })

pub returns : goal.returns
returns c =
    lists
    (rw
    (on_network c.args.network.now (memory c.args.records.now c.args.froms.now c.args.tos.now) (length c.args.out.now) c.in_ok-admit.ensures
    c.if-out-lt-STEP_BYTES.false c.in_ok-admit-2.ensures)
    c.on_network.ensures)
