-- `call_node::node` meets its contract: 9, 8, and the rest of a network that passes. Assumes nothing.
use Rattle.std.proofs.lemmas.Result.{err_from_is_err_and}
use Rattle.call_network.specs.Admitted.{fit_network}
use Rattle.call_node.specs.Cases.{other_length, refused, passes}
use Rattle.call_node.proofs.node.Goals as goal

pub returns-then-records-ne-RECORDS : goal.returns-then-records-ne-RECORDS
returns-then-records-ne-RECORDS c = record { answer = rw (other_length c.args.network.now c.args.records.now c.args.n c.if-records-ne-RECORDS.true) }

pub returns-in_err-admit : goal.returns-in_err-admit
returns-in_err-admit c =
    let p = err_from_is_err_and c.from_residual.result c.from_residual.ensures.1 in
    record { answer = rw (p.1, p.2, refused c.args.network.now c.args.records.now c.args.n c.if-records-ne-RECORDS.false c.in_err-admit.ensures) }

pub on_network-requires : goal.on_network-requires
on_network-requires c = (fit_network c.args.network.now c.in_ok-admit.ensures, c.if-records-ne-RECORDS.false)

pub returns : goal.returns
returns c =
    record { answer = rw (passes c.args.network.now c.args.records.now c.args.n c.if-records-ne-RECORDS.false c.in_ok-admit.ensures) c.on_network.ensures }
