-- `step_send::send_leg` meets its contract: the row's slots are as the plan has them. Assumes nothing.
use Rattle.std.proofs.Common.{rules}
use Rattle.whole.specs.Plain.{sym, ◌∙◌, eq-eqb, ne_eqb}
use Rattle.whole.specs.Int.{read64}
use Rattle.paper.specs.Advance.{put_if}
use Rattle.step_legs.specs.Side.{from_is, to_is}
use Rattle.step_send.specs.Stores.{sent_put}
use Rattle.step_send.proofs.send_leg.Goals as goal

pub returns-in-From : goal.returns-in-From
unfolding sent_put put_if
returns-in-From c =
    let l = eq-eqb _ 4 c.if-l-eq-LINE.true in
    let n = from_is c.args.l.end (sym c.side.ensures ∙ c.in-From.is) in
    record { froms_value = rw (l, n) (rw (read64 c.args.l.passed (search rules)) at c.put_sent.ensures); tos_value = rw (l, n) }

pub returns-in-To : goal.returns-in-To
unfolding sent_put put_if
returns-in-To c =
    let l = eq-eqb _ 4 c.if-l-eq-LINE.true in
    let n = to_is c.args.l.end (sym c.side.ensures ∙ c.in-To.is) in
    record { froms_value = rw (l, n); tos_value = rw (l, n) (rw (read64 c.args.l.passed (search rules)) at c.put_sent-in-To.ensures) }

pub returns-else-l-eq-LINE : goal.returns-else-l-eq-LINE
unfolding sent_put put_if
returns-else-l-eq-LINE c = let n = ne_eqb _ 4 c.if-l-eq-LINE.false in record { froms_value = rw n; tos_value = rw n }
