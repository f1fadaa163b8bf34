-- `call_read::read` meets its contract: 9, 7, the first faulty line, or the record. Assumes nothing.
use Rattle.call_read.specs.Ways.{wrong_store, too_long, wrong_line, right_text}
use Rattle.call_read.proofs.read.Goals as goal

pub returns-then-network-ne-NETWORK : goal.returns-then-network-ne-NETWORK
returns-then-network-ne-NETWORK c = wrong_store c.args.text.now c.args.network.now c.if-network-ne-NETWORK.true

pub returns-then-text-gt-TEXT : goal.returns-then-text-gt-TEXT
returns-then-text-gt-TEXT c = too_long c.args.text.now c.args.network.now c.if-network-ne-NETWORK.false c.if-text-gt-TEXT.true

pub returns-in-Err : goal.returns-in-Err
returns-in-Err c = wrong_line c.args.text.now c.args.network.now c.if-network-ne-NETWORK.false c.if-text-gt-TEXT.false c.in-Err.bad c.in-Err.ensures

pub returns : goal.returns
returns c =
    rw c.copy_from_slice.ensures.after
    (right_text c.args.text.now c.args.network.now c.if-network-ne-NETWORK.false c.if-text-gt-TEXT.false _ c.in_default.ensures)
