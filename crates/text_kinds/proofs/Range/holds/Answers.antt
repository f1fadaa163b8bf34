use Rattle.std.proofs.Common.{rules}
use Rattle.whole.specs.Plain.{between}
use Rattle.whole.specs.Reads.{le_read}
use Rattle.text_kinds.proofs.Range.holds.Goals as goal

pub returns : goal.returns
unfolding between
returns c =
    let r = c.args.self.now in
    rw (le_read r.low c.args.x (search rules) c.ranges.x, le_read c.args.x r.high c.ranges.x (search rules))
