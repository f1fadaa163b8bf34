-- `step_latch::part` meets its contract: the current that it compares with is that of the records as they stand. Assumes nothing.
use Rattle.std.specs.Prelude.{◌≡◌}
use Rattle.whole.specs.Plain.{sym, ◌∙◌, pos, eq-eqb, ne_eqb, arith, word}
use Rattle.std.proofs.Common.{rules}
use mir.Syntax.{w64}
use mir.Val.{to_z}
use mir.Facts.{to_z_pos}
use Rattle.whole.specs.Int.{read64}
use Rattle.paper.specs.Records.{current_at, latch_at}
use Rattle.paper.specs.Advance.{put_if}
use Rattle.step_latch.specs.Parting.{leg_parts, latch_put}
use Rattle.step_latch.proofs.part.Goals as goal

pub returns-then-l-ne-SW : goal.returns-then-l-ne-SW
unfolding leg_parts latch_put put_if
returns-then-l-ne-SW c = let n = ne_eqb c.args.l.kind 5 c.if-l-ne-SW.true in record { value = rw n; records_value = rw n }

pub returns-then-not-parts : goal.returns-then-not-parts
unfolding leg_parts latch_put put_if
returns-then-not-parts c =
    let row = c.args.l.row in
    let v = rw (
      read64 (word c.args.records.now (current_at row)) c.last-1.given,
      read64 c.args.l.current (search rules),
      read64 (word c.args.records.now (latch_at row)) c.latch-1.given,
    ) at c.parts.ensures in
    let e = sym v ∙ c.if-not-parts.true in
    let n = eq-eqb c.args.l.kind 5 c.if-l-ne-SW.false in
    record { value = rw (n, e); records_value = rw (n, e) }

pub returns : goal.returns
unfolding leg_parts latch_put put_if
returns c =
    let row = c.args.l.row in
    let v = rw (
      read64 (word c.args.records.now (current_at row)) c.last-1.given,
      read64 c.args.l.current (search rules),
      read64 (word c.args.records.now (latch_at row)) c.latch-1.given,
    ) at c.parts.ensures in
    let e = sym v ∙ c.if-not-parts.false in
    let n = eq-eqb c.args.l.kind 5 c.if-l-ne-SW.false in
    let k : to_z w64 c.args.k ≡ pos c.args.k = to_z_pos w64 (omega arith) in
    record { value = rw (n, e); records_value = rw (n, e, k) }
