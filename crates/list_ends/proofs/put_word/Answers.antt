-- `list_ends::put_word` meets its contract: a byte more at each turn. Assumes nothing.
use Rattle.std.specs.Prelude.{◌+◌, ◌<◌, ◌≡◌, length, get_or}
use Rattle.std.proofs.Common.{add-one, arith}
use Rattle.std.proofs.Math.Seq.{take-suc, take_all}
use Rattle.list_digits.specs.Puts.{puts_none, puts_one, puts_then, puts_as, puts_length}
use Rattle.list_ends.proofs.put_word.Goals as goal

pub loop-i-init : goal.loop-i-init
loop-i-init c = let e : c.args.at + 0 ≡ c.args.at = omega arith in rw e (puts_none c.args.out.now c.args.at)

pub bounds-out-at : goal.bounds-out-at
bounds-out-at c = omega (arith, c.requires, puts_length c.loop-i.invariant)

pub loop-i-preserved : goal.loop-i-preserved
loop-i-preserved c =
    let i = c.loop-i.i in
    let w = c.args.word.now in
    let h : i < length w = omega arith in
    let e : c.args.at + (i + 1) ≡ c.args.at + i + 1 = omega arith in
    rw (e, add-one, take-suc w i 0 h) (puts_then c.loop-i.invariant (puts_one c.loop-i.out (c.args.at + i) (get_or w i 0)))

pub returns : goal.returns
returns c =
    let w = c.args.word.now in
    let e : c.loop-i.i ≡ length w = omega arith in
    rw e at (puts_as (take_all c.loop-i.i w (omega arith)) c.loop-i.invariant)
