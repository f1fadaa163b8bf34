-- `list_numerals::put_to_sixteen` meets its contract: up to eight digits, or these and eight. Assumes nothing.
use Rattle.std.specs.Prelude.{◌-◌, ◌*◌, ◌/◌}
use Rattle.whole.specs.Plain.{arith}
use Rattle.list_digits.specs.Puts.{room_first, room_second, both_put}
use Rattle.list_digits.specs.Decimal.{length_fixed}
use Rattle.list_numerals.specs.Eights.{eight_more}
use Rattle.list_numerals.proofs.put_to_sixteen.Goals as goal

pub put_to_eight-next-requires : goal.put_to_eight-next-requires
put_to_eight-next-requires c =
    let n = c.args.n in
    (omega arith, room_first (eight_more n (omega arith) c.ranges.n.fits) c.args.at _ c.requires.1)

pub put_eight-requires : goal.put_eight-requires
put_eight-requires c =
    let n = c.args.n in
    (omega arith, omega (arith, room_second (eight_more n (omega arith) c.ranges.n.fits) c.requires.1 c.put_to_eight-next.ensures, length_fixed 8 (n - 100000000 * (n / 100000000))))

pub returns : goal.returns
returns c = both_put (eight_more c.args.n (omega arith) c.ranges.n.fits) c.put_to_eight-next.ensures c.put_eight.ensures
