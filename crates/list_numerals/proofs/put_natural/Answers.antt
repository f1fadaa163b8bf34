-- `list_numerals::put_natural` meets its contract: up to sixteen digits, or these and eight. Assumes nothing.
use Rattle.std.specs.Prelude.{◌-◌, ◌*◌, ◌/◌}
use Rattle.whole.specs.Plain.{arith}
use Rattle.list_digits.specs.Puts.{room_first, room_second, both_put}
use Rattle.list_digits.specs.Decimal.{length_fixed}
use Rattle.list_numerals.specs.Eights.{eight_more}
use Rattle.list_numerals.proofs.put_natural.Goals as goal

pub put_to_sixteen-next-requires : goal.put_to_sixteen-next-requires
put_to_sixteen-next-requires c =
    let n = c.args.n in
    (omega arith, room_first (eight_more n (omega arith) c.ranges.n.fits) c.args.at _ c.requires)

pub put_eight-requires : goal.put_eight-requires
put_eight-requires c =
    let n = c.args.n in
    (omega arith, omega (arith, room_second (eight_more n (omega arith) c.ranges.n.fits) c.requires c.put_to_sixteen-next.ensures, length_fixed 8 (n - 100000000 * (n / 100000000))))

pub returns : goal.returns
returns c = both_put (eight_more c.args.n (omega arith) c.ranges.n.fits) c.put_to_sixteen-next.ensures c.put_eight.ensures
