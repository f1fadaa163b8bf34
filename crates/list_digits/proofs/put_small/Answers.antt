-- `list_digits::put_small` meets its contract: the tens where there are any, and the ones. Assumes nothing.
use Rattle.std.specs.Prelude.{◌+◌, ◌%◌}
use Rattle.whole.specs.Plain.{arith}
use Rattle.list_digits.specs.Puts.{puts_one, room_first, room_second, both_put, puts_length}
use Rattle.list_digits.specs.Pairs.{small_parts}
use Rattle.list_digits.proofs.put_small.Goals as goal

pub put_tens-next-requires : goal.put_tens-next-requires
put_tens-next-requires c = let s = c.before.before in (s.requires.0, room_first (small_parts s.args.n s.requires.0) s.args.at _ s.requires.1)

pub bounds-out-next : goal.bounds-out-next
bounds-out-next c =
    let s = c.before.before.before.before.before.before in
    omega (arith, room_second (small_parts s.args.n s.requires.0) s.requires.1 c.put_tens-next.ensures)

pub overflow_add-result : goal.overflow_add-result
overflow_add-result c =
    let s = c.before.before.before.before.before.before in
    let p = c.put_tens-next.ensures in
    record { fits = omega (arith, room_second (small_parts s.args.n s.requires.0) s.requires.1 p, puts_length p) }

pub returns : goal.returns
returns c =
    let p = c.put_tens-next in
    both_put (small_parts c.args.n c.requires.0) p.ensures (rw c.ones_of.ensures (puts_one _ p.result (48 + c.args.n % 10)))
