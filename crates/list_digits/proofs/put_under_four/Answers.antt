-- `list_digits::put_under_four` meets its contract: one digit or two, or one and two. Assumes nothing.
use Rattle.std.specs.Prelude.{◌-◌, ◌*◌, ◌/◌, ◌≤◌, ◌<◌, ◌≡◌}
use Rattle.whole.specs.Plain.{ℕ, refl, arith}
use Rattle.paper.specs.Listing.{shown_nat}
use Rattle.list_digits.specs.Puts.{Parts, room_first, room_second, both_put}
use Rattle.list_digits.specs.Decimal.{fixed, length_fixed, exact_cut}
use Rattle.list_digits.proofs.put_under_four.Goals as goal

three : (n q : ℕ) → 100 ≤ n → n < 1000 → q ≡ n / 100 → Parts (shown_nat n) (fixed 1 q) (fixed 2 (n - 100 * q))
three n q l h e = exact_cut 2 n e (omega arith) 17 refl l (omega arith) (omega arith) (omega arith)

pub put_digit-next-requires : goal.put_digit-next-requires
put_digit-next-requires c =
    let s = c.before.before.before.before in
    let q = c.hundreds-lead in
    (omega (arith, s.requires.0, q.ensures), omega (arith, room_first (three s.args.n q.result c.if-n-lt100.false s.requires.0 q.ensures) s.args.at _ s.requires.1, length_fixed 1 q.result))

pub put_pair-requires : goal.put_pair-requires
put_pair-requires c =
    let s = c.before.before.before.before.before.before.before.before in
    let q = c.hundreds-lead in
    let t = three s.args.n q.result c.if-n-lt100.false s.requires.0 q.ensures in
    (omega (arith, q.ensures), omega (arith, room_second t s.requires.1 c.put_digit-next.ensures, length_fixed 2 (s.args.n - 100 * q.result)))

pub returns : goal.returns
returns c =
    let s = c.before.before.before.before.before.before.before.before.before.before.before in
    let q = c.hundreds-lead in
    both_put (three s.args.n q.result c.if-n-lt100.false s.requires.0 q.ensures) c.put_digit-next.ensures c.put_pair.ensures
