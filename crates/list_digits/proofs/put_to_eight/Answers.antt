-- `list_digits::put_to_eight` meets its contract: up to four digits, or these and four. Assumes nothing.
use Rattle.std.specs.Prelude.{◌-◌, ◌*◌, ◌/◌, ◌^◌, ◌≤◌, ◌<◌, ◌≡◌}
use Rattle.whole.specs.Plain.{ℕ, refl, arith}
use Rattle.paper.specs.Listing.{shown_nat}
use Rattle.list_digits.specs.Puts.{Parts, room_first, room_second, both_put}
use Rattle.list_digits.specs.Decimal.{fixed, length_fixed, shown_cut}
use Rattle.list_digits.proofs.put_to_eight.Goals as goal

more : (n q : ℕ) → 10000 ≤ n → n < 10 ^ 8 → q ≡ n / 10 ^ 4 → Parts (shown_nat n) (shown_nat q) (fixed 4 (n - 10000 * q))
more n q l h e = shown_cut 4 n e (omega arith) 15 refl l (omega arith) (omega arith)

pub put_to_four-next-requires : goal.put_to_four-next-requires
put_to_four-next-requires c =
    let s = c.before.before.before.before in
    let q = c.ten_thousands-lead in
    (omega (arith, s.requires.0, q.ensures), room_first (more s.args.n q.result c.if-n-lt10000.false s.requires.0 q.ensures) s.args.at _ s.requires.1)

pub put_four-requires : goal.put_four-requires
put_four-requires c =
    let s = c.before.before.before.before.before.before.before.before in
    let q = c.ten_thousands-lead in
    let t = more s.args.n q.result c.if-n-lt10000.false s.requires.0 q.ensures in
    (omega (arith, q.ensures), omega (arith, room_second t s.requires.1 c.put_to_four-next.ensures, length_fixed 4 (s.args.n - 10000 * q.result)))

pub returns : goal.returns
returns c =
    let s = c.before.before.before.before.before.before.before.before.before.before.before in
    let q = c.ten_thousands-lead in
    both_put (more s.args.n q.result c.if-n-lt10000.false s.requires.0 q.ensures) c.put_to_four-next.ensures c.put_four.ensures
