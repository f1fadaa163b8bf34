-- `list_digits::put_to_four` meets its contract. Assumes nothing.
use Rattle.std.specs.Prelude.{◌≤◌, ◌<◌, ◌≡◌}
use Rattle.whole.specs.Plain.{ℕ, refl, sym, ap, length, arith}
use Rattle.paper.specs.Listing.{shown_nat}
use Rattle.list_digits.specs.Puts.{puts_as}
use Rattle.list_digits.specs.Decimal.{fixed, length_fixed, shown_exact}
use Rattle.list_digits.proofs.put_to_four.Goals as goal

four : (n : ℕ) → 1000 ≤ n → n < 10000 → shown_nat n ≡ fixed 4 n
four n l h = shown_exact 3 16 n refl l (omega arith) (omega arith) (omega arith)

pub put_four-requires : goal.put_four-requires
put_four-requires c =
    let s = c.before.before.before in
    (s.requires.0, omega (arith, s.requires.1, ap length (four s.args.n c.if-n-lt1000.false s.requires.0), length_fixed 4 s.args.n))

pub returns : goal.returns
returns c =
    let s = c.before.before.before.before.before.before in
    puts_as (sym (four s.args.n c.if-n-lt1000.false s.requires.0)) c.put_four.ensures
