-- `list_line::spell` meets its contract. Assumes nothing.
use Rattle.std.specs.Prelude.{◌≡◌}
use Rattle.whole.specs.Plain.{◌∙◌, length, length-set, arith}
use Rattle.list_digits.specs.Puts.{puts_one, puts_then, puts_length}
use Rattle.list_digits.specs.Decimal.{shown_length}
use Rattle.list_line.specs.Heads.{spelt}
use Rattle.list_line.proofs.spell.Goals as goal

pub put_natural-next-requires : goal.put_natural-next-requires
put_natural-next-requires c =
    rw length-set (omega (arith, c.requires.0, c.requires.1, shown_length 6 c.args.step (omega (arith, c.requires.0)) (omega (arith, c.requires.0))))

pub returns : goal.returns
returns c =
    let p = c.put_natural-next in
    spelt c.requires.0 c.requires.1 (puts_then (puts_one c.args.text.now 1 9) (puts_then p.ensures (puts_one _ p.result 9)))

pub bounds-text-next : goal.bounds-text-next
bounds-text-next c =
    let p = c.put_natural-next.ensures in
    let long : length c.put_natural-next.new.out ≡ length c.args.text.now = puts_length p ∙ simp length-set in
    omega (arith, p.place, long, shown_length 6 c.args.step (omega (arith, c.requires.0)) (omega (arith, c.requires.0)), c.requires.1)

pub overflow_add-result : goal.overflow_add-result
overflow_add-result c =
    record { fits = omega (arith, c.put_natural-next.ensures.place, shown_length 6 c.args.step (omega (arith, c.requires.0)) (omega (arith, c.requires.0))) }
