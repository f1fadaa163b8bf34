use Rattle.std.specs.Prelude.{◌≡◌}
use Rattle.std.specs.Char.{is_ascii_digit}
use Rattle.whole.specs.Plain.{ℕ, Bool, true, false, get_or, refl, sym, ◌∙◌, arith}
use Rattle.paper.specs.Text.{digit}
use Rattle.text_words.specs.Numbers.{held, cap_most, digits_of, digits_next, digits_bad, digits_end}
use Rattle.text_words.proofs.all_digits.Goals as goal

-- the test of a turn
tested : (b : ℕ) {t : Bool} → t ≡ is_ascii_digit b → (u : Bool) → t ≡ u → digit b ≡ u
unfolding digit
tested b r u e = sym r ∙ e

pub loop-b-init : goal.loop-b-init
unfolding digits_of
loop-b-init c = (omega arith, refl)

pub returns-then-not-is_ascii_digit : goal.returns-then-not-is_ascii_digit
returns-then-not-is_ascii_digit c =
    digits_bad c.args.s.now c.loop-b.b-index c.loop-b.v c.loop-b-test.true (tested _ c.is_ascii_digit.ensures.value false c.if-not-is_ascii_digit.true) ∙ c.loop-b.invariant.1

pub push-v-requires : goal.push-v-requires
push-v-requires c = (c.loop-b.invariant.0, tested _ c.is_ascii_digit.ensures.value true c.if-not-is_ascii_digit.false)

pub loop-b-preserved : goal.loop-b-preserved
unfolding held
loop-b-preserved c =
    let s = c.args.s.now in
    let d : digit (get_or s c.loop-b.b-index 0) ≡ true = tested _ c.is_ascii_digit.ensures.value true c.if-not-is_ascii_digit.false in
    rw c.push-v.ensures (cap_most _, digits_next s c.loop-b.b-index c.loop-b.v c.loop-b-test.true d ∙ c.loop-b.invariant.1)

pub returns : goal.returns
returns c = digits_end c.args.s.now c.loop-b.b-index c.loop-b.v c.loop-b-test.false ∙ c.loop-b.invariant.1
