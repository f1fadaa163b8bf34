-- the field begins with a minus, and may; or not
use Rattle.std.specs.Prelude.{Option, Some, ◌≡◌, ◌≤◌, ◌&&◌, ◌∷◌}
use Rattle.std.specs.List.{starts_with}
use Rattle.whole.specs.Plain.{ℕ, Bool, List, [], true, false, sym, ◌∙◌, ap, eqb, get_or}
use Rattle.text_words.specs.Numbers.{held_end, plain_of, plain_most, as_number, as_negative, without_minus}
use Rattle.text_words.proofs.Signs.{small, small_fits, negated_fits, negated_is, starts_minus, minus_read}
use Rattle.text_words.proofs.read_number.Goals as goal

-- what is read is no larger than held
most : (zero : Bool) (s : List ℕ) {d : Option ℕ} {n : ℕ} → d ≡ plain_of zero s → d ≡ Some n → n ≤ held_end
most zero s e f = plain_most zero s (sym e ∙ f)

signs : (signed : Bool) (s : List ℕ) {b : Bool} → b ≡ starts_with eqb s (45 ∷ []) → (t : Bool) → (signed && b) ≡ t → (signed && eqb (get_or s 0 0) 45) ≡ t
signs signed s e t h = ap (λ (b : Bool). signed && b) (sym (e ∙ starts_minus s)) ∙ h

pub overflow_cast-result : goal.overflow_cast-result
overflow_cast-result c = small_fits _ (most _ _ c.plain.ensures c.in_ok-n.was)

pub overflow_sub-result : goal.overflow_sub-result
overflow_sub-result c = negated_fits _ (most _ _ c.plain.ensures c.in_ok-n.was)

pub overflow_cast-result-2 : goal.overflow_cast-result-2
overflow_cast-result-2 c = small_fits _ (most _ _ c.plain-2.ensures c.in_ok-n-2.was)

pub returns-in_err-n : goal.returns-in_err-n
returns-in_err-n c =
    c.from_residual.ensures ∙ ap as_negative (sym c.in_err-n.was ∙ c.plain.ensures) ∙ minus_read c.args.signed c.args.s.now (signs c.args.signed c.args.s.now c.starts_with.ensures.value true c.if-signed-starts_with.true)

pub returns-then-signed-starts_with : goal.returns-then-signed-starts_with
returns-then-signed-starts_with c =
    ap Some (negated_is _ (most _ _ c.plain.ensures c.in_ok-n.was)) ∙ ap as_negative (sym c.in_ok-n.was ∙ c.plain.ensures)
    ∙ minus_read c.args.signed c.args.s.now (signs c.args.signed c.args.s.now c.starts_with.ensures.value true c.if-signed-starts_with.true)

pub returns-in_err-n-2 : goal.returns-in_err-n-2
returns-in_err-n-2 c =
    c.from_residual-in_err-n-2.ensures ∙ ap as_number (sym c.in_err-n-2.was ∙ c.plain-2.ensures) ∙ without_minus c.args.signed c.args.s.now (signs c.args.signed c.args.s.now c.starts_with.ensures.value false c.if-signed-starts_with.false)

pub returns : goal.returns
returns c =
    ap Some (small _ (most _ _ c.plain-2.ensures c.in_ok-n-2.was)) ∙ ap as_number (sym c.in_ok-n-2.was ∙ c.plain-2.ensures)
    ∙ without_minus c.args.signed c.args.s.now (signs c.args.signed c.args.s.now c.starts_with.ensures.value false c.if-signed-starts_with.false)
