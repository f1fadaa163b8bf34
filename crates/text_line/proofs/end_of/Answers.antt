use Rattle.std.specs.Prelude.{position, ◌-◌, ◌≡◌}
use Rattle.whole.specs.Plain.{ℕ, List, sym, ◌∙◌, ap, length, take, drop, length-drop, take_all, arith}
use Rattle.text_line.specs.Parts.{ends, place_some, place_none}
use Rattle.text_line.proofs.end_of.Goals as goal

-- the text from the place on
part : (s : List ℕ) (at : ℕ) → take (length s - at) (drop at s) ≡ drop at s
part s at = take_all _ _ (omega (arith, length-drop at s))

pub returns-in-Some : goal.returns-in-Some
returns-in-Some c =
    let e = ap (position ends) (part c.args.text.now c.args.at) in
    omega (arith, place_some ends (drop c.args.at c.args.text.now) c.in-Some.n (sym (c.in-Some.ensures ∙ e)))

pub returns-in-None : goal.returns-in-None
returns-in-None c =
    let e = ap (position ends) (part c.args.text.now c.args.at) in
    omega (arith, place_none ends (drop c.args.at c.args.text.now) (sym (c.in-None.ensures ∙ e)), length-drop c.args.at c.args.text.now)
