-- `call_state::none_negative` meets its contract. The invariant: the flag and the words that are left say together what all words say.
use Rattle.std.specs.Prelude.{◌+◌, ◌≡◌, ◌&&◌}
use Rattle.whole.specs.Plain.{refl, sym, ap, ◌∙◌, Bool, and_assoc, and-true, leb-zero, ℤ, pos}
use Rattle.whole.specs.Plain.{negsuc, le_z, non_neg, get_or, drop, arith, every}
use mir.Syntax.{w64}
use mir.Val.{to_z, of_z}
use Rattle.whole.specs.Int.{read64}
use Rattle.whole.specs.Folds.{every_more, every_done}
use Rattle.call_state.proofs.none_negative.Goals as goal

sign-is : (x : ℤ) → le_z (pos 0) x ≡ non_neg x
sign-is (pos n) = leb-zero n
sign-is (negsuc n) = refl

pub loop-x-preserved : goal.loop-x-preserved
loop-x-preserved c =
    let l = c.args.words.now in
    let i = c.loop-x.x-index in
    let x = get_or l i (pos 0) in
    let e : le_z (pos 0) (to_z w64 (of_z w64 x)) ≡ non_neg x = rw (read64 x (omega arith)) (sign-is x) in
    rw e
    (and_assoc c.loop-x.all (non_neg x) (every non_neg (drop (i + 1) l))
    ∙ ap (λ (b : Bool). c.loop-x.all && b) (sym (every_more non_neg l i (pos 0) (omega arith)))
    ∙ c.loop-x.invariant)

pub returns : goal.returns
returns c =
    let done = every_done non_neg c.args.words.now c.loop-x.x-index (omega arith) in
    sym (and-true c.loop-x.all) ∙ ap (λ (b : Bool). c.loop-x.all && b) (sym done) ∙ c.loop-x.invariant
