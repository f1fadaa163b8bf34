-- a word that is no number from 0 on names no kind
use Rattle.std.specs.Prelude.{◌≡◌, ◌≤◌, ◌<◌, ◌^◌, None, Result, Ok, Err}
use Rattle.std.specs.Result.{OkIff, result_ok}
use Rattle.std.specs.Int.{FitsUnsignedBits}
use Rattle.whole.specs.Plain.{ℕ, sym, ◌∙◌, ℤ, pos, negsuc, nat_abs, word, arith}
use Rattle.whole.specs.Plain.{mag}
use Rattle.whole.specs.Int.{read64}
use Rattle.paper.specs.Rows.{kind_word}
use Rattle.paper.specs.Classes.{kind_count}
use Rattle.text_faults.proofs.rows.Row.of.Goals as goal

unnamed : {E : Type 0} (x : ℤ) (r : Result ℕ E) → mag x < 2 ^ 63 → OkIff r (FitsUnsignedBits 64 x) (nat_abs x) → result_ok r ≡ None → 10 ≤ kind_word x
unnamed (pos n) (Ok m) f h e = absurd (let q : ◌≡◌ {A = ℕ} 0 1 = cc in omega arith)
unnamed (pos n) (Err d) f h e = absurd (h (omega arith))
unnamed (negsuc n) r f h e = omega (arith, kind_count)

pub returns-in_err-number : goal.returns-in_err-number
returns-in_err-number c =
    let x : ℤ = word c.args.words 0 in
    rw c.from_residual.ensures (unnamed x c.try_from.result (omega arith) (rw (read64 x (omega arith)) at c.try_from.ensures) (sym c.ok.ensures.value ∙ c.in_err-number.was))
