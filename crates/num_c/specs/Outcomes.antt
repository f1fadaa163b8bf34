-- What each exported function answers and writes, on all inputs. Assumes nothing.
use Rattle.std.specs.Prelude.{Option, Some, None}
use Rattle.whole.specs.Plain.{ℕ, Bool, true, false, cond, List, leb, eqb, ℤ, pos, nat_abs, non_neg, lt_z, quot_z}
use Rattle.whole.specs.Plain.{every, up_to}
use Rattle.std.specs.Prelude.{Float, ◌&&◌}
use Rattle.whole.specs.Rounding.{nearest}
use Rattle.paper.specs.Limits as Limits
use Rattle.paper.specs.Doubles.{Voltage}
use Rattle.step_factors.specs.Factored.{factored, substituted}

-- an answer, and what is written where it is yes
pub record Out (A : Type 0) : Type 0 where
  pub yes : Bool
  pub value : A

unfoldable pub words_judged : ℤ → List ℤ → Bool
words_judged most xs = non_neg most && every (up_to (nat_abs most)) xs

unfoldable pub quotient_of : ℕ → ℕ → ℕ
quotient_of a b = cond (eqb b 0) 0 (nearest a b)

unfoldable pub part_of : ℤ → ℤ → ℤ
part_of a b = cond (lt_z (pos 0) b) (quot_z a b) (pos 0)

abbrev pub out : {A : Type 0} → Bool → A → Out A
out b a = record { yes = b; value = a }

unfoldable pub rounded : ℤ → Option Voltage → Out ℤ
rounded old (Some v) = out true v.tenths
rounded old None = out false old

-- the solution where n rows fit, from the factors of the matrix
unfoldable pub solution : List (List Float) → List Float → ℕ → List Float → Out (List Float)
solution a rights n old = cond (leb n Limits.node_end) (out true (substituted 0 n (factored 0 n a) rights)) (out false old)
