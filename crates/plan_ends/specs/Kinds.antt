-- The kind of a number; past the end of the table of kinds as the study's, which is of no class. Assumes nothing.
use Rattle.std.specs.Prelude.{Option, Some, None, ◌≡◌}
use Rattle.whole.specs.Plain.{ℕ, zero, suc, refl, sym, ap, ◌∙◌, Bool}
use Rattle.paper.specs.declared.kinds.Kind.{Kind}
use Rattle.paper.specs.declared.kinds.Kind.TheVariants.{Study, R, L, C, Line, Sw, Vs, Is, Vc, Swt}
use Rattle.paper.specs.Kinds.{number, kind_by}

abbrev or_study : Option Kind → Kind
or_study (Some k) = k
or_study None = Study

abbrev pub kind_at : ℕ → Kind
kind_at n = or_study (kind_by n)

at_number : (k : Kind) → kind_at (number k) ≡ k
at_number Study = refl
at_number R = refl
at_number L = refl
at_number C = refl
at_number Line = refl
at_number Sw = refl
at_number Vs = refl
at_number Is = refl
at_number Vc = refl
at_number Swt = refl

-- the kind that has it
pub kind_is : {k : Kind} {n : ℕ} → number k ≡ n → k ≡ kind_at n
kind_is {k} e = sym (at_number k) ∙ ap kind_at e

-- a class of it is the class of the number
pub class_at : (f : ℕ → Bool) → ((n : ℕ) → f (suc (suc (suc (suc (suc (suc (suc (suc (suc (suc n)))))))))) ≡ f 0) → (n : ℕ) → f (number (kind_at n)) ≡ f n
class_at f past zero = refl
class_at f past (suc zero) = refl
class_at f past (suc (suc zero)) = refl
class_at f past (suc (suc (suc zero))) = refl
class_at f past (suc (suc (suc (suc zero)))) = refl
class_at f past (suc (suc (suc (suc (suc zero))))) = refl
class_at f past (suc (suc (suc (suc (suc (suc zero)))))) = refl
class_at f past (suc (suc (suc (suc (suc (suc (suc zero))))))) = refl
class_at f past (suc (suc (suc (suc (suc (suc (suc (suc zero)))))))) = refl
class_at f past (suc (suc (suc (suc (suc (suc (suc (suc (suc zero))))))))) = refl
class_at f past (suc (suc (suc (suc (suc (suc (suc (suc (suc (suc n)))))))))) = sym (past n)
