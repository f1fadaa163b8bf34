-- The kinds by name: the number of each in the table of kinds, and the kind of a number. Assumes nothing.
use Rattle.std.specs.Prelude.{Option, Some, None, ◌<◌, ◌≤◌, ◌≡◌, ◌∷◌}
use Rattle.whole.specs.Plain.{ℕ, zero, suc, refl, sym, ap, ◌∙◌, List, [], get_or, dec_lt, arith}
use Rattle.paper.specs.declared.kinds.Kind.{Kind}
use Rattle.paper.specs.declared.kinds.Kind.TheVariants.{Study, R, L, C, Line, Sw, Vs, Is, Vc, Swt}

abbrev pub number : Kind → ℕ
number Study = 0
number R = 1
number L = 2
number C = 3
number Line = 4
number Sw = 5
number Vs = 6
number Is = 7
number Vc = 8
number Swt = 9

abbrev number_of : Option Kind → ℕ
number_of None = 10
number_of (Some k) = number k

-- none where the table ends before it
abbrev pub kind_by : ℕ → Option Kind
kind_by zero = Some Study
kind_by (suc zero) = Some R
kind_by (suc (suc zero)) = Some L
kind_by (suc (suc (suc zero))) = Some C
kind_by (suc (suc (suc (suc zero)))) = Some Line
kind_by (suc (suc (suc (suc (suc zero))))) = Some Sw
kind_by (suc (suc (suc (suc (suc (suc zero)))))) = Some Vs
kind_by (suc (suc (suc (suc (suc (suc (suc zero))))))) = Some Is
kind_by (suc (suc (suc (suc (suc (suc (suc (suc zero)))))))) = Some Vc
kind_by (suc (suc (suc (suc (suc (suc (suc (suc (suc zero))))))))) = Some Swt
kind_by (suc (suc (suc (suc (suc (suc (suc (suc (suc (suc n)))))))))) = None

-- in the order of their numbers
abbrev pub all_kinds : List Kind
all_kinds = Study ∷ R ∷ L ∷ C ∷ Line ∷ Sw ∷ Vs ∷ Is ∷ Vc ∷ Swt ∷ []

pub by_place : (n : ℕ) → n < 10 → kind_by n ≡ Some (get_or all_kinds n Study)
by_place zero h = refl
by_place (suc zero) h = refl
by_place (suc (suc zero)) h = refl
by_place (suc (suc (suc zero))) h = refl
by_place (suc (suc (suc (suc zero)))) h = refl
by_place (suc (suc (suc (suc (suc zero))))) h = refl
by_place (suc (suc (suc (suc (suc (suc zero)))))) h = refl
by_place (suc (suc (suc (suc (suc (suc (suc zero))))))) h = refl
by_place (suc (suc (suc (suc (suc (suc (suc (suc zero)))))))) h = refl
by_place (suc (suc (suc (suc (suc (suc (suc (suc (suc zero))))))))) h = refl
by_place (suc (suc (suc (suc (suc (suc (suc (suc (suc (suc n)))))))))) h = absurd (omega arith)

-- a kind that a number has is of that number
pub number_by : (n : ℕ) {k : Kind} → kind_by n ≡ Some k → number k ≡ n
number_by zero e = ap number_of (sym e)
number_by (suc zero) e = ap number_of (sym e)
number_by (suc (suc zero)) e = ap number_of (sym e)
number_by (suc (suc (suc zero))) e = ap number_of (sym e)
number_by (suc (suc (suc (suc zero)))) e = ap number_of (sym e)
number_by (suc (suc (suc (suc (suc zero))))) e = ap number_of (sym e)
number_by (suc (suc (suc (suc (suc (suc zero)))))) e = ap number_of (sym e)
number_by (suc (suc (suc (suc (suc (suc (suc zero))))))) e = ap number_of (sym e)
number_by (suc (suc (suc (suc (suc (suc (suc (suc zero)))))))) e = ap number_of (sym e)
number_by (suc (suc (suc (suc (suc (suc (suc (suc (suc zero))))))))) e = ap number_of (sym e)
number_by (suc (suc (suc (suc (suc (suc (suc (suc (suc (suc n)))))))))) e = cc

pub none_by : (n : ℕ) → kind_by n ≡ None → 10 ≤ n
none_by n e = elim (dec_lt n 10) [ yes h ↦ absurd (some_none (sym (by_place n h) ∙ e)) | no h ↦ omega arith ]
  where
    some_none : {k : Kind} → Some k ≡ None → ⊥
    some_none q = cc

pub by_number : (k : Kind) → kind_by (number k) ≡ Some k
by_number Study = refl
by_number R = refl
by_number L = refl
by_number C = refl
by_number Line = refl
by_number Sw = refl
by_number Vs = refl
by_number Is = refl
by_number Vc = refl
by_number Swt = refl

pub number_few : (k : Kind) → number k < 10
number_few Study = omega arith
number_few R = omega arith
number_few L = omega arith
number_few C = omega arith
number_few Line = omega arith
number_few Sw = omega arith
number_few Vs = omega arith
number_few Is = omega arith
number_few Vc = omega arith
number_few Swt = omega arith
