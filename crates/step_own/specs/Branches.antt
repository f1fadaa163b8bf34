-- A branch of the step, by its row: whose its ends are. Assumes nothing.
use Rattle.std.specs.Prelude.{◌≤◌, ◌≡◌, ◌&&◌}
use Rattle.whole.specs.Plain.{ℕ, refl, sym, ◌∙◌, Bool, true, false, cond, List, eqb, ℤ}
use Rattle.whole.specs.Plain.{ne_eqb, arith, Words}
use Rattle.paper.specs.Rows.{is_line, is_branch, from, to}
use Rattle.paper.specs.Areas.{Net, area_of, row_area}
use Rattle.paper.specs.Legs.{Branch, Heard, legs_by, line_legs, line_end, plain_legs}
use Rattle.laws_facts.specs.Nets.{row_at}
use Rattle.plan_ends.specs.Own.{owner_of}

-- of one of three, what is one of three
of_three : {A B : Type 0} (f : A → B) (s t : Bool) (x y w : A) → f (cond s x (cond t y w)) ≡ cond s (f x) (cond t (f y) (f w))
of_three f true t x y w = refl
of_three f false true x y w = refl
of_three f false false x y w = refl

-- an end of the area's own, by its owner
own_is : (a : ℕ) → 1 ≤ a → (s t : Bool) (e f : ℕ) → cond s (eqb e a) (cond (t && eqb f a) true false) ≡ eqb (cond s e (cond t f 0)) a
own_is a h true t e f = refl
own_is a h false true e f = elim (eqb f a) as (λ b. cond b true false ≡ b) [ true ↦ refl | false ↦ refl ]
own_is a h false false e f = sym (ne_eqb 0 a (λ q. omega arith))

line_own : (o : Bool) (n g : ℕ) (h : ℤ) → (line_end o n g h).own ≡ o
unfolding line_end
line_own true n g h = refl
line_own false n g h = refl

module _ (N : Net) (a k : ℕ) (recs : Words) (ears : List Heard) (i : ℕ) where
  pub from_own : 1 ≤ a → (legs_by N a k recs ears i).is_from_end.own ≡ eqb (owner_of N (row_at N i) 1) a
  unfolding legs_by line_legs plain_legs owner_of
  from_own h =
      of_three (λ (b : Branch). b.is_from_end.own) (is_line (row_at N i)) (is_branch (row_at N i) && eqb (row_area N (row_at N i)) a) _ _ _
      ∙ rw line_own (own_is a h (is_line (row_at N i)) (is_branch (row_at N i)) (area_of N (from (row_at N i))) (row_area N (row_at N i)))

  pub to_own : 1 ≤ a → (legs_by N a k recs ears i).is_to_end.own ≡ eqb (owner_of N (row_at N i) 2) a
  unfolding legs_by line_legs plain_legs owner_of
  to_own h =
      of_three (λ (b : Branch). b.is_to_end.own) (is_line (row_at N i)) (is_branch (row_at N i) && eqb (row_area N (row_at N i)) a) _ _ _
      ∙ rw line_own (own_is a h (is_line (row_at N i)) (is_branch (row_at N i)) (area_of N (to (row_at N i))) (row_area N (row_at N i)))
