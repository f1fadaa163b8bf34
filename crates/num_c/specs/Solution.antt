-- What `numbers_solve` writes: the stated solution of the system whose pivots are the diagonal, and past it the right sides. Assumes nothing.
use Rattle.whole.specs.Plain.{ℕ, refl, ap, ◌∙◌, List, map, get_or, length, take, length-map}
use Rattle.whole.specs.Plain.{get_or-set_other, le-leb, arith, numbers}
use Rattle.std.specs.Prelude.{Float, ◌+◌, ◌≤◌, ◌<◌, ◌≡◌}
use Rattle.std.specs.Float.Ieee.{nan}
use Rattle.whole.specs.Folds.{get_d_map, get_d_numbers, length_numbers}
use Rattle.whole.specs.TurnLaws.{turns_keeps, downs_keeps}
use Rattle.paper.specs.declared.Equation.{Equation}
use Rattle.paper.specs.Elimination.{sys, line, cell, row, voltages}
use Rattle.step_factors.specs.Factored.{factored, row_forward, forward, row_back, back, substituted}
use Rattle.step_factors.specs.Factors.{Square, Of}
use Rattle.step_factors.specs.Serving.{square_serves}
use Rattle.step_factors.specs.Substituted.{Rights, substituted_take}
use Rattle.num_c.specs.Outcomes.{solution}

unfoldable pub diagonal : List (List Float) → List Float
diagonal a = map (λ p. cell (line a p) p) (numbers 0 32)

-- each row's pivot and right side, from two lists
unfoldable pub paired : List Float → List Float → List Equation
paired pivots rights = map (λ p. record { pivot = cell pivots p; right = cell rights p }) (numbers 0 32)

-- one place of what is made for each of 32 rows
each : {A : Type 0} (f : ℕ → A) (d : A) (p : ℕ) → p < 32 → get_or (map f (numbers 0 32)) p d ≡ f p
each f d p h = get_d_map f (numbers 0 32) p 0 d (rw (length_numbers 0 32) h) ∙ ap f (get_d_numbers 0 32 p 0 h ∙ omega arith)

module _ (a : List (List Float)) (rights : List Float) where
  paired_row : (p : ℕ) → p < 32 → row (paired (diagonal a) rights) p ≡ record { pivot = cell (line a p) p; right = cell rights p }
  unfolding paired diagonal
  paired_row p h = each _ _ p h ∙ rw (each (λ p. cell (line a p) p) nan p h)

  paired_length : length (paired (diagonal a) rights) ≡ 32
  unfolding paired
  paired_length = length-map (numbers 0 32) _ ∙ length_numbers 0 32

  system_of : (n : ℕ) → Square a → n ≤ 32 → Of n (λ p. line a (0 + p)) (sys a (paired (diagonal a) rights))
  system_of n s few = record {
    roomy = record { lines = omega (arith, s.lines); rows = omega (arith, paired_length); line = λ p h. omega (arith, s.line p (omega arith)) };
    cells = λ p q h k. let e : 0 + p ≡ p = omega arith in rw e;
    pivot = λ p h. rw (paired_row p (omega arith));
  }

  -- the first n doubles, bit for bit
  pub solution_is : (n : ℕ) (old : List Float) → Square a → n ≤ 32 → n ≤ length rights
      → take n (solution a rights n old).value ≡ take n (voltages n (sys a (paired (diagonal a) rights)))
  unfolding solution
  solution_is n old s few long =
      let all = sys a (paired (diagonal a) rights) in
      let r : Rights n rights all = record { long = long; at = λ p h. rw (paired_row p (omega arith)) } in
      rw (le-leb n 32 few) (substituted_take 0 n all (factored 0 n a) few ((square_serves 0 n a s (omega arith)).at all (system_of n s few)) rights r)

  -- the places past them
  pub solution_after : (n : ℕ) (old : List Float) → n ≤ 32 → (p : ℕ) → n ≤ p → cell (solution a rights n old).value p ≡ cell rights p
  unfolding solution substituted back row_back forward row_forward
  solution_after n old few p h =
      let f = factored 0 n a in
      let y = forward 0 n f rights in
      rw (le-leb n 32 few)
      (downs_keeps (λ x. cell x p ≡ cell y p) n (row_back 0 n f) (λ j x hi e. get_or-set_other x j p _ nan (λ d. omega arith) ∙ e) y refl
      ∙ turns_keeps (λ x. cell x p ≡ cell rights p) 0 n (row_forward 0 f) (λ j x lo hi e. get_or-set_other x j p _ nan (λ d. omega arith) ∙ e) rights refl)
