-- From the factors of a matrix, the substitution for a right side has the stated voltages. Assumes nothing.
use Rattle.std.specs.Prelude.{◌+◌, ◌≤◌, ◌<◌, ◌≡◌}
use Rattle.whole.specs.Plain.{ℕ, refl, sym, ap, ◌∙◌, true, false, List, eqb, pos, length, set, take}
use Rattle.whole.specs.Plain.{length-set, length-replicate, get_or-set_same, get_or-set_other, get_or-take, length-take-le}
use Rattle.whole.specs.Plain.{ext_get_or, eqb-true, eqb-false, arith}
use Rattle.std.specs.Float.Ieee.{Float, fin, nan}
use Rattle.whole.specs.TurnLaws.{turns_cong}
use Rattle.paper.specs.Elimination.{System, line, cell, row, less, quotient, eliminated, rest, row_solved, solved, voltages}
use Rattle.step_factors.specs.Factored.{left, row_forward, forward, row_back, back, substituted}
use Rattle.step_factors.specs.Along.{turns_along, downs_along}
use Rattle.step_factors.specs.Factors.{final_right, Factors}

-- the right sides of a system
pub record Rights (n : ℕ) (b : List Float) (s : System) : Type 0 where
  pub long : n ≤ length b
  pub at : (p : ℕ) → p < n → cell b p ≡ (row s.rows p).right

-- one place set: there, and elsewhere
set_to : (P : ℕ → Float → Type 0) (l : List Float) (q : ℕ) (x : Float) → q < length l → P q x → (c : ℕ) → ((c ≡ q → ⊥) → P c (cell l c))
    → P c (cell (set l q x) c)
set_to P l q x h p c other = elim (eqb c q) as (λ t. eqb c q ≡ t → P c (cell (set l q x) c)) [
  | true ↦ λ e. let d : c ≡ q = eqb-true c q e in rw (d, get_or-set_same l q x nan h) p
  | false ↦ λ e. let d : c ≡ q → ⊥ = eqb-false c q e in rw (get_or-set_other l q c x nan d) (other d)
] refl

-- forwards: q rows have their last right sides
record Forward (n : ℕ) (s : System) (q : ℕ) (y : List Float) : Type 0 where
  pub long : n ≤ length y
  pub done : (r : ℕ) → r < q → cell y r ≡ final_right n s r
  pub still : (r : ℕ) → q ≤ r → r < n → cell y r ≡ (row s.rows r).right

-- backwards: k rows are left, beside the stated solution
record Back (n : ℕ) (s : System) (k : ℕ) (x y : List Float) : Type 0 where
  pub wide : n ≤ length x
  pub long : n ≤ length y
  pub done : (r : ℕ) → k ≤ r → r < n → cell y r ≡ cell x r
  pub still : (r : ℕ) → r < k → cell y r ≡ final_right n s r

module _ (base n : ℕ) (s : System) (a : List (List Float)) (few : n ≤ 32) (w : (r : ℕ) → r < n → Factors n s r (line a (base + r))) where
  forward_row : (q : ℕ) (y : List Float) → q < n → Forward n s q y → left (line a (base + q)) y 0 q (cell y q) ≡ final_right n s q
  unfolding left
  forward_row q y h f =
      rw (f.still q (omega arith) h)
      (turns_cong 0 q _ _ (row s.rows q).right (λ p t lo hi. ap (λ (x : Float). less t (cell (line a (base + q)) p) x) (f.done p hi))
      ∙ sym (w q h).right)

  forward_next : (q : ℕ) (y : List Float) → q < n → Forward n s q y → Forward n s (q + 1) (row_forward base a q y)
  unfolding row_forward
  forward_next q y h f =
      let t = left (line a (base + q)) y 0 q (cell y q) in
      let i : q < length y = omega (arith, f.long) in
      record {
        long = rw (length-set y q t) f.long;
        done = λ r l. set_to (λ r x. x ≡ final_right n s r) y q t i (forward_row q y h f) r (λ d. f.done r (omega arith));
        still = λ r l k. get_or-set_other y q r t nan (λ d. omega arith) ∙ f.still r (omega arith) k;
      }

  forwarded : (b : List Float) → Rights n b s → Forward n s n (forward base n a b)
  unfolding forward
  forwarded b g =
      turns_along (λ q y z. Forward n s q y) (row_forward base a) (row_forward base a) 0 n (omega arith) (λ q y z lo hi f. forward_next q y hi f)
      {a = b}
      {b = b}
      (record { long = g.long; done = λ r l. absurd (omega arith); still = λ r lo hi. g.at r hi })

  back_row : (p : ℕ) (x y : List Float) → p < n → Back n s (p + 1) x y
      → quotient (left (line a (base + p)) y (p + 1) n (cell y p)) (cell (line a (base + p)) p) ≡ quotient (rest n p (line (eliminated n s).lines p) x (final_right n s p)) (row (eliminated n s).rows p).pivot
  unfolding left rest
  back_row p x y h f =
      rw (f.still p (omega arith), sym (w p h).pivot)
      (ap (λ (t : Float). quotient t (row (eliminated n s).rows p).pivot) (turns_cong (p + 1) n _ _ (final_right n s p) (λ c t lo hi. rw ((w p h).cells c (omega arith) hi, f.done c lo hi))))

  back_next : (p : ℕ) (x y : List Float) → p < n → Back n s (p + 1) x y → Back n s p (row_solved n (eliminated n s) p x) (row_back base n a p y)
  unfolding row_solved row_back
  back_next p x y h f =
      let t = quotient (rest n p (line (eliminated n s).lines p) x (final_right n s p)) (row (eliminated n s).rows p).pivot in
      let i : p < length x = omega (arith, f.wide) in
      let k : p < length y = omega (arith, f.long) in
      rw (back_row p x y h f)
      (record {
        wide = rw (length-set x p t) f.wide;
        long = rw (length-set y p t) f.long;
        done = λ r l m. set_to (λ c u. u ≡ cell (set x p t) c) y p t k (sym (get_or-set_same x p t nan i)) r (λ d. f.done r (omega arith) m ∙ sym (get_or-set_other x p r t nan d));
        still = λ r l. get_or-set_other y p r t nan (λ d. omega arith) ∙ f.still r (omega arith);
      })

  solved_beside : (b : List Float) → Rights n b s → Back n s 0 (voltages n s) (substituted base n a b)
  unfolding substituted back voltages solved
  solved_beside b g =
      let f = forwarded b g in
      let none : Float = fin false 0 (pos 0) in
      downs_along (Back n s) (row_solved n (eliminated n s)) (row_back base n a) n (λ q x y l k. back_next q x y l k)
      (record { wide = rw (length-replicate 32 none) few; long = f.long; done = λ r l m. absurd (omega arith); still = f.done })

  -- as the paper takes them: the first n
  pub substituted_take : (b : List Float) → Rights n b s → take n (substituted base n a b) ≡ take n (voltages n s)
  substituted_take b g =
      let e = solved_beside b g in
      let l : length (take n (substituted base n a b)) ≡ n = length-take-le n (substituted base n a b) e.long in
      ext_get_or nan (take n (substituted base n a b)) (take n (voltages n s)) (l ∙ sym (length-take-le n (voltages n s) e.wide))
      (λ p h. let k : p < n = rw l at h in get_or-take n (substituted base n a b) p nan k ∙ e.done p (omega arith) k ∙ sym (get_or-take n (voltages n s) p nan k))
