-- The first row of which a leg passes on too much is the paper's. Assumes nothing.
use Rattle.std.specs.Prelude.{◌+◌, ◌*◌, ◌/◌, ◌≤◌, ◌<◌, ◌≡◌, ◌&&◌, ◌||◌, ◌∷◌}
use Rattle.whole.specs.Plain.{ℕ, zero, suc, refl, ap, ◌∙◌, Bool, true, false, cond, not}
use Rattle.whole.specs.Plain.{List, [], map, eqb, neg_ℤ, zero-*ℤ, length, arith, Words, z, up_to}
use Rattle.whole.specs.Plain.{numbers, keep}
use Rattle.paper.specs.Limits as Limits
use Rattle.paper.specs.Rows.{kind}
use Rattle.paper.specs.Areas.{Net}
use Rattle.paper.specs.Legs.{Branch, legs_by, legs_of, heard, through, current, echo, passed_on}
use Rattle.paper.specs.Solve.{beyond, first_beyond}
use Rattle.laws_facts.specs.Nets.{row_at}
use Rattle.step_flow.specs.Flown.{passed_by}
use Rattle.plan_ends.specs.Own.{own_end, own_ends}
use Rattle.step_legs.specs.declared.Wire.{Wire}
use Rattle.step_own.specs.Ends.{wire_of, end_leg}
use Rattle.step_own.specs.EndLegs.{from_leg, to_leg}
use Rattle.laws_local.specs.Own.{row_is}
use Rattle.step_flow.specs.Beyond.{beyond_leg, first_by}

not_and : (a b : Bool) → not (a && b) ≡ (not a || not b)
not_and true b = refl
not_and false b = refl

-- the row, from 1, of the first end that passes
unfoldable first_end : (ℕ → Bool) → List ℕ → ℕ
first_end t [] = 0
first_end t (e ∷ l) = let r = first_end t l in cond (t e) (suc (e / 2)) r

-- of those kept, where the others do not pass
kept : (t u p : ℕ → Bool) → ((e : ℕ) → p e ≡ true → t e ≡ u e) → ((e : ℕ) → p e ≡ false → u e ≡ false) → (l : List ℕ) → first_end t (keep p l) ≡ first_end u l
unfolding first_end keep
kept t u p g h [] = refl
kept t u p g h (e ∷ l) = elim (p e) as (λ b. p e ≡ b → first_end t (keep p l) ≡ first_end u l → first_end t (cond b (e ∷ keep p l) (keep p l)) ≡ cond (u e) (suc (e / 2)) (first_end u l)) [
  | true ↦ λ q r. rw (g e q, r)
  | false ↦ λ q r. rw (h e q) r
] refl (kept t u p g h l)

-- of the wires of some ends
wires : (v : Words) (w : ℕ → Wire) → ((e : ℕ) → (w e).row ≡ e / 2) → (l : List ℕ) → first_by v (map w l) ≡ first_end (λ e. beyond_leg v (w e)) l
unfolding first_by first_end
wires v w h [] = refl
wires v w h (e ∷ l) = rw (h e, wires v w h l)

-- row by row
pairs : (v : Words) (t : ℕ → Bool) (b : ℕ → Branch) (i n : ℕ) → ((j : ℕ) → i ≤ j → j < i + n → beyond v (b j) ≡ (t (2 * j) || t (2 * j + 1))) → first_end t (numbers (2 * i) (2 * n)) ≡ first_beyond v i (map b (numbers i n))
unfolding first_end first_beyond numbers
pairs v t b i zero h = refl
pairs v t b i (suc n) h =
    let e : 2 * suc n ≡ suc (suc (2 * n)) = omega arith in
    let p : suc (2 * i) ≡ 2 * i + 1 = omega arith in
    let q : suc (suc (2 * i)) ≡ 2 * suc i = omega arith in
    let r : 2 * i / 2 ≡ i = omega arith in
    let s : (2 * i + 1) / 2 ≡ i = omega arith in
    rw (e, q, p, r, s, h i (omega arith) (omega arith), pairs v t b (suc i) n (λ j lo hi. h j (omega arith) (omega arith))) (either (t (2 * i)) (t (2 * i + 1)) (suc i) _)
  where
    either : (a b : Bool) (x y : ℕ) → cond a x (cond b x y) ≡ cond (a || b) x y
    either true b x y = refl
    either false b x y = refl

-- ---- of the step's branches

module _ (N : Net) (a k : ℕ) (recs froms tos : Words) (one : 1 ≤ a) (v : Words) where
  -- what an end passes on, as the paper has it
  abbrev of_row : ℕ → ℕ → Bool
  of_row i e = up_to Limits.history_end (passed_by (kind (row_at N i)) (echo v (end_leg N a k recs froms tos e)))

  abbrev within : ℕ → Bool
  within e = of_row (e / 2) e

  abbrev test : ℕ → Bool
  test e = beyond_leg v (wire_of N k recs froms tos e)

  own_test : (e : ℕ) → own_end N a e ≡ true → test e ≡ not (within e)
  unfolding end_leg beyond_leg
  own_test e o = rw o

  -- an idle end passes nothing on
  idle_within : (e : ℕ) → own_end N a e ≡ false → within e ≡ true
  unfolding end_leg echo current through passed_by up_to
  idle_within e q = rw (q, zero-*ℤ) (none (eqb (kind (row_at N (e / 2))) 2) (eqb (kind (row_at N (e / 2))) 3 || eqb (kind (row_at N (e / 2))) 4))
    where
      none : (s t : Bool) → up_to Limits.history_end (cond s z (cond t (neg_ℤ z) z)) ≡ true
      none true t = refl
      none false true = refl
      none false false = refl

  row_test : (j : ℕ) → j < length N.rows → beyond v (legs_by N a k recs (heard N a k froms tos) j) ≡ (not (within (2 * j)) || not (within (2 * j + 1)))
  unfolding beyond passed_on passed_by
  row_test j h =
      let e : 2 * j / 2 ≡ j = omega arith in
      let g : (2 * j + 1) / 2 ≡ j = omega arith in
      rw (row_is N a k recs (heard N a k froms tos) j, ← from_leg N a k recs froms tos j h one, ← to_leg N a k recs froms tos j h one, e, g) (not_and (of_row j (2 * j)) (of_row j (2 * j + 1)))

  pub first_is : first_by v (map (wire_of N k recs froms tos) (own_ends N a)) ≡ first_beyond v 0 (legs_of N a k recs (heard N a k froms tos))
  unfolding legs_of own_ends
  first_is =
      wires v (wire_of N k recs froms tos) (λ e. refl) (own_ends N a)
      ∙ kept test (λ e. not (within e)) (own_end N a) own_test (λ e q. ap not (idle_within e q)) (numbers 0 (2 * length N.rows))
      ∙ pairs v (λ e. not (within e)) (legs_by N a k recs (heard N a k froms tos)) 0 (length N.rows) (λ j lo hi. row_test j (omega arith))

-- it is one of the rows
pub beyond_most : (v : Words) (i : ℕ) (bs : List Branch) → first_beyond v i bs ≤ i + length bs
unfolding first_beyond
beyond_most v i [] = omega arith
beyond_most v i (b ∷ bs) = either (beyond v b) (first_beyond v (suc i) bs) (beyond_most v (suc i) bs)
  where
    either : (t : Bool) (r : ℕ) → r ≤ suc i + length bs → cond t (suc i) r ≤ i + suc (length bs)
    either true r l = omega arith
    either false r l = omega arith
