-- 13 WAIT: "a far area's count is below k - d". Assumes nothing.
use Rattle.std.specs.Prelude.{◌+◌, ◌≤◌, ◌<◌, ◌≡◌, ◌⊎◌, ◌&&◌, ◌||◌, ◌∷◌}
use Rattle.whole.specs.Plain.{ℕ, suc, refl, sym, ◌∙◌, inl, inr, Bool, true, false}
use Rattle.whole.specs.Plain.{or-true, true≢false, List, [], length, ltb-true, lt-ltb, eqb-true, eq-eqb}
use Rattle.whole.specs.Plain.{arith, Words}
use Rattle.whole.specs.Places.{place, none_place}
use Rattle.paper.specs.Rows.{Row, is_line, from, to}
use Rattle.paper.specs.Areas.{Net, area_of}
use Rattle.paper.specs.Records.{count_of}
use Rattle.paper.specs.Legs.{here}
use Rattle.paper.specs.Advance.{late, waits_for, first_late}
use Rattle.laws_facts.specs.Nets.{row_at}
use Rattle.laws_local.specs.Slots.{delay_at}

pub late_place : (N : Net) (a k : ℕ) (recs : Words) (i : ℕ) (rows : List Row) → first_late N a k recs i rows ≡ place (waits_for N a k recs) i rows
unfolding first_late place
late_place N a k recs i [] = refl
late_place N a k recs i (r ∷ rows) = rw (late_place N a k recs (suc i) rows)

-- the count of the area that a node is in
abbrev pub count_at_node : Net → Words → ℕ → ℕ
count_at_node N recs n = count_of recs (area_of N n)

-- the counts allow area a its step k
pub record Allowed (N : Net) (a k : ℕ) (recs : Words) (i : ℕ) : Type 0 where
  pub at_from : area_of N (from (row_at N i)) ≡ a → k ≤ count_at_node N recs (to (row_at N i)) + delay_at N i
  pub at_to : area_of N (to (row_at N i)) ≡ a → k ≤ count_at_node N recs (from (row_at N i)) + delay_at N i

-- and where they do not
abbrev pub Behind : Net → ℕ → ℕ → Words → ℕ → Type 0
Behind N a k recs i =
    ((area_of N (from (row_at N i)) ≡ a) × (count_at_node N recs (to (row_at N i)) + delay_at N i < k))
    ⊎ ((area_of N (to (row_at N i)) ≡ a) × (count_at_node N recs (from (row_at N i)) + delay_at N i < k))

module _ (N : Net) (a k : ℕ) (recs : Words) where
  pub waits_line : (i : ℕ) → waits_for N a k recs (row_at N i) ≡ true → is_line (row_at N i) ≡ true
  unfolding waits_for
  waits_line i = go (is_line (row_at N i)) _
    where
      go : (x y : Bool) → x && y ≡ true → x ≡ true
      go true y e = refl
      go false y e = absurd (true≢false (sym e))

  pub waits_behind : (i : ℕ) → waits_for N a k recs (row_at N i) ≡ true → Behind N a k recs i
  unfolding waits_for
  waits_behind i = go (is_line (row_at N i)) (here N a (from (row_at N i))) (here N a (to (row_at N i))) (late N recs k (row_at N i) (to (row_at N i))) (late N recs k (row_at N i) (from (row_at N i))) refl refl refl refl
    where
      go : (l f t x y : Bool) → here N a (from (row_at N i)) ≡ f → here N a (to (row_at N i)) ≡ t
          → late N recs k (row_at N i) (to (row_at N i)) ≡ x → late N recs k (row_at N i) (from (row_at N i)) ≡ y
          → l && ((f && x) || (t && y)) ≡ true → Behind N a k recs i
      go true true t true y p q r s e = inl (eqb-true _ a p, ltb-true _ k r)
      go true true true false true p q r s e = inr (eqb-true _ a q, ltb-true _ k s)
      go true true true false false p q r s e = absurd (true≢false (sym e))
      go true true false false y p q r s e = absurd (true≢false (sym e))
      go true false true x true p q r s e = inr (eqb-true _ a q, ltb-true _ k s)
      go true false true x false p q r s e = absurd (true≢false (sym e))
      go true false false x y p q r s e = absurd (true≢false (sym e))
      go false f t x y p q r s e = absurd (true≢false (sym e))

  pub behind_waits : (i : ℕ) → is_line (row_at N i) ≡ true → Behind N a k recs i → waits_for N a k recs (row_at N i) ≡ true
  unfolding waits_for
  behind_waits i l (inl p) =
      rw (l, eq-eqb (area_of N (from (row_at N i))) a p.0, lt-ltb (count_at_node N recs (to (row_at N i)) + delay_at N i) k p.1)
  behind_waits i l (inr p) =
      rw (l, eq-eqb (area_of N (to (row_at N i))) a p.0, lt-ltb (count_at_node N recs (from (row_at N i)) + delay_at N i) k p.1)
      (or-true (here N a (from (row_at N i)) && late N recs k (row_at N i) (to (row_at N i))))

  pub allowed_free : (i : ℕ) → (is_line (row_at N i) ≡ true → Allowed N a k recs i) → waits_for N a k recs (row_at N i) ≡ false
  allowed_free i h = go (waits_for N a k recs (row_at N i)) refl
    where
      side : Allowed N a k recs i → Behind N a k recs i → ⊥
      side l (inl p) = omega (arith, l.at_from p.0, p.1)
      side l (inr p) = omega (arith, l.at_to p.0, p.1)

      go : (b : Bool) → waits_for N a k recs (row_at N i) ≡ b → b ≡ false
      go true e = absurd (side (h (waits_line i e)) (waits_behind i e))
      go false e = refl

  -- no answer 13
  abbrev pub Free : Type 0
  Free = (i : ℕ) → i < length N.rows → is_line (row_at N i) ≡ true → Allowed N a k recs i

  pub late_not : Free → first_late N a k recs 0 N.rows ≡ 0
  late_not h = late_place N a k recs 0 N.rows ∙ none_place (waits_for N a k recs) [] 0 N.rows (λ i l. allowed_free i (h i l))
