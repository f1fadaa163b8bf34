-- The quarter table's two rules and what follows at each entry, computed over the whole table. Assumes nothing.
use Rattle.std.specs.Prelude.{◌+◌, ◌*◌, ◌^◌, ◌≤◌, ◌<◌, ◌≡◌, ◌&&◌, ◌∷◌}
use Rattle.whole.specs.Plain.{ℕ, zero, suc, refl, true, List, [], leb, ltb}
use Rattle.whole.specs.Plain.{get_or, length, ltb-true, leb-true, subst, arith}
use Rattle.whole.specs.Folds.{and_left, and_right}
use Rattle.num_cosine.specs.Quarter.{quarter, entry, table_long, falls, doubles, Doubles}

pub table_falls : falls quarter ≡ true
unfolding quarter falls
table_falls = refl

-- "up to index 128"
pub table_doubles : doubles 0 129 ≡ true
unfolding quarter doubles
table_doubles = refl

-- ---- at each entry

falls_at : (l : List ℕ) (j : ℕ) → falls l ≡ true → suc j < length l → get_or l (suc j) 0 < get_or l j 0
unfolding falls
falls_at [] j e h = absurd (omega arith)
falls_at (x ∷ []) j e h = absurd (omega arith)
falls_at (x ∷ (y ∷ l)) zero e h = ltb-true y x (and_left (ltb y x) (falls (y ∷ l)) e)
falls_at (x ∷ (y ∷ l)) (suc j) e h = falls_at (y ∷ l) j (and_right (ltb y x) (falls (y ∷ l)) e) (omega arith)

pub entry_falls : (j : ℕ) → j < 256 → entry (suc j) < entry j
entry_falls j h = falls_at quarter j table_falls (omega (arith, table_long))

module _ (j n : ℕ) (e : doubles j (suc n) ≡ true) where
  abbrev a : ℕ
  a = 2 * (entry j * entry j)

  abbrev b : ℕ
  b = 2 ^ 60 + 2 ^ 30 * entry (2 * j)

  both : (leb a (b + 2 ^ 32) && leb b (a + 2 ^ 32)) ≡ true
  unfolding doubles
  both = and_left (leb a (b + 2 ^ 32) && leb b (a + 2 ^ 32)) (doubles (suc j) n) e

  first_doubles : Doubles j
  first_doubles =
      record {
        most = leb-true a (b + 2 ^ 32) (and_left (leb a (b + 2 ^ 32)) (leb b (a + 2 ^ 32)) both);
        least = leb-true b (a + 2 ^ 32) (and_right (leb a (b + 2 ^ 32)) (leb b (a + 2 ^ 32)) both);
      }

  later : doubles (suc j) n ≡ true
  unfolding doubles
  later = and_right (leb a (b + 2 ^ 32) && leb b (a + 2 ^ 32)) (doubles (suc j) n) e

doubles_at : (j n i : ℕ) → doubles j n ≡ true → i < n → Doubles (j + i)
doubles_at j zero i e h = absurd (omega arith)
doubles_at j (suc n) zero e h = let q : j ≡ j + 0 = omega arith in subst Doubles q (first_doubles j n e)
doubles_at j (suc n) (suc i) e h =
    let q : suc j + i ≡ j + suc i = omega arith in
    subst Doubles q (doubles_at (suc j) n i (later j n e) (omega arith))

pub entry_doubles : (j : ℕ) → j ≤ 128 → Doubles j
entry_doubles j h = let q : 0 + j ≡ j = omega arith in subst Doubles q (doubles_at 0 129 j table_doubles (omega arith))

-- so no entry is larger than the first
falls_most : (l : List ℕ) (x : ℕ) → falls (x ∷ l) ≡ true → (j : ℕ) → get_or (x ∷ l) j 0 ≤ x
unfolding falls
falls_most l x e zero = omega arith
falls_most [] x e (suc j) = omega arith
falls_most (y ∷ l) x e (suc j) = omega (arith, ltb-true y x (and_left (ltb y x) (falls (y ∷ l)) e), falls_most l y (and_right (ltb y x) (falls (y ∷ l)) e) j)

pub entry_most : (j : ℕ) → entry j ≤ 2 ^ 30
unfolding quarter
entry_most j = falls_most _ (2 ^ 30) table_falls j
