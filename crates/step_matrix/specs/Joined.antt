-- One leg into the table: its near node's pivot grows by g, and where its far node is free too the cell between them falls by g. Assumes nothing.
use Rattle.whole.specs.Plain.{ℕ, refl, sym, ap, ◌∙◌, Bool, true, false, cond, List, [], eqb, ltb}
use Rattle.whole.specs.Plain.{set, length, length-set, get_or-set_same, get_or-set_other, ltb-true, ltb-false, eqb-true}
use Rattle.whole.specs.Plain.{eqb-false, arith}
use Rattle.std.specs.Float.Ieee as Ieee
use Rattle.std.specs.Prelude.{Float, ◌+◌, ◌≤◌, ◌<◌, ◌≡◌}
use Rattle.std.specs.Float.Ieee.{nan, binary64}
use Rattle.whole.specs.Written.{set_at}
use Rattle.paper.specs.Elimination.{line, cell}
use Rattle.step_factors.specs.Factors.{Square}
use Rattle.step_factors.specs.Blocks.{Renewed, renewed_set}

-- the line of place p, with a leg of conductance g to place q; a place of n or more is no free node's
unfoldable pub fallen : ℕ → ℕ → Float → List Float → List Float
fallen n q g l = cond (ltb q n) (set l q (Ieee.sub binary64 (cell l q) g)) l

unfoldable pub line_joined : ℕ → ℕ → ℕ → Float → List Float → List Float
line_joined n p q g l = set (fallen n q g l) p (Ieee.add binary64 (cell l p) g)

unfoldable pub joined : ℕ → ℕ → ℕ → ℕ → Float → List (List Float) → List (List Float)
joined base n p q g a = cond (ltb p n) (set a (base + p) (line_joined n p q g (line a (base + p)))) a

-- x, where it is at the leg's own place, between its places, or neither
abbrev pub share : Bool → Bool → Float → Float → Float
share own between g x = cond own (Ieee.add binary64 x g) (cond between (Ieee.sub binary64 x g) x)

module _ {n : ℕ} (q : ℕ) (g : Float) (l : List Float) (few : n ≤ 32) (long : length l ≡ 32) where
  fallen_long : length (fallen n q g l) ≡ 32
  unfolding fallen
  fallen_long = elim (ltb q n) as (λ t. length (cond t (set l q (Ieee.sub binary64 (cell l q) g)) l) ≡ 32) [ true ↦ length-set l q _ ∙ long | false ↦ long ]

  fallen_at : (b : ℕ) → b < n → cell (fallen n q g l) b ≡ cond (eqb q b) (Ieee.sub binary64 (cell l b) g) (cell l b)
  unfolding fallen
  fallen_at b m = by_place (ltb q n) refl (eqb q b) refl
    where
      by_place : (s : Bool) → ltb q n ≡ s → (t : Bool) → eqb q b ≡ t
          → cell (cond s (set l q (Ieee.sub binary64 (cell l q) g)) l) b ≡ cond t (Ieee.sub binary64 (cell l b) g) (cell l b)
      by_place true e true d = let k : q ≡ b = eqb-true q b d in rw k (get_or-set_same l b _ nan (omega arith))
      by_place true e false d = get_or-set_other l q b _ nan (λ k. eqb-false q b d (sym k))
      by_place false e true d = let k : q ≡ b = eqb-true q b d in absurd (omega (arith, ltb-false q n e))
      by_place false e false d = refl

  line_long : (p : ℕ) → length (line_joined n p q g l) ≡ 32
  unfolding line_joined
  line_long p = length-set (fallen n q g l) p _ ∙ fallen_long

  line_at : (p b : ℕ) → b < n → cell (line_joined n p q g l) b ≡ share (eqb p b) (eqb q b) g (cell l b)
  unfolding line_joined
  line_at p b m = set_at (fallen n q g l) p b _ nan (omega (arith, fallen_long)) ∙ by_place (eqb p b) refl
    where
      by_place : (t : Bool) → eqb p b ≡ t → cond t (Ieee.add binary64 (cell l p) g) (cell (fallen n q g l) b) ≡ share t (eqb q b) g (cell l b)
      by_place true e = let k : p ≡ b = eqb-true p b e in rw k
      by_place false e = fallen_at b m

module _ (base n : ℕ) {a : List (List Float)} (square : Square a) (room : base + n ≤ 32) (p q : ℕ) (g : Float) where
  -- each cell of the block
  pub joined_at : (i b : ℕ) → i < n → b < n
      → cell (line (joined base n p q g a) (base + i)) b ≡ cond (eqb p i) (share (eqb i b) (eqb q b) g (cell (line a (base + i)) b)) (cell (line a (base + i)) b)
  unfolding joined
  joined_at i b h m = by_place (ltb p n) refl (eqb p i) refl
    where
      by_place : (s : Bool) → ltb p n ≡ s → (t : Bool) → eqb p i ≡ t
          → cell (line (cond s (set a (base + p) (line_joined n p q g (line a (base + p)))) a) (base + i)) b ≡ cond t (share (eqb i b) (eqb q b) g (cell (line a (base + i)) b)) (cell (line a (base + i)) b)
      by_place true e true d =
          let k : p ≡ i = eqb-true p i d in
          rw (k, get_or-set_same a (base + i) (line_joined n i q g (line a (base + i))) [] (omega (arith, square.lines)))
          (line_at q g (line a (base + i)) (omega arith) (square.line (base + i) (omega arith)) i b m)
      by_place true e false d = ap (λ (l : List Float). cell l b) (get_or-set_other a (base + p) (base + i) _ [] (λ k. eqb-false p i d (omega arith)))
      by_place false e true d = let k : p ≡ i = eqb-true p i d in absurd (omega (arith, ltb-false p n e))
      by_place false e false d = refl

  -- and no line past it
  pub joined_renewed : {start : List (List Float)} → Renewed base n start a → Renewed base n start (joined base n p q g a)
  unfolding joined
  joined_renewed {start} r = elim (ltb p n) as (λ s. ltb p n ≡ s → Renewed base n start (cond s (set a (base + p) (line_joined n p q g (line a (base + p)))) a)) [
    | true ↦ λ e. let h : p < n = ltb-true p n e in renewed_set p _ h (line_long q g (line a (base + p)) (omega arith) (square.line (base + p) (omega arith)) p) r
    | false ↦ λ e. r
  ] refl
