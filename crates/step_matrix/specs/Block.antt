-- "The matrix has each node's sum of conductances, lines included, on the diagonal and minus the sum of the joining conductances elsewhere": one entry
-- as legs are added, and how large it gets; the block of an area's free nodes, from line `base` of the table on, and its factors. Assumes nothing.
use Rattle.whole.specs.Plain.{ℕ, refl, sym, ap, ◌∙◌, Bool, true, false, cond, List, map, eqb}
use Rattle.whole.specs.Plain.{ℤ, pos, neg_ℤ, +ℤ_idr, neg_ℤ-+ℤ, get_or, length, take, get_or-replicate, take_all}
use Rattle.whole.specs.Plain.{eqb-true, arith, z, total}
use Rattle.std.specs.Prelude.{Float, ◌+◌, ◌^◌, ◌≤◌, ◌<◌, ◌≡◌, ◌+ℤ◌, ◌-ℤ◌}
use Rattle.std.specs.Float.{nan, binary64}
use Rattle.std.specs.Float.Ieee.{of_int}
use Rattle.whole.specs.Size.{∣◌∣≤◌, weaken}
use Rattle.whole.specs.Int.{abs_neg}
use Rattle.paper.specs.Doubles.{double}
use Rattle.paper.specs.Legs.{Leg}
use Rattle.paper.specs.Elimination.{line, cell}
use Rattle.paper.specs.Solve.{nought, leaves, entry}
use Rattle.step_legs.specs.declared.Wire.{Wire}
use Rattle.step_legs.specs.Wires.{wire_at, legs_in, Wires, leg_at}
use Rattle.step_legs.specs.Leaving.{legs_length, leaving, leaving_more}
use Rattle.step_legs.specs.Shares.{g_is, g_size, conductance, toward, entry_same, entry_other, conductance_sum, toward_sum}
use Rattle.step_legs.specs.Free.{Free}
use Rattle.step_factors.specs.Factors.{Serves}
use Rattle.step_factors.specs.Factored.{factored}
use Rattle.step_factors.specs.Serving.{square_serves}
use Rattle.step_factors.specs.Blocks.{Renewed, renewed_none, renewed_then, factored_renewed, serves_cells}
use Rattle.step_factors.specs.Positions.{bare}
use Rattle.step_factors.specs.Proposed.{matrix_of, matrix_cell}
use Rattle.step_matrix.specs.Exact.{zero_exact, more_exact, less_exact}
use Rattle.step_matrix.specs.Placed.{Placed, placed_is, places_apart}
use Rattle.step_matrix.specs.Joined.{joined, share, joined_at, joined_renewed}
use Rattle.step_matrix.specs.Cleared.{Cleared}

-- an entry with a leg of conductance g more: whether the leg leaves the entry's node, whether the entry is that node's pivot, whether the leg leads to
-- the entry's other node
abbrev pub grown : Bool → Bool → Bool → ℕ → ℤ → ℤ
grown from own to g x = cond from (cond own (x +ℤ pos g) (cond to (x -ℤ pos g) x)) x

rises : (s : Bool) (g : ℕ) (x : ℤ) → x +ℤ cond s (pos g) z ≡ cond s (x +ℤ pos g) x
rises true g x = refl
rises false g x = +ℤ_idr x

falls : (s t : Bool) (g : ℕ) (x : ℤ) → neg_ℤ (x +ℤ cond s (cond t (pos g) z) z) ≡ cond s (cond t (neg_ℤ x -ℤ pos g) (neg_ℤ x)) (neg_ℤ x)
falls true true g x = neg_ℤ-+ℤ x (pos g)
falls true false g x = ap neg_ℤ (+ℤ_idr x)
falls false t g x = ap neg_ℤ (+ℤ_idr x)

module _ {legs : List Wire} (w : Wires legs) (j : ℕ) (p q : ℕ) where
  abbrev some : List Leg
  some = take j (legs_in legs)

  abbrev l : Leg
  l = leg_at legs j

  pub entry_size : j ≤ length legs → ∣ entry some p q ∣≤ (2 ^ 52)
  entry_size h = elim (eqb p q) as (λ t. eqb p q ≡ t → ∣ entry some p q ∣≤ (2 ^ 52)) [
    | true ↦ λ e. let k : p ≡ q = eqb-true p q e in rw (← k, entry_same some p) (weaken (conductance_sum w p j h) tt)
    | false ↦ λ e. rw (entry_other some p q e) (record { size = omega (arith, abs_neg (leaving p (toward q) some), (toward_sum w p j h q).size) })
  ] refl

  pub entry_more : j < length legs
      → entry (take (j + 1) (legs_in legs)) p q ≡ grown (leaves p l) (eqb p q) (eqb l.far q) l.g (entry some p q)
  unfolding toward
  entry_more h = by_test (eqb p q) refl
    where
      by_test : (t : Bool) → eqb p q ≡ t → entry (take (j + 1) (legs_in legs)) p q ≡ grown (leaves p l) t (eqb l.far q) l.g (entry some p q)
      by_test true e =
          let k : p ≡ q = eqb-true p q e in
          rw (← k)
          (entry_same (take (j + 1) (legs_in legs)) p ∙ leaving_more legs j h p conductance
          ∙ ap (λ (x : ℤ). x +ℤ cond (leaves p l) (pos l.g) z) (sym (entry_same some p)) ∙ rises (leaves p l) l.g (entry some p p))
      by_test false e =
          entry_other (take (j + 1) (legs_in legs)) p q e
          ∙ ap neg_ℤ (leaving_more legs j h p (toward q))
          ∙ falls (leaves p l) (eqb l.far q) l.g (leaving p (toward q) some)
          ∙ ap (λ (x : ℤ). cond (leaves p l) (cond (eqb l.far q) (x -ℤ pos l.g) x) x) (sym (entry_other some p q e))

-- the table a has become b: its block is the matrix of these legs
pub record Block (legs : List Leg) (free : List ℕ) (base : ℕ) (a b : List (List Float)) : Type 0 where
  pub renewed : Renewed base (length free) a b
  pub at : (p q : ℕ) → p < length free → q < length free → cell (line b (base + p)) q ≡ double (entry legs (get_or free p 0) (get_or free q 0))

-- no leg
pub block_none : {free : List ℕ} {base : ℕ} {a b : List (List Float)} (legs : List Wire) → base + length free ≤ 32 → Cleared base (length free) (length free) a b
    → Block (take 0 (legs_in legs)) free base b b
unfolding entry total
block_none {free} {base} legs room c = record {
  renewed = renewed_none base (length free) c.renewed.square;
  at = λ p q l m. rw (c.none p l) (get_or-replicate 32 q nought nan (omega arith) ∙ either (eqb (get_or free p 0) (get_or free q 0)));
}
  where
    either : (t : Bool) → nought ≡ double (cond t z (neg_ℤ z))
    either true = sym zero_exact
    either false = sym zero_exact

-- one leg more: what the table's cell becomes is the double of what the entry becomes
cell_more : (s t u : Bool) {x : ℤ} {g : ℕ} → ∣ x ∣≤ (2 ^ 52) → g ≤ 10 ^ 9
    → cond s (share t u (of_int binary64 (pos g)) (double x)) (double x) ≡ double (grown s t u g x)
cell_more true true u p q = more_exact p q
cell_more true false true p q = less_exact p q
cell_more true false false p q = refl
cell_more false t u p q = refl

module _ {legs : List Wire} (w : Wires legs) {free place : List ℕ} (f : Free free) (s : Placed free place (length free)) {base : ℕ} (room : base + length free ≤ 32)
    (j : ℕ) (h : j < length legs) {a b : List (List Float)} (r : Block (take j (legs_in legs)) free base a b) where
  abbrev leg : Wire
  leg = wire_at legs j

  abbrev next : List (List Float)
  next = joined base (length free) (get_or place leg.near 0) (get_or place leg.far 0) (of_int binary64 leg.g) b

  pub block_more : Block (take (j + 1) (legs_in legs)) free base a next
  unfolding leaves
  block_more =
      let v = w.wired j h in
      rw (← g_is v)
      (record {
        renewed = joined_renewed base (length free) r.renewed.square room _ _ _ r.renewed;
        at = λ p q l m.
            let n = get_or free p 0 in
            let k = get_or free q 0 in
            joined_at base (length free) r.renewed.square room _ _ _ p q l m
            ∙ rw (r.at p q l m, ← placed_is f s leg.near p v.near_end l, ← placed_is f s leg.far q v.far_end m, ← places_apart f s p q l m)
            (cell_more (eqb leg.near n) (eqb n k) (eqb leg.far k) (entry_size w j n k (omega arith)) (g_size v).size ∙ ap double (sym (entry_more w j n k h)));
      })

-- all legs, over the cleared block
pub block_all : (legs : List Wire) {free : List ℕ} {base : ℕ} (j : ℕ) {a b c : List (List Float)} → length legs ≤ j → Cleared base (length free) (length free) a b
    → Block (take j (legs_in legs)) free base b c → Block (legs_in legs) free base a c
block_all legs j h d r =
    let e : take j (legs_in legs) ≡ legs_in legs = take_all j (legs_in legs) (omega (arith, legs_length legs)) in
    record { renewed = renewed_then d.renewed r.renewed; at = rw e at r.at }

-- ---- its factors
module _ {legs : List Leg} {free : List ℕ} {base : ℕ} {a b : List (List Float)} (room : base + length free ≤ 32) (r : Block legs free base a b) where
  pub block_serves : Serves base (length free) (matrix_of (map bare legs) free) (factored base (length free) b)
  block_serves = serves_cells (λ p q l m. r.at p q l m ∙ sym (matrix_cell legs free p q m)) (square_serves base (length free) b r.renewed.square room)

  pub block_renewed : Renewed base (length free) a (factored base (length free) b)
  block_renewed = renewed_then r.renewed (factored_renewed base (length free) b r.renewed.square room)
