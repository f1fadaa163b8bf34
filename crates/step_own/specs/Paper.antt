-- An area's own legs, against both legs of every row: the paper's sums, its equations and its search for a floating node are the same over either, for an
-- end that is not the area's is idle. Assumes nothing.
use Rattle.std.specs.Prelude.{◌+◌, ◌*◌, ◌≤◌, ◌<◌, ◌≡◌, ◌∷◌, ◌+ℤ◌, ◌-ℤ◌, ◌*ℤ◌}
use Rattle.whole.specs.Plain.{ℕ, zero, suc, refl, sym, ap, ◌∙◌, Bool, true, false, cond, not}
use Rattle.whole.specs.Plain.{List, [], map, ℤ, pos, +ℤ_idl, zero-*ℤ, length, get_or, arith, Words}
use Rattle.whole.specs.Plain.{z, word, numbers, keep, total, up_to, filled}
use Rattle.whole.specs.Folds.{map_cong}
use Rattle.paper.specs.declared.Equation.{Equation}
use Rattle.paper.specs.Limits as Limits
use Rattle.paper.specs.Doubles.{double}
use Rattle.paper.specs.Areas.{Net}
use Rattle.paper.specs.Legs.{Leg, idle, Branch, legs_by, legs_of, heard, both_legs, through, current}
use Rattle.paper.specs.Floating.{conducting, reached, floating}
use Rattle.paper.specs.Solve.{nought, leaves, leads, entry, right_side, imbalance, matrix_row, equation, system, proposed, unbalanced}
use Rattle.plan_ends.specs.Own.{own_end, own_ends}
use Rattle.step_legs.specs.Free.{first_cong}
use Rattle.step_own.specs.Ends.{leg_of_end, end_leg}
use Rattle.step_own.specs.EndLegs.{from_leg, to_leg}

-- both legs of each branch, leg by leg
both_legs_lem : (b : ℕ → Branch) (f : ℕ → Leg) (i n : ℕ) → ((j : ℕ) → i ≤ j → j < i + n → (f (2 * j) ≡ (b j).is_from_end.wire) × (f (2 * j + 1) ≡ (b j).is_to_end.wire))
    → map f (numbers (2 * i) (2 * n)) ≡ both_legs (map b (numbers i n))
unfolding both_legs numbers
both_legs_lem b f i zero h = refl
both_legs_lem b f i (suc n) h =
    let e : 2 * suc n ≡ suc (suc (2 * n)) = omega arith in
    let p : suc (2 * i) ≡ 2 * i + 1 = omega arith in
    let q : suc (suc (2 * i)) ≡ 2 * suc i = omega arith in
    let o = h i (omega arith) (omega arith) in
    rw (e, q, p, o.0, o.1) (ap (λ (t : List Leg). (b i).is_from_end.wire ∷ ((b i).is_to_end.wire ∷ t)) (both_legs_lem b f (suc i) n (λ j lo hi. h j (omega arith) (omega arith))))

-- ---- over those kept, and over all with idle ones in place of the others
module _ (p : ℕ → Bool) (g : ℕ → Leg) where
  abbrev or_idle : ℕ → Leg
  or_idle e = cond (p e) (g e) idle

  total_kept : (f : Leg → ℤ) → f idle ≡ z → (l : List ℕ) → total f (map g (keep p l)) ≡ total f (map or_idle l)
  unfolding total keep
  total_kept f h [] = refl
  total_kept f h (e ∷ l) = elim (p e) as (λ b. total f (map g (keep p l)) ≡ total f (map or_idle l) → total f (map g (cond b (e ∷ keep p l) (keep p l))) ≡ f (cond b (g e) idle) +ℤ total f (map or_idle l)) [
    | true ↦ λ r. ap (λ (x : ℤ). f (g e) +ℤ x) r
    | false ↦ λ r. r ∙ rw h (sym (+ℤ_idl _))
  ] (total_kept f h l)

  conducting_kept : (l : List ℕ) → keep conducting (map g (keep p l)) ≡ keep conducting (map or_idle l)
  unfolding keep
  conducting_kept [] = refl
  conducting_kept (e ∷ l) = by (p e) (conducting_kept l)
    where
      by : (b : Bool) → keep conducting (map g (keep p l)) ≡ keep conducting (map or_idle l) → keep conducting (map g (cond b (e ∷ keep p l) (keep p l))) ≡ keep conducting (cond b (g e) idle ∷ map or_idle l)
      by true r = ap (λ (t : List Leg). cond (conducting (g e)) (g e ∷ t) t) r
      by false r = r

-- ---- a step's equations: the same sums, and injections that agree at the free nodes
module _ (legs legs' : List Leg) (free : List ℕ) (same-entry : (p q : ℕ) → entry legs p q ≡ entry legs' p q) (still : Words) (f g : ℕ → ℤ) (same-inject : (i : ℕ) → i < length free → f (get_or free i 0) ≡ g (get_or free i 0)) where
  module _ (same-right : (x : ℤ) (p : ℕ) → right_side legs still x p ≡ right_side legs' still x p) where
    rows_same : (l : List ℕ) → ((i : ℕ) → i < length l → f (get_or l i 0) ≡ g (get_or l i 0)) → map (equation legs still f) l ≡ map (equation legs' still g) l
    unfolding equation
    rows_same [] h = refl
    rows_same (p ∷ l) h =
        rw (same-entry p p, h 0 (omega arith), same-right (g p) p) (ap (λ (t : List Equation). equation legs' still g p ∷ t) (rows_same l (λ i k. h (suc i) (omega arith))))

    lines_same : map (matrix_row legs free) free ≡ map (matrix_row legs' free) free
    unfolding matrix_row
    lines_same = map_cong (matrix_row legs free) (matrix_row legs' free) free (λ p. ap (filled Limits.node_end nought) (map_cong (λ q. double (entry legs p q)) (λ q. double (entry legs' p q)) free (λ q. ap double (same-entry p q))))

    pub proposed_same : proposed legs free still f ≡ proposed legs' free still g
    unfolding proposed system
    proposed_same = rw (lines_same, rows_same free same-inject)

pub unbalanced_same : (most : ℕ) (legs legs' : List Leg) (free : List ℕ) (v : Words) (f g : ℕ → ℤ) → ((h : ℕ → ℤ) (p : ℕ) → imbalance legs h v p ≡ imbalance legs' h v p)
    → ((i : ℕ) → i < length free → f (get_or free i 0) ≡ g (get_or free i 0)) → unbalanced most legs f v free ≡ unbalanced most legs' g v free
unfolding unbalanced imbalance
unbalanced_same most legs legs' free v f g same h =
    first_cong _ _ free (λ i k. ap (λ (x : ℤ). not (up_to most x)) (same f (get_or free i 0) ∙ ap (λ (x : ℤ). total (λ l. cond (leaves (get_or free i 0) l) (current v l) z) legs' -ℤ x) (h i k)))

-- ---- of an area's step
module _ (N : Net) (a k : ℕ) (recs froms tos : Words) (one : 1 ≤ a) where
  abbrev pub branches : List Branch
  branches = legs_of N a k recs (heard N a k froms tos)

  abbrev own : List Leg
  own = map (leg_of_end N k recs froms tos) (own_ends N a)

  both : map (end_leg N a k recs froms tos) (numbers 0 (2 * length N.rows)) ≡ both_legs branches
  unfolding legs_of
  both = both_legs_lem (legs_by N a k recs (heard N a k froms tos)) (end_leg N a k recs froms tos) 0 (length N.rows) (λ j lo hi. (from_leg N a k recs froms tos j (omega arith) one, to_leg N a k recs froms tos j (omega arith) one))

  -- any sum to which an idle leg adds nothing
  pub own_total : (f : Leg → ℤ) → f idle ≡ z → total f own ≡ total f (both_legs branches)
  unfolding own_ends end_leg
  own_total f i = total_kept (own_end N a) (leg_of_end N k recs froms tos) f i (numbers 0 (2 * length N.rows)) ∙ ap (total f) both

  none : (t : Bool) → cond t z z ≡ z
  none true = refl
  none false = refl

  pub own_entry : (p q : ℕ) → entry own p q ≡ entry (both_legs branches) p q
  unfolding entry
  own_entry p q = rw (own_total (λ x. cond (leaves p x) (pos x.g) z) (none (leaves p idle)), own_total (λ x. cond (leads p q x) (pos x.g) z) (none (leads p q idle)))

  pub own_right : (still : Words) (inject : ℤ) (p : ℕ) → right_side own still inject p ≡ right_side (both_legs branches) still inject p
  unfolding right_side
  own_right still inject p = ap (λ (x : ℤ). inject -ℤ x) (own_total (λ x. cond (leaves p x) (x.h -ℤ pos x.g *ℤ word still x.far) z) (rw zero-*ℤ (none (leaves p idle))))

  pub own_imbalance : (v : Words) (inject : ℕ → ℤ) (p : ℕ) → imbalance own inject v p ≡ imbalance (both_legs branches) inject v p
  unfolding imbalance current through
  own_imbalance v inject p = ap (λ (x : ℤ). x -ℤ inject p) (own_total (λ x. cond (leaves p x) (current v x) z) (rw zero-*ℤ (none (leaves p idle))))

  pub own_floating : (fix : ℕ → Bool) (nodes : ℕ) (free : List ℕ) → floating fix nodes free own ≡ floating fix nodes free (both_legs branches)
  unfolding floating reached own_ends end_leg
  own_floating fix nodes free = rw (conducting_kept (own_end N a) (leg_of_end N k recs froms tos) (numbers 0 (2 * length N.rows)), both)

  module _ (free : List ℕ) (f g : ℕ → ℤ) (same : (i : ℕ) → i < length free → f (get_or free i 0) ≡ g (get_or free i 0)) where
    pub own_proposed : (still : Words) → proposed own free still f ≡ proposed (both_legs branches) free still g
    own_proposed still = proposed_same own (both_legs branches) free own_entry still f g same (own_right still)

    pub own_unbalanced : (most : ℕ) (v : Words) → unbalanced most own f v free ≡ unbalanced most (both_legs branches) g v free
    own_unbalanced most v = unbalanced_same most own (both_legs branches) free v f g (own_imbalance v) same
