-- "Balance.": the sum over a step's legs that refusal 16 judges is the sum over the rows of the currents in the records. Assumes nothing.
use Rattle.std.specs.Prelude.{◌+◌, ◌<◌, ◌≡◌, ◌∷◌, ◌+ℤ◌, ◌-ℤ◌, ◌*ℤ◌}
use Rattle.whole.specs.Plain.{ℕ, zero, suc, refl, sym, ap, ◌∙◌, Bool, true, false, cond, List, []}
use Rattle.whole.specs.Plain.{map, eqb, ℤ, pos, neg_ℤ, +ℤ_assoc, length, get_or, ne_eqb, ℕ_discrete}
use Rattle.whole.specs.Plain.{arith, z, word, numbers, total}
use Rattle.whole.specs.Folds.{both}
use Rattle.whole.specs.Int.{ring_laws}
use Rattle.paper.specs.Rows.{Row, is_branch, is_line, from, to}
use Rattle.paper.specs.Conductance.{conductance}
use Rattle.paper.specs.Areas.{Net, area_of, row_area, step}
use Rattle.paper.specs.Sources.{injected}
use Rattle.paper.specs.Records.{history_at}
use Rattle.paper.specs.Legs.{Leg, leg, idle, End, own_end, other_end, Branch, conducts, plain_legs, legs_of, both_legs, through, current}
use Rattle.paper.specs.Solve.{imbalance}
use Rattle.paper.specs.Solve as Solve
use Rattle.paper.specs.Advance.{Memory, written}
use Rattle.laws_facts.specs.Nets.{row_at, row_area_from, row_area_to}
use Rattle.laws_local.specs.Own.{deaf}
use Rattle.laws_local.specs.Nodes.{NodeOf}
use Rattle.laws_local.specs.Written.{current_put, to_put}
use Rattle.laws_local.specs.Outcome.{legs_now}
use Rattle.laws_demands.specs.Said.{from_current, to_current, at_end, leaves, imbalance_at, offer}
use Rattle.laws_demands.specs.Judged.{Asked}
use Rattle.laws_demands.specs.Branches.{now, snd, from_leg, to_leg, from_else, to_else, plain_legs_lem, row_else}

-- ---- sums over both legs of each row

both_total : (f : Leg → ℤ) (c : ℕ → Branch) (l : List ℕ) → total f (both_legs (map c l)) ≡ total (λ i. f (c i).is_from_end.wire +ℤ f (c i).is_to_end.wire) l
unfolding total both_legs
both_total f c [] = refl
both_total f c (i ∷ l) = rw (both_total f c l) (sym (+ℤ_assoc (f (c i).is_from_end.wire) (f (c i).is_to_end.wire) _))

total_same : (f g : ℕ → ℤ) (i n : ℕ) → ((x : ℕ) → x < i + n → f x ≡ g x) → total f (numbers i n) ≡ total g (numbers i n)
unfolding total numbers
total_same f g i zero h = refl
total_same f g i (suc n) h = rw (h i (omega arith), total_same f g (suc i) n (λ x l. h x (omega arith)))

-- the to leg of an R, L, C or SW carries its from current the other way
turned : (c : ℕ) (f t h : ℤ) → pos c *ℤ (t -ℤ f) +ℤ neg_ℤ h ≡ neg_ℤ (pos c *ℤ (f -ℤ t) +ℤ h)
turned c f t h = simp ring_laws

module _ (N : Net) (a : ℕ) (m : Memory) (ok : Asked N a m) where
  open now N a m use {k, ears, v, by}

  abbrev n : Memory
  n = offer N a m

  module _ (p : ℕ) (node : NodeOf N a p) where
    abbrev share : Leg → ℤ
    share l = cond (Solve.leaves p l) (current v l) z

    nothing_leaves : share idle ≡ z
    unfolding Solve.leaves
    nothing_leaves = rw (ne_eqb 0 p (λ e. omega (arith, node.low)))

    -- another area's end is not at p
    elsewhere : (q : ℕ) (x : ℤ) → (q ≡ p → ⊥) → at_end p q x ≡ z
    elsewhere q x h = rw (ne_eqb q p h)

    module _ (i : ℕ) (there : i < length N.rows) where
      abbrev r : Row
      r = row_at N i

      written_from : (by i).is_from_end.own ≡ true → from_current n i ≡ current v (by i).is_from_end.wire
      unfolding written
      written_from o = current_put N a k m.records ears v (snd N a m ok) m.records ok.long.records i there o

      written_to : is_line r ≡ true → (by i).is_to_end.own ≡ true → to_current n i ≡ current v (by i).is_to_end.wire
      unfolding written
      written_to l o = to_put N a k m.records ears v (snd N a m ok) m.records ok.long.records i there (both l o)

      -- an end of a line: it is the area's own, or it is not at p
      line_end_lem : (q : ℕ) (e : End) (w : Leg) (x : ℤ) → w.near ≡ q → (area_of N q ≡ a → (e ≡ own_end w) × (x ≡ current v e.wire)) → ((area_of N q ≡ a → ⊥) → e ≡ other_end)
          → share e.wire ≡ at_end p q x
      unfolding Solve.leaves
      line_end_lem q e w x near own other = go (ℕ_discrete (area_of N q) a)
        where
          go : Dec (area_of N q ≡ a) → share e.wire ≡ at_end p q x
          go (yes h) =
              let is = (own h).0 in
              rw ((own h).1, ← near) (ap (λ (y : End). cond (eqb y.wire.near p) (current v y.wire) z) is ∙ sym (ap (λ (y : End). cond (eqb w.near p) (current v y.wire) z) is))
          go (no d) = ap (λ (y : End). share y.wire) (other d) ∙ nothing_leaves ∙ sym (elsewhere q x (λ h. d (ap (area_of N) h ∙ node.area)))

      from_share : is_line r ≡ true → share (by i).is_from_end.wire ≡ at_end p (from r) (from_current n i)
      from_share l =
          line_end_lem (from r) (by i).is_from_end (leg (from r) 0 (conductance (step N) r) (get_or ears i deaf).at_from) (from_current n i) refl
          (λ e. let is = from_leg N a k m.records ears i l e in (is, written_from (ap (λ (x : End). x.own) is))) (from_else N a k m.records ears i l)

      to_share : is_line r ≡ true → share (by i).is_to_end.wire ≡ at_end p (to r) (to_current n i)
      to_share l =
          line_end_lem (to r) (by i).is_to_end (leg (to r) 0 (conductance (step N) r) (get_or ears i deaf).at_to) (to_current n i) refl
          (λ e. let is = to_leg N a k m.records ears i l e in (is, written_to l (ap (λ (x : End). x.own) is))) (to_else N a k m.records ears i l)

      -- a row of the area, and another one, no end of which is at p
      plain_share : is_line r ≡ false → is_branch r ≡ true → row_area N r ≡ a
          → share (by i).is_from_end.wire +ℤ share (by i).is_to_end.wire ≡ at_end p (from r) (from_current n i) +ℤ at_end p (to r) (neg_ℤ (from_current n i))
      unfolding Solve.leaves plain_legs current through
      plain_share l b e =
          let is = plain_legs_lem N a k m.records ears i l b e in
          let w : from_current n i ≡ current v (leg (from r) (to r) (conducts N m.records k i) (word m.records (history_at i))) =
          written_from (ap (λ (x : Branch). x.is_from_end.own) is) ∙ ap (λ (x : Branch). current v x.is_from_end.wire) is in
          ap (λ (x : Branch). share x.is_from_end.wire +ℤ share x.is_to_end.wire) is
          ∙ rw (w, turned (conducts N m.records k i) (word v (from r)) (word v (to r)) (word m.records (history_at i)))

      other_share : is_line r ≡ false → is_branch r ≡ true → (row_area N r ≡ a → ⊥)
          → share (by i).is_from_end.wire +ℤ share (by i).is_to_end.wire ≡ at_end p (from r) (from_current n i) +ℤ at_end p (to r) (neg_ℤ (from_current n i))
      other_share l b d =
          let is = row_else N a k m.records ears i l (rw (b, ne_eqb (row_area N r) a d)) in
          ap (λ (x : Branch). share x.is_from_end.wire +ℤ share x.is_to_end.wire) is
          ∙ rw (
            nothing_leaves,
            elsewhere (from r) (from_current n i) (λ e. d (row_area_from N ok.net i there b l (omega (arith, node.low)) ∙ ap (area_of N) e ∙ node.area)),
            elsewhere (to r) (neg_ℤ (from_current n i)) (λ e. d (row_area_to N ok.net i there b l (omega (arith, node.low)) ∙ ap (area_of N) e ∙ node.area)),
          )

      row_share : share (by i).is_from_end.wire +ℤ share (by i).is_to_end.wire ≡ leaves N n p i
      unfolding leaves
      row_share = go (is_line r) (is_branch r) refl refl (ℕ_discrete (row_area N r) a)
        where
          go : (x y : Bool) → is_line r ≡ x → is_branch r ≡ y → Dec (row_area N r ≡ a)
              → share (by i).is_from_end.wire +ℤ share (by i).is_to_end.wire
              ≡ cond x (at_end p (from r) (from_current n i) +ℤ at_end p (to r) (to_current n i)) (cond y (at_end p (from r) (from_current n i) +ℤ at_end p (to r) (neg_ℤ (from_current n i))) z)
          go true y l b d = rw (from_share l, to_share l)
          go false true l b (yes e) = plain_share l b e
          go false true l b (no d) = other_share l b d
          go false false l b d =
              ap (λ (x : Branch). share x.is_from_end.wire +ℤ share x.is_to_end.wire) (row_else N a k m.records ears i l (rw b)) ∙ rw nothing_leaves

    -- what refusal 16 judges
    pub imbalance_is : imbalance (both_legs (legs_now N a m)) (injected N k) v p ≡ imbalance_at N k n p
    unfolding imbalance imbalance_at legs_of
    imbalance_is =
        ap (λ (x : ℤ). x -ℤ injected N k p)
        (both_total share by (numbers 0 (length N.rows)) ∙ total_same _ _ 0 (length N.rows) (λ i l. row_share i (omega arith)))
