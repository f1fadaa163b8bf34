-- The legs that conduct, and the rows that they are of: a line's end is a leg to ground, and every other is an R, L, C or closed SW. Assumes nothing.
use Rattle.std.specs.Prelude.{◌<◌, ◌≡◌, ◌⊎◌, ◌&&◌, ◌∷◌}
use Rattle.whole.specs.Plain.{ℕ, refl, sym, ap, subst, inl, inr, Bool, true, false, cond, not}
use Rattle.whole.specs.Plain.{true≢false, List, [], Mem-cases_cons, Mem-not_nil, eqb, ℤ, length, get_or}
use Rattle.whole.specs.Plain.{eq-eqb, arith, Words, z, word, numbers}
use Rattle.whole.specs.Folds.{and_left}
use Rattle.whole.specs.Members.{Among, top, below, among_map, map_among, among_numbers, numbers_among}
use Rattle.paper.specs.Rows.{Row, is_branch, is_line, from, to}
use Rattle.paper.specs.Conductance.{conductance}
use Rattle.paper.specs.Areas.{Net, row_area, step}
use Rattle.paper.specs.Records.{history_at}
use Rattle.paper.specs.Legs.{Leg, leg, own_end, other_end, Branch, branch, Heard, here, is_open, conducts, line_end, line_legs, plain_legs, legs_by, legs_of, both_legs}
use Rattle.paper.specs.Floating.{conducting}
use Rattle.laws_facts.specs.Nets.{row_at}
use Rattle.laws_floats.specs.HasPath.{Conducts, Between}

-- ---- the legs of some branches

pub record Either-leg (bs : List Branch) (l : Leg) : Type 0 where
  pub branch : Branch
  pub among : Among branch bs
  pub is : (l ≡ branch.is_from_end.wire) ⊎ (l ≡ branch.is_to_end.wire)

legs_among : (bs : List Branch) {l : Leg} → Among l (both_legs bs) → Either-leg bs l
unfolding both_legs
legs_among [] i = absurd (Mem-not_nil i)
legs_among (b ∷ bs) {l} i = go (Mem-cases_cons i) (λ j. legs_among bs j)
  where
    later : Either-leg bs l → Either-leg (b ∷ bs) l
    later e = record { branch = e.branch; among = below e.among; is = e.is }

    second : (l ≡ b.is_to_end.wire) ⊎ Among l (both_legs bs) → (Among l (both_legs bs) → Either-leg bs l) → Either-leg (b ∷ bs) l
    second (inl e) more = record { branch = b; among = top refl; is = inr e }
    second (inr j) more = later (more j)

    go : (l ≡ b.is_from_end.wire) ⊎ Among l (b.is_to_end.wire ∷ both_legs bs) → (Among l (both_legs bs) → Either-leg bs l) → Either-leg (b ∷ bs) l
    go (inl e) more = record { branch = b; among = top refl; is = inl e }
    go (inr j) more = second (Mem-cases_cons j) more

among_legs : (bs : List Branch) {b : Branch} → Among b bs → Among b.is_from_end.wire (both_legs bs) × Among b.is_to_end.wire (both_legs bs)
unfolding both_legs
among_legs [] i = absurd (Mem-not_nil i)
among_legs (c ∷ bs) {b} i = go (Mem-cases_cons i) (λ j. among_legs bs j)
  where
    go : (b ≡ c) ⊎ Among b bs → (Among b bs → Among b.is_from_end.wire (both_legs bs) × Among b.is_to_end.wire (both_legs bs))
        → Among b.is_from_end.wire (both_legs (c ∷ bs)) × Among b.is_to_end.wire (both_legs (c ∷ bs))
    go (inl e) more = (top (ap (λ (x : Branch). x.is_from_end.wire) e), below (top (ap (λ (x : Branch). x.is_to_end.wire) e)))
    go (inr j) more = let p = more j in (below (below p.0), below (below p.1))

-- ---- the rows' legs

pub data Of-row (N : Net) (recs : Words) (k : ℕ) (l : Leg) : Type 0 where
  of_line : (i : ℕ) → i < length N.rows → is_line (row_at N i) ≡ true → (from (row_at N i) ≡ l.near) ⊎ (to (row_at N i) ≡ l.near) → l.far ≡ 0 → Of-row N recs k l
  of_branch : (i : ℕ) → i < length N.rows → Conducts N recs k i → Between (row_at N i) l.near l.far → Of-row N recs k l

module _ (N : Net) (a k : ℕ) (recs : Words) (ears : List Heard) where
  abbrev pub legs_in : List Leg
  legs_in = both_legs (legs_of N a k recs ears)

  module _ (i : ℕ) (h : i < length N.rows) where
    abbrev r : Row
    r = row_at N i

    abbrev ear : Heard
    ear = get_or ears i (record { at_from = z; at_to = z })

    abbrev by_kind : Bool → Bool → Branch
    by_kind x y = cond x (line_legs N a k r ear) (cond y (plain_legs r (conducts N recs k i) (word recs (history_at i))) (branch r other_end other_end))

    -- an end that conducts is here
    end_of_lem : (n g : ℕ) (e : ℤ) → is_line r ≡ true → (from r ≡ n) ⊎ (to r ≡ n) → conducting (line_end (here N a n) n g e).wire ≡ true → Of-row N recs k (line_end (here N a n) n g e).wire
    unfolding line_end
    end_of_lem n g e q x = go (here N a n)
      where
        go : (o : Bool) → conducting (cond o (own_end (leg n 0 g e)) other_end).wire ≡ true → Of-row N recs k (cond o (own_end (leg n 0 g e)) other_end).wire
        go true c = of_line i h q x refl
        go false c = absurd (true≢false (sym c))

    shut_of : (o : Bool) (g : ℕ) → not (eqb (cond o 0 g) 0) ≡ true → o ≡ false
    shut_of true g c = absurd (true≢false (sym c))
    shut_of false g c = refl

    branch_of : is_line r ≡ false → is_branch r && eqb (row_area N r) a ≡ true → not (eqb (conducts N recs k i) 0) ≡ true → Conducts N recs k i
    unfolding conducts
    branch_of q b c = record { branch = and_left (is_branch r) (eqb (row_area N r) a) b; plain = q; shut = shut_of (is_open N recs k i) (conductance (step N) r) c }

    from_leg : conducting (legs_by N a k recs ears i).is_from_end.wire ≡ true → Of-row N recs k (legs_by N a k recs ears i).is_from_end.wire
    unfolding legs_by line_legs plain_legs
    from_leg = go (is_line r) (is_branch r && eqb (row_area N r) a) refl refl
      where
        go : (x y : Bool) → is_line r ≡ x → is_branch r && eqb (row_area N r) a ≡ y → conducting (by_kind x y).is_from_end.wire ≡ true → Of-row N recs k (by_kind x y).is_from_end.wire
        go true y p q c = end_of_lem (from r) _ _ p (inl refl) c
        go false true p q c = of_branch i h (branch_of p q c) (inl (refl, refl))
        go false false p q c = absurd (true≢false (sym c))

    to_leg : conducting (legs_by N a k recs ears i).is_to_end.wire ≡ true → Of-row N recs k (legs_by N a k recs ears i).is_to_end.wire
    unfolding legs_by line_legs plain_legs
    to_leg = go (is_line r) (is_branch r && eqb (row_area N r) a) refl refl
      where
        go : (x y : Bool) → is_line r ≡ x → is_branch r && eqb (row_area N r) a ≡ y → conducting (by_kind x y).is_to_end.wire ≡ true → Of-row N recs k (by_kind x y).is_to_end.wire
        go true y p q c = end_of_lem (to r) _ _ p (inr refl) c
        go false true p q c = of_branch i h (branch_of p q c) (inr (refl, refl))
        go false false p q c = absurd (true≢false (sym c))

    -- and what the legs of a row of the area are
    pub line_from : is_line r ≡ true → here N a (from r) ≡ true → (legs_by N a k recs ears i).is_from_end.wire ≡ leg (from r) 0 (conductance (step N) r) ear.at_from
    unfolding legs_by line_legs line_end
    line_from p q = rw (p, q)

    pub line_to : is_line r ≡ true → here N a (to r) ≡ true → (legs_by N a k recs ears i).is_to_end.wire ≡ leg (to r) 0 (conductance (step N) r) ear.at_to
    unfolding legs_by line_legs line_end
    line_to p q = rw (p, q)

    pub plain_from : Conducts N recs k i → row_area N r ≡ a → (legs_by N a k recs ears i).is_from_end.wire ≡ leg (from r) (to r) (conductance (step N) r) (word recs (history_at i))
    unfolding legs_by plain_legs conducts
    plain_from c e = rw (c.plain, c.branch, eq-eqb (row_area N r) a e, c.shut)

  -- every leg that conducts is of some row
  pub leg_of : {l : Leg} → Among l legs_in → conducting l ≡ true → Of-row N recs k l
  unfolding legs_of
  leg_of {l} j c = go (legs_among (legs_of N a k recs ears) j)
    where
      by : (i : ℕ) → i < length N.rows → (l ≡ (legs_by N a k recs ears i).is_from_end.wire) ⊎ (l ≡ (legs_by N a k recs ears i).is_to_end.wire) → Of-row N recs k l
      by i h (inl e) = subst (Of-row N recs k) (sym e) (from_leg i h (rw e at c))
      by i h (inr e) = subst (Of-row N recs k) (sym e) (to_leg i h (rw e at c))

      go : Either-leg (legs_of N a k recs ears) l → Of-row N recs k l
      go e =
          let m = map_among (legs_by N a k recs ears) (numbers 0 (length N.rows)) e.among in
          let b = numbers_among 0 (length N.rows) m.among in
          by m.source (omega arith) (subst (λ (b : Branch). (l ≡ b.is_from_end.wire) ⊎ (l ≡ b.is_to_end.wire)) m.gives e.is)

  -- and each row of the area has its legs
  pub row_legs : (i : ℕ) → i < length N.rows → Among (legs_by N a k recs ears i).is_from_end.wire legs_in × Among (legs_by N a k recs ears i).is_to_end.wire legs_in
  unfolding legs_of
  row_legs i h = among_legs (legs_of N a k recs ears) (among_map (legs_by N a k recs ears) (numbers 0 (length N.rows)) (among_numbers 0 (length N.rows) (omega arith) (omega arith)))
