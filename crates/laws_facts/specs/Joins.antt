-- The joins of a table that passes: each is a row's, between two nodes off ground. Assumes nothing.
use Rattle.std.specs.Prelude.{◌≤◌, ◌<◌, ◌≡◌, ◌⊎◌, ◌&&◌, ◌∷◌}
use Rattle.whole.specs.Plain.{ℕ, suc, refl, inl, inr, Bool, true, false, cond, not, List, []}
use Rattle.whole.specs.Plain.{Mem-cases_cons, Mem-not_nil, map, eqb, length, get_or, not-true, eqb-false}
use Rattle.whole.specs.Plain.{arith, keep}
use Rattle.whole.specs.Folds.{and_left, and_right}
use Rattle.whole.specs.Members.{among_at, among_keep, among_map}
use Rattle.paper.specs.Rows.{Row, is_branch, is_line, from, to}
use Rattle.paper.specs.Network.{passes}
use Rattle.paper.specs.Spread.{Join}
use Rattle.paper.specs.Areas.{joins, join_of, node_count}
use Rattle.laws_paths.specs.Paths.{In, Beside, Path, stay, hop, Linked}
use Rattle.laws_paths.specs.Rounds.{Inside}
use Rattle.laws_paths.specs.Meaning.{area_joins}
use Rattle.laws_facts.specs.Table.{row_sound}

-- ---- which rows they are

pub record Of (rows : List Row) (j : Join) : Type 0 where
  pub place : ℕ
  pub there : place < length rows
  pub joining : joins (get_or rows place []) ≡ true
  pub is : j ≡ join_of (get_or rows place [])

later : {rows : List Row} {j : Join} (r : Row) → Of rows j → Of (r ∷ rows) j
later r o = record { place = suc o.place; there = omega (arith, o.there); joining = o.joining; is = o.is }

pub join_of_lem : (rows : List Row) (j : Join) → In j (area_joins rows) → Of rows j
unfolding keep
join_of_lem [] j i = absurd (Mem-not_nil i)
join_of_lem (r ∷ rows) j i = go (joins r) refl (join_of_lem rows j) i
  where
    head : joins r ≡ true → (In j (area_joins rows) → Of rows j) → (j ≡ join_of r) ⊎ In j (area_joins rows) → Of (r ∷ rows) j
    head e next (inl q) = record { place = 0; there = omega arith; joining = e; is = q }
    head e next (inr i) = later r (next i)

    go : (b : Bool) → joins r ≡ b → (In j (area_joins rows) → Of rows j) → In j (map join_of (cond b (r ∷ keep joins rows) (keep joins rows))) → Of (r ∷ rows) j
    go true e next i = head e next (Mem-cases_cons i)
    go false e next i = later r (next i)

pub join_in : (rows : List Row) (i : ℕ) → i < length rows → joins (get_or rows i []) ≡ true → In (join_of (get_or rows i [])) (area_joins rows)
join_in rows i h e = among_map join_of (keep joins rows) (among_keep joins rows (among_at rows i [] h) e)

-- ---- what they join

pub record Joining (r : Row) : Type 0 where
  pub branch : is_branch r ≡ true
  pub plain : is_line r ≡ false
  pub from_off : 1 ≤ from r
  pub to_off : 1 ≤ to r

off : (n : ℕ) → not (eqb n 0) ≡ true → 1 ≤ n
off n e = let h = eqb-false n 0 (not-true (eqb n 0) e) in omega arith

pub joining : (r : Row) → joins r ≡ true → Joining r
unfolding joins
joining r e =
    let b = is_branch r in
    let l = not (is_line r) in
    let f = not (eqb (from r) 0) in
    let t = not (eqb (to r) 0) in
    let x = and_left (b && l && f) t e in
    let y = and_left (b && l) f x in
    record {
      branch = and_left b l y;
      plain = not-true (is_line r) (and_right b l y);
      from_off = off (from r) (and_right (b && l) f x);
      to_off = off (to r) (and_right (b && l && f) t e);
    }

module _ (h : Row) (rows : List Row) (e : passes (h ∷ rows) ≡ true) where
  -- the nodes of each join are among those named
  pub joins_inside : Inside (area_joins rows) (suc (node_count rows))
  unfolding Inside
  joins_inside j i =
      let o = join_of_lem rows j i in
      let s = (row_sound h rows e o.place o.there).branch (joining (get_or rows o.place []) o.joining).branch in
      rw o.is (omega (arith, s.from_in.most, s.to_in.most))

-- a path from off ground stays off it
path_off : (rows : List Row) (k n p : ℕ) → Path (area_joins rows) k n p → 1 ≤ n → 1 ≤ p
path_off rows k n p stay h = h
path_off rows k n p (hop {k = i} {m = m} b w) h = path_off rows i m p w (beside b)
  where
    ends : (j : Join) → (1 ≤ j.one) × (1 ≤ j.two) → ((j.one ≡ n) × (j.two ≡ m)) ⊎ ((j.one ≡ m) × (j.two ≡ n)) → 1 ≤ m
    ends j g (inl q) = omega arith
    ends j g (inr q) = omega arith

    beside : Beside (area_joins rows) n m → 1 ≤ m
    beside b =
        let o = join_of_lem rows b.join b.within in
        let g = joining (get_or rows o.place []) o.joining in
        ends b.join (rw o.is (g.from_off, g.to_off)) b.ends

pub linked_off : (rows : List Row) (n p : ℕ) → Linked (area_joins rows) n p → 1 ≤ n → 1 ≤ p
linked_off rows n p w h = path_off rows w.joins n p w.path h
