-- "An area's advance" and its own words: whose counts and ends of rows are; a step's legs are made of its own records. Assumes nothing.
use Rattle.std.specs.Prelude.{◌+◌, ◌-◌, ◌≤◌, ◌<◌, ◌≡◌, ◌≢◌, ◌&&◌, ◌||◌}
use Rattle.whole.specs.Plain.{ℕ, zero, suc, refl, sym, ap, ◌∙◌, Bool, true, false, cond}
use Rattle.whole.specs.Plain.{true≢false, List, [], map, eqb, ltb, ℤ, length, get_or, length-map, eqb-true}
use Rattle.whole.specs.Plain.{lt-ltb, arith, Words, z, word, numbers}
use Rattle.whole.specs.Folds.{and_right, length_numbers, get_d_numbers, get_d_map}
use Rattle.paper.specs.Classes.{line_branch}
use Rattle.paper.specs.Rows.{branch_kind, kinds, Row, kind, is_branch, is_line, is_breaker, is_l, is_c, from, to}
use Rattle.paper.specs.Areas.{Net, area_of, row_area, area_count}
use Rattle.paper.specs.Records.{count_at, history_at, latch_at, owner_of}
use Rattle.paper.specs.Legs.{leg, own_end, other_end, Branch, branch, Heard, here, conducts, line_end, line_legs, plain_legs, legs_by, legs_of, branch_in}
use Rattle.laws_facts.specs.Nets.{row_at, conducts_same}
use Rattle.paper.proofs.Apart.{counts_in, owner_is}

-- ---- counts

pub own_count : (N : Net) (a : ℕ) → 1 ≤ a → a ≤ 32 → a ≤ area_count N → owner_of N (count_at a) ≡ a
own_count N a l u h =
    let e : a - 1 ≡ 0 + (a - 1) = omega arith in
    rw (e, owner_is N counts_in (a - 1) (omega arith), lt-ltb (a - 1) (area_count N) (omega arith)) (omega arith)

pub other_count : (N : Net) (a b : ℕ) → 1 ≤ a → 1 ≤ b → b ≤ 32 → b ≢ a → owner_of N (count_at b) ≢ a
other_count N a b x l u n =
    let e : b - 1 ≡ 0 + (b - 1) = omega arith in
    rw (e, owner_is N counts_in (b - 1) (omega arith)) (go (ltb (b - 1) (area_count N)))
  where
    go : (t : Bool) → cond t (suc (b - 1)) 0 ≢ a
    go true q = n (omega arith)
    go false q = omega arith

-- ---- a row's ends are own only in their own area

pub end_own : (N : Net) (a n g : ℕ) (h : ℤ) → (line_end (here N a n) n g h).own ≡ true → area_of N n ≡ a
unfolding line_end
end_own N a n g h = go (here N a n) refl
  where
    go : (o : Bool) → here N a n ≡ o → (cond o (own_end (leg n 0 g h)) other_end).own ≡ true → area_of N n ≡ a
    go true e q = eqb-true (area_of N n) a e
    go false e q = absurd (true≢false (sym q))

abbrev pub deaf : Heard
deaf = record { at_from = z; at_to = z }

module _ (N : Net) (a k : ℕ) (recs : Words) (ears : List Heard) (i : ℕ) where
  abbrev pub r : Row
  r = row_at N i

  -- a row's two legs, by its kind
  abbrev pub by_kind : Bool → Bool → Branch
  by_kind x y = cond x (line_legs N a k r (get_or ears i deaf)) (cond y (plain_legs r (conducts N recs k i) (word recs (history_at i))) (branch r other_end other_end))

  pub row_is : (legs_by N a k recs ears i).row ≡ r
  unfolding legs_by line_legs plain_legs
  row_is = go (is_line r) (is_branch r && eqb (row_area N r) a)
    where
      go : (x y : Bool) → (by_kind x y).row ≡ r
      go true y = refl
      go false true = refl
      go false false = refl

  -- a line's from-side current is that of the area of its from node
  pub from_own : (legs_by N a k recs ears i).is_from_end.own ≡ true → cond (is_line r) (area_of N (from r)) (row_area N r) ≡ a
  unfolding legs_by line_legs plain_legs
  from_own = go (is_line r) (is_branch r && eqb (row_area N r) a) refl
    where
      go : (x y : Bool) → is_branch r && eqb (row_area N r) a ≡ y → (by_kind x y).is_from_end.own ≡ true → cond x (area_of N (from r)) (row_area N r) ≡ a
      go true y q l = end_own N a (from r) _ _ l
      go false true q l = eqb-true (row_area N r) a (and_right (is_branch r) (eqb (row_area N r) a) q)
      go false false q l = absurd (true≢false (sym l))

  pub own_branch : (legs_by N a k recs ears i).is_from_end.own ≡ true → is_branch r ≡ true
  unfolding legs_by line_legs plain_legs
  own_branch = go (is_line r) (is_branch r) (eqb (row_area N r) a) refl refl
    where
      go : (x y o : Bool) → is_line r ≡ x → is_branch r ≡ y → (by_kind x (y && o)).is_from_end.own ≡ true → is_branch r ≡ true
      go true y o l b e = line_branch r l
      go false true o l b e = b
      go false false o l b e = absurd (true≢false (sym e))

  pub to_own : is_line r ≡ true → (legs_by N a k recs ears i).is_to_end.own ≡ true → area_of N (to r) ≡ a
  unfolding legs_by line_legs plain_legs
  to_own = go (is_line r) (is_branch r && eqb (row_area N r) a)
    where
      go : (x y : Bool) → x ≡ true → (by_kind x y).is_to_end.own ≡ true → area_of N (to r) ≡ a
      go true y p l = end_own N a (to r) _ _ l
      go false y p l = absurd (true≢false (sym p))

pub legs_length : (N : Net) (a k : ℕ) (recs : Words) (ears : List Heard) → length (legs_of N a k recs ears) ≡ length N.rows
unfolding legs_of
legs_length N a k recs ears = length-map (numbers 0 (length N.rows)) (legs_by N a k recs ears) ∙ length_numbers 0 (length N.rows)

pub branch_is : (N : Net) (a k : ℕ) (recs : Words) (ears : List Heard) (i : ℕ) → i < length N.rows → branch_in (legs_of N a k recs ears) i ≡ legs_by N a k recs ears i
unfolding legs_of
branch_is N a k recs ears i h =
    get_d_map (legs_by N a k recs ears) (numbers 0 (length N.rows)) i 0 (branch [] other_end other_end) (rw (length_numbers 0 (length N.rows)) h)
    ∙ ap (legs_by N a k recs ears) (get_d_numbers 0 (length N.rows) i 0 h ∙ omega arith)

pub map_same : {A : Type 0} (f g : ℕ → A) (i l : ℕ) → ((x : ℕ) → x < i + l → f x ≡ g x) → map f (numbers i l) ≡ map g (numbers i l)
unfolding numbers
map_same f g i zero h = refl
map_same f g i (suc l) h = rw (h i (omega arith), map_same f g (suc i) l (λ x p. h x (omega arith)))

-- a kind is one number
pub line_no : (r : Row) → is_l r || is_c r ≡ true → is_line r ≡ false
line_no r e = go (kind r) (eqb (kind r) 2) (eqb (kind r) 3) refl refl e
  where
    go : (k : ℕ) (x y : Bool) → eqb k 2 ≡ x → eqb k 3 ≡ y → x || y ≡ true → eqb k 4 ≡ false
    go k true y p q h = rw (eqb-true k 2 p)
    go k false true p q h = rw (eqb-true k 3 q)
    go k false false p q h = absurd (true≢false (sym h))

-- an L or C is a branch
pub keeper : (r : Row) → is_l r || is_c r ≡ true → is_branch r ≡ true
unfolding branch_kind kinds
keeper r e = go (eqb (kind r) 2) (eqb (kind r) 3) refl refl e
  where
    go : (x y : Bool) → eqb (kind r) 2 ≡ x → eqb (kind r) 3 ≡ y → x || y ≡ true → is_branch r ≡ true
    go true y p q h = rw (eqb-true (kind r) 2 p)
    go false true p q h = rw (eqb-true (kind r) 3 q)
    go false false p q h = absurd (true≢false (sym h))

-- ---- "reads": the legs of area a's step are made of what its rows hold and what it hears

module _ (N : Net) (a k : ℕ) (recs recs' : Words) (ears : List Heard)
    (h : (i : ℕ) → i < length N.rows → row_area N (row_at N i) ≡ a → word recs (history_at i) ≡ word recs' (history_at i))
    (p : (i : ℕ) → i < length N.rows → is_breaker (row_at N i) ≡ true → row_area N (row_at N i) ≡ a → word recs (latch_at i) ≡ word recs' (latch_at i)) where
  legs_same_at : (i : ℕ) → i < length N.rows → legs_by N a k recs ears i ≡ legs_by N a k recs' ears i
  unfolding legs_by
  legs_same_at i u = go (is_line (row_at N i)) (is_branch (row_at N i)) (eqb (row_area N (row_at N i)) a) refl
    where
      go : (x y o : Bool) → eqb (row_area N (row_at N i)) a ≡ o → by_kind N a k recs ears i x (y && o) ≡ by_kind N a k recs' ears i x (y && o)
      go true y o q = refl
      go false true true q = let o = eqb-true (row_area N (row_at N i)) a q in rw (conducts_same N recs recs' k i (λ b. p i u b o), h i u o)
      go false true false q = refl
      go false false o q = refl

  pub legs_same : legs_of N a k recs ears ≡ legs_of N a k recs' ears
  unfolding legs_of
  legs_same = map_same (legs_by N a k recs ears) (legs_by N a k recs' ears) 0 (length N.rows) (λ i p. legs_same_at i (omega arith))
