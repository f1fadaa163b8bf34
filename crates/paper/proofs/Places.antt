-- T-total, of places: "14 to 16 carry the lowest such node, 13 and 17 the first such branch": a free node's number, and a branch's. Assumes nothing.
use Rattle.std.specs.Prelude.{Ok, Err}
use Rattle.std.specs.Prelude.{Option, Some, None}
use Rattle.std.specs.Prelude.{◌+◌, ◌≤◌, ◌<◌, ◌≡◌, ◌&&◌, ◌∷◌}
use Rattle.whole.specs.Plain.{ℕ, zero, suc, refl, sym, ap, ◌∙◌, Bool, true, false, cond, not}
use Rattle.whole.specs.Plain.{true≢false, List, [], map, leb, eqb, length, get_or, take, drop, length-map}
use Rattle.whole.specs.Plain.{take-append-drop, eqb-true, zero-add, arith, Words, z, word, up_to, count, numbers}
use Rattle.std.proofs.Common.{add-one}
use Rattle.paper.specs.Replies.{Advance}
use Rattle.paper.specs.declared.Refusal.TheVariants.{State, Area, Done, Wait, Floating, Range, Unbalanced, History}
use Rattle.paper.specs.declared.Refusal.TheVariants as A
use Rattle.whole.specs.Folds.{and_left, count_append, count_next, length_numbers, get_d_map, get_d_numbers}
use Rattle.whole.specs.Members.{Among, top, below, keep_among, numbers_among, first_among}
use Rattle.paper.specs.Rows.{Row, kinds, kind, branch_kind, limit, is_branch, is_line, steps}
use Rattle.paper.specs.Classes.{line_branch}
use Rattle.paper.specs.Network.{is_network, table_of}
use Rattle.paper.specs.Areas.{Net, net_of, area_count, row_area, nodes_of, free_of, fixed, branch_number}
use Rattle.paper.specs.Records.{count_of, history_at, well_formed}
use Rattle.paper.specs.Legs.{Leg, Branch, branch, other_end, Heard, heard, legs_of, legs_by, conducts, line_legs, plain_legs, both_legs, passed_on}
use Rattle.paper.specs.Sources.{injected}
use Rattle.paper.specs.Floating.{floating}
use Rattle.paper.specs.Doubles.{Voltage}
use Rattle.paper.specs.Solve.{Step, stop, move, solve, settling, passing, solved_step, range_step, balance_step, history_step, and_floating, and_range, and_balance, and_history, settled, still_of, out_of_range, unbalanced, beyond, first_beyond}
use Rattle.paper.specs.Advance.{Memory, Advanced, finish, take_step, ready, or_wait, waits_for, first_late, on_next, on_net, fits, advance_of}
use Rattle.paper.proofs.Kept.{either}

abbrev pub NodeIn : Net → ℕ → Type 0
NodeIn N n = (1 ≤ n) × (n ≤ N.nodes)

-- "Branches are numbered from 1 in table order"
abbrev pub BranchIn : Net → ℕ → Type 0
BranchIn N b = (1 ≤ b) × (b ≤ count is_branch N.rows)

abbrev pub PlaceIn : Net → Advance → Type 0
PlaceIn N (Ok k) = Unit {0}
PlaceIn N (Err A.Network) = Unit {0}
PlaceIn N (Err A.Store) = Unit {0}
PlaceIn N (Err State) = Unit {0}
PlaceIn N (Err Area) = Unit {0}
PlaceIn N (Err Done) = Unit {0}
PlaceIn N (Err (Wait b)) = BranchIn N b
PlaceIn N (Err (Floating n)) = NodeIn N n
PlaceIn N (Err (Range n)) = NodeIn N n
PlaceIn N (Err (Unbalanced n)) = NodeIn N n
PlaceIn N (Err (History b)) = BranchIn N b

-- ---- nodes

pub node_in : (N : Net) (a : ℕ) {n : ℕ} → Among n (nodes_of N a) → NodeIn N n
unfolding nodes_of
node_in N a i = let b = numbers_among 1 N.nodes (keep_among _ (numbers 1 N.nodes) i).among in omega arith

free_in : (N : Net) (a : ℕ) {n : ℕ} → Among n (free_of N a) → NodeIn N n
unfolding free_of
free_in N a i = node_in N a (keep_among _ (nodes_of N a) i).among

-- the first of the free nodes out of range is one of them
range_among : (ns : List ℕ) (xs : List (Option Voltage)) {n : ℕ} → out_of_range ns xs ≡ suc n → Among (suc n) ns
unfolding out_of_range
range_among [] xs e = absurd (omega arith)
range_among (m ∷ ns) [] e = absurd (omega arith)
range_among (m ∷ ns) (Some v ∷ xs) e = below (range_among ns xs e)
range_among (m ∷ ns) (None ∷ xs) e = top (sym e)

-- ---- branches

-- a row that is a branch has a number
row_number : (N : Net) (r : ℕ) → r < length N.rows → is_branch (get_or N.rows r []) ≡ true → BranchIn N (branch_number N (suc r))
unfolding branch_number
row_number N r h e =
    let more : count is_branch (take (suc r) N.rows) ≡ count is_branch (take r N.rows) + 1 =
    rw (← add-one r) (count_next is_branch N.rows r [] h ∙ ap (λ (b : Bool). count is_branch (take r N.rows) + cond b 1 0) e) in
    let all : count is_branch N.rows ≡ count is_branch (take (suc r) N.rows) + count is_branch (drop (suc r) N.rows) =
    ap (count is_branch) (sym (take-append-drop (suc r) N.rows)) ∙ count_append is_branch (take (suc r) N.rows) (drop (suc r) N.rows) in
    omega arith

-- the row in place r of a list that starts at place i
record Stands {B : Type 0} (p : B → Bool) (d : B) (i r : ℕ) (l : List B) : Type 0 where
  at : ℕ
  is : r ≡ i + at
  inside : at < length l
  holds : p (get_or l at d) ≡ true

here : {B : Type 0} (p : B → Bool) (d : B) (i r : ℕ) (b : B) (l : List B) → p b ≡ true → suc i ≡ suc r → Stands p d i r (b ∷ l)
here p d i r b l e q = record { at = 0; is = omega arith; inside = omega arith; holds = e }

later : {B : Type 0} (p : B → Bool) (d : B) (i r : ℕ) (b : B) (l : List B) → Stands p d (suc i) r l → Stands p d i r (b ∷ l)
later p d i r b l s = record { at = suc s.at; is = omega (arith, s.is); inside = omega (arith, s.inside); holds = s.holds }

late_stands : (N : Net) (a k : ℕ) (recs : Words) (i : ℕ) (rs : List Row) {r : ℕ} → first_late N a k recs i rs ≡ suc r → Stands (waits_for N a k recs) [] i r rs
unfolding first_late
late_stands N a k recs i [] e = absurd (omega arith)
late_stands N a k recs i (x ∷ rs) {r} e = go (waits_for N a k recs x) refl e (λ q. late_stands N a k recs (suc i) rs q)
  where
    go : (t : Bool) → waits_for N a k recs x ≡ t → cond t (suc i) (first_late N a k recs (suc i) rs) ≡ suc r
        → (first_late N a k recs (suc i) rs ≡ suc r → Stands (waits_for N a k recs) [] (suc i) r rs) → Stands (waits_for N a k recs) [] i r (x ∷ rs)
    go true f q more = here (waits_for N a k recs) [] i r x rs f q
    go false f q more = later (waits_for N a k recs) [] i r x rs (more q)

beyond_stands : (v : Words) (d : Branch) (i : ℕ) (bs : List Branch) {r : ℕ} → first_beyond v i bs ≡ suc r → Stands (beyond v) d i r bs
unfolding first_beyond
beyond_stands v d i [] e = absurd (omega arith)
beyond_stands v d i (b ∷ bs) {r} e = go (beyond v b) refl e (λ q. beyond_stands v d (suc i) bs q)
  where
    go : (t : Bool) → beyond v b ≡ t → cond t (suc i) (first_beyond v (suc i) bs) ≡ suc r → (first_beyond v (suc i) bs ≡ suc r → Stands (beyond v) d (suc i) r bs) → Stands (beyond v) d i r (b ∷ bs)
    go true f q more = here (beyond v) d i r b bs f q
    go false f q more = later (beyond v) d i r b bs (more q)

-- LINE, L and C are branches
of_kind : (k j : ℕ) → branch_kind j ≡ true → eqb k j ≡ true → branch_kind k ≡ true
of_kind k j h e = rw (eqb-true k j e) h

not_kind : (k j : ℕ) → branch_kind j ≡ true → branch_kind k ≡ false → eqb k j ≡ false
not_kind k j h e = go (eqb k j) refl
  where
    go : (t : Bool) → eqb k j ≡ t → t ≡ false
    go true f = absurd (true≢false (sym (of_kind k j h f) ∙ e))
    go false f = refl

waits_branch : (N : Net) (a k : ℕ) (recs : Words) (r : Row) → waits_for N a k recs r ≡ true → is_branch r ≡ true
unfolding waits_for
waits_branch N a k recs r e = line_branch r (and_left (is_line r) _ e)

-- a row that keeps nothing passes nothing on
nothing_on : (v : Words) (r : Row) (l : Leg) → is_branch r ≡ false → passed_on v r l ≡ z
unfolding passed_on branch_kind kinds
nothing_on v r l e = rw (not_kind (kind r) 2 refl e, not_kind (kind r) 3 refl e, not_kind (kind r) 4 refl e)

beyond_branch : (v : Words) (b : Branch) → beyond v b ≡ true → is_branch b.row ≡ true
unfolding beyond up_to
beyond_branch v b e = go (is_branch b.row) refl
  where
    go : (t : Bool) → is_branch b.row ≡ t → t ≡ true
    go true f = refl
    go false f = rw (nothing_on v b.row b.is_from_end.wire f, nothing_on v b.row b.is_to_end.wire f) at e

row_of_lem : (N : Net) (a k : ℕ) (recs : Words) (ears : List Heard) (i : ℕ) → (legs_by N a k recs ears i).row ≡ get_or N.rows i []
unfolding legs_by line_legs plain_legs
row_of_lem N a k recs ears i = go (is_line r) (is_branch r && eqb (row_area N r) a)
  where
    r : Row
    r = get_or N.rows i []

    go : (s t : Bool) → (cond s (line_legs N a k r (get_or ears i (record { at_from = z; at_to = z }))) (cond t (plain_legs r (conducts N recs k i) (word recs (history_at i))) (branch r other_end other_end))).row ≡ r
    go true t = refl
    go false true = refl
    go false false = refl

-- ---- the answers

record Rows-of (N : Net) (bs : List Branch) : Type 0 where
  many : length bs ≡ length N.rows
  each : (i : ℕ) (d : Branch) → i < length bs → (get_or bs i d).row ≡ get_or N.rows i []

legs_rows : (N : Net) (a k : ℕ) (recs : Words) (ears : List Heard) → Rows-of N (legs_of N a k recs ears)
unfolding legs_of
legs_rows N a k recs ears = record { many = long; each = at }
  where
    n : ℕ
    n = length N.rows

    long : length (map (legs_by N a k recs ears) (numbers 0 n)) ≡ n
    long = length-map (numbers 0 n) (legs_by N a k recs ears) ∙ length_numbers 0 n

    at : (i : ℕ) (d : Branch) → i < length (map (legs_by N a k recs ears) (numbers 0 n)) → (get_or (map (legs_by N a k recs ears) (numbers 0 n)) i d).row ≡ get_or N.rows i []
    at i d h =
        let l : i < length (numbers 0 n) = omega (arith, h, long, length_numbers 0 n) in
        let e : get_or (numbers 0 n) i 0 ≡ i = get_d_numbers 0 n i 0 (omega (arith, h, long)) ∙ zero-add i in
        ap (λ (b : Branch). b.row) (get_d_map (legs_by N a k recs ears) (numbers 0 n) i 0 d l ∙ ap (legs_by N a k recs ears) e) ∙ row_of_lem N a k recs ears i

-- what a step stops with, and the legs of one that does not
Stopped : Net → Step → Type 0
Stopped N (stop x) = PlaceIn N (Err x)
Stopped N (move bs v) = Rows-of N bs

passing_in : (N : Net) (s : Step) → Stopped N s → Stopped N (passing N s)
unfolding history_step Stopped
passing_in N (stop x) p = p
passing_in N (move bs v) rows = go (first_beyond v 0 bs) refl
  where
    d : Branch
    d = branch [] other_end other_end

    by : (r : ℕ) → Stands (beyond v) d 0 r bs → BranchIn N (branch_number N (suc r))
    by r s =
        let q : r ≡ s.at = omega (arith, s.is) in
        let e : is_branch (get_or N.rows s.at []) ≡ true = rw (rows.each s.at d s.inside) at (beyond_branch v (get_or bs s.at d) s.holds) in
        rw q (row_number N s.at (omega (arith, s.inside, rows.many)) e)

    go : (r : ℕ) → first_beyond v 0 bs ≡ r → Stopped N (and_history N bs v r)
    go zero e = rows
    go (suc r) e = by r (beyond_stands v d 0 bs e)

module _ (N : Net) (a k : ℕ) (bs : List Branch) (rows : Rows-of N bs) where
  balance_in : (v : Words) → Stopped N (balance_step N a k bs v)
  unfolding balance_step Stopped unbalanced
  balance_in v = go (unbalanced (limit N.head) (both_legs bs) (injected N k) v (free_of N a)) refl
    where
      go : (n : ℕ) → unbalanced (limit N.head) (both_legs bs) (injected N k) v (free_of N a) ≡ n → Stopped N (and_balance (move bs v) n)
      go zero e = rows
      go (suc n) e = free_in N a (first_among _ (free_of N a) e).0

  range_in : (still : Words) (xs : List (Option Voltage)) → Stopped N (range_step N a k bs still xs)
  unfolding range_step Stopped
  range_in still xs = go (out_of_range (free_of N a) xs) refl
    where
      go : (n : ℕ) → out_of_range (free_of N a) xs ≡ n → Stopped N (and_range (balance_step N a k bs (settled (free_of N a) xs still)) n)
      go zero e = balance_in (settled (free_of N a) xs still)
      go (suc n) e = free_in N a (range_among (free_of N a) xs e)

  settling_in : Stopped N (settling N a k bs)
  unfolding settling Stopped floating solved_step
  settling_in = go (floating (fixed N) N.nodes (free_of N a) (both_legs bs)) refl
    where
      go : (n : ℕ) → floating (fixed N) N.nodes (free_of N a) (both_legs bs) ≡ n → Stopped N (and_floating (solved_step N a k bs (still_of N a k)) n)
      go zero e = range_in (still_of N a k) _
      go (suc n) e = free_in N a (first_among _ (free_of N a) e).0

  solve_in : Stopped N (solve N a k bs)
  unfolding solve
  solve_in = passing_in N (settling N a k bs) settling_in

-- ---- the call

abbrev Placed : Net → Advanced → Type 0
Placed N r = PlaceIn N r.answer

finish_in : (N : Net) (a k : ℕ) (m : Memory) (s : Step) → Stopped N s → Placed N (finish N a k m s)
unfolding Stopped
finish_in N a k m (stop x) p = p
finish_in N a k m (move bs v) p = tt

ready_in : (N : Net) (a k : ℕ) (m : Memory) → Placed N (ready N a k m)
unfolding ready take_step
ready_in N a k m =
    let ears = heard N a k m.froms m.tos in
    let bs = legs_of N a k m.records ears in
    finish_in N a k m (solve N a k bs) (solve_in N a k bs (legs_rows N a k m.records ears))

next_in : (N : Net) (a k : ℕ) (m : Memory) → Placed N (on_next N a k m)
unfolding on_next
next_in N a k m = go (first_late N a k m.records 0 N.rows) refl
  where
    by : (r : ℕ) → Stands (waits_for N a k m.records) [] 0 r N.rows → BranchIn N (branch_number N (suc r))
    by r s =
        let q : r ≡ s.at = omega (arith, s.is) in
        rw q (row_number N s.at s.inside (waits_branch N a k m.records (get_or N.rows s.at []) s.holds))

    go : (r : ℕ) → first_late N a k m.records 0 N.rows ≡ r → Placed N (or_wait N m (ready N a k m) r)
    go zero e = ready_in N a k m
    go (suc r) e = by r (late_stands N a k m.records 0 N.rows e)

net_in : (N : Net) (a : ℕ) (m : Memory) → Placed N (on_net N a m)
unfolding on_net
net_in N a m =
    either (Placed N) (not (well_formed N m.records m.froms m.tos)) _ _ tt
    (either (Placed N) (not (leb 1 a && leb a (area_count N))) _ _ tt
    (either (Placed N) (leb (steps N.head) (count_of m.records a)) _ _ tt (next_in N a (suc (count_of m.records a)) m)))

pub advance_place : (net : Words) (a : ℕ) (m : Memory) → PlaceIn (net_of (table_of net)) (advance_of net a m).answer
unfolding advance_of
advance_place net a m =
    either (Placed (net_of (table_of net))) (not (fits net m)) _ _ tt
    (either (Placed (net_of (table_of net))) (not (is_network net)) _ _ tt (net_in (net_of (table_of net)) a m))
