-- The rounds of `Spread` as code goes about them: row by row, on an array of 33 marks of which those past the last node are 0. Assumes nothing.
use Rattle.std.specs.Prelude.{◌+◌, ◌-◌, ◌<◌, ◌≡◌, ◌||◌, ◌∷◌}
use Rattle.whole.specs.Plain.{ℕ, zero, suc, min, refl, sym, ap, ◌∙◌, Bool, true, false, cond}
use Rattle.whole.specs.Plain.{not, List, [], eqb, leb, length, get_or, set, drop, length-set}
use Rattle.whole.specs.Plain.{get_or-eq_default, set-get_or, ext_get_or, eqb-true, not-false, le-leb, lt-leb, dec_le}
use Rattle.whole.specs.Plain.{arith, fold, keep, filled, numbers}
use Rattle.whole.specs.Turns.{run, turns, turns_next, turns_done}
use Rattle.whole.specs.Folds.{or_left, or_right, fold_next, fold_keeps, fold_map, length_numbers, get_d_numbers}
use Rattle.whole.specs.Filled.{length_filled, get_d_filled, get_d_filled_in, set_filled}
use Rattle.whole.specs.Upto.{Upto, any_default}
use Rattle.paper.specs.Limits as Limits
use Rattle.paper.proofs.Kept.{either}
use Rattle.paper.specs.Rows.{Row}
use Rattle.paper.specs.Network.{passes}
use Rattle.paper.specs.Spread.{Join, mark, lower, joined, round, spread}
use Rattle.paper.specs.Areas.{joins, join_of, lowest, node_count}
use Rattle.laws_paths.specs.Paths.{top, below}
use Rattle.laws_paths.specs.Rounds.{Inside, length_joined, fold_length}
use Rattle.laws_paths.specs.Meaning.{area_joins}
use Rattle.laws_facts.specs.Joins.{joins_inside}

-- the marks of ground and 32 nodes
abbrev pub mark_words : ℕ
mark_words = suc Limits.node_end

-- "Nodes joined by R, L, C or SW (open or closed) are in one area. Ground and lines join nothing."
unfoldable pub join_row : List ℕ → Row → List ℕ
join_row m r = cond (joins r) (joined m (join_of r)) m

unfoldable pub round_of : List Row → ℕ → List ℕ → List ℕ
round_of rows i m = fold join_row m rows

-- ---- a join whose two marks are the same changes nothing

pub same_marks : (m : List ℕ) (j : Join) → mark m j.one ≡ mark m j.two → joined m j ≡ m
unfolding joined
same_marks m j e =
    let v : lower m j ≡ mark m j.one = omega arith in
    let w : lower m j ≡ mark m j.two = omega arith in
    ap (λ (x : ℕ). set (set m j.one x) j.two (lower m j)) v ∙ ap (λ (l : List ℕ). set l j.two (lower m j)) (set-get_or m j.one j.one) ∙ ap (set m j.two) w ∙ set-get_or m j.two j.two

-- what stands after a join or a round, and whether it may have changed a mark
pub record Moved (before after wanted : List ℕ) (moved : Bool) : Type 0 where
  pub is : after ≡ wanted
  pub still : moved ≡ false → after ≡ before

pub join_moves : (m : List ℕ) (one two low : ℕ) → one < length m → two < length m → low ≡ min (get_or m one 0) (get_or m two 0)
    → Moved m (set (set m one low) two low) (joined m (record { one = one; two = two })) (not (eqb (get_or m one 0) (get_or m two 0)))
unfolding joined
join_moves m one two low h k e =
    let a = any_default m one 0 one h in
    let b = any_default m two 0 two k in
    let l : low ≡ min (mark m one) (mark m two) = omega arith in
    let is : set (set m one low) two low ≡ joined m (record { one = one; two = two }) = rw l in
    record {
      is = is;
      still = λ f.
          let q = eqb-true (get_or m one 0) (get_or m two 0) (not-false (eqb (get_or m one 0) (get_or m two 0)) f) in
          is ∙ same_marks m (record { one = one; two = two }) (omega arith);
    }

-- a row that joins nothing, and one that does
pub idle_row : (m : List ℕ) (r : Row) → joins r ≡ false → Moved m m (join_row m r) false
unfolding join_row
idle_row m r e = record { is = rw e; still = λ f. refl }

pub busy_row : (m m' : List ℕ) (r : Row) (b : Bool) → joins r ≡ true → Moved m m' (joined m (join_of r)) b → Moved m m' (join_row m r) b
unfolding join_row
busy_row m m' r b e w = record { is = w.is ∙ rw e; still = w.still }

row_length : (m : List ℕ) (r : Row) → length (join_row m r) ≡ length m
unfolding join_row
row_length m r = either (λ (l : List ℕ). length l ≡ length m) (joins r) _ _ (length_joined m (join_of r)) refl

pub length_row : (m m' : List ℕ) (r : Row) (b : Bool) → Moved m m' (join_row m r) b → length m' ≡ length m
length_row m m' r b w = ap length w.is ∙ row_length m r

pub length_round : (rows : List Row) (m m' : List ℕ) (b : Bool) → Moved m m' (round_of rows 0 m) b → length m' ≡ length m
unfolding round_of
length_round rows m m' b w = ap length w.is ∙ fold_keeps (λ x. length x ≡ length m) join_row (λ x r e. row_length x r ∙ e) m rows refl

-- one more row, and the rounds that are left
pub moved_next : (l m m' z : List ℕ) (a b : Bool) (rows : List Row) (i : ℕ) (r : Row) → i < length rows → r ≡ get_or rows i []
    → (a ≡ false → m ≡ l) × (fold join_row m (drop i rows) ≡ z) → Moved m m' (join_row m r) b → ((a || b) ≡ false → m' ≡ l) × (fold join_row m' (drop (i + 1) rows) ≡ z)
moved_next l m m' z a b rows i r h e v w =
    (λ f. w.still (or_right a b f) ∙ v.0 (or_left a b f), fold_next join_row rows i [] m m' z h (w.is ∙ ap (join_row m) e) v.1)

-- a round that changes nothing is the last
still_turns : (rows : List Row) (k i : ℕ) (m : List ℕ) → round_of rows 0 m ≡ m → run k i (round_of rows) m ≡ m
unfolding run round_of
still_turns rows zero i m e = refl
still_turns rows (suc k) i m e = ap (run k (suc i) (round_of rows)) e ∙ still_turns rows k (suc i) m e

pub round_next : (rows : List Row) (i n : ℕ) (m m' z : List ℕ) (b : Bool) → i < n → Moved m m' (round_of rows 0 m) b
    → turns i n (round_of rows) m ≡ z → turns (cond b (i + 1) n) n (round_of rows) m' ≡ z
unfolding turns round_of
round_next rows i n m m' z true h w e = turns_next i n (round_of rows) m m' z h w.is e
round_next rows i n m m' z false h w e =
    let q : m' ≡ m = w.still refl in
    turns_done n n (round_of rows) m' (omega arith) ∙ q ∙ sym (still_turns rows (n - i) i m (sym w.is ∙ q)) ∙ e

-- ---- the rounds go by the rows that join

keep_fold : {A B : Type 0} (p : A → Bool) (f : B → A → B) (b : B) (l : List A) → fold f b (keep p l) ≡ fold (λ b a. cond (p a) (f b a) b) b l
unfolding fold keep
keep_fold p f b [] = refl
keep_fold p f b (a ∷ l) =
    elim (p a) as (λ t. fold f b (cond t (a ∷ keep p l) (keep p l)) ≡ fold (λ b a. cond (p a) (f b a) b) (cond t (f b a) b) l)
    [ true ↦ keep_fold p f (f b a) l | false ↦ keep_fold p f b l ]

pub round_rows : (rows : List Row) (i : ℕ) (m : List ℕ) → round (area_joins rows) i m ≡ round_of rows i m
unfolding round round_of join_row
round_rows rows i m = fold_map joined join_of m (keep joins rows) ∙ keep_fold joins (λ x a. joined x (join_of a)) m rows

-- ---- the first marks, as a loop writes them

abbrev pub own_mark : ℕ → ℕ → ℕ
own_mark nodes n = cond (leb n nodes) n 0

first_marks : (nodes k : ℕ) → get_or (filled mark_words 0 (numbers 0 (suc nodes))) k 0 ≡ own_mark nodes k
first_marks nodes k =
    get_d_filled mark_words 0 (numbers 0 (suc nodes)) k
    ∙ elim (dec_le k nodes) [
      | yes h ↦ rw (le-leb k nodes h) (omega (arith, get_d_numbers 0 (suc nodes) k 0 (omega arith)))
      | no h ↦ rw (lt-leb k nodes (omega arith)) (get_or-eq_default (numbers 0 (suc nodes)) 0 (omega (arith, length_numbers 0 (suc nodes))))
    ]

pub own_marks : (nodes : ℕ) (m : List ℕ) → nodes < mark_words → length m ≡ mark_words → Upto 0 (own_mark nodes) mark_words m → m ≡ filled mark_words 0 (numbers 0 (suc nodes))
own_marks nodes m h l u =
    ext_get_or 0 m (filled mark_words 0 (numbers 0 (suc nodes)))
    (l ∙ sym (length_filled mark_words 0 (numbers 0 (suc nodes)) (rw length_numbers h))) (λ i k. u.at i (omega arith) ∙ sym (first_marks nodes i))

-- ---- on the longer array

joined_filled : (m : List ℕ) (j : Join) → j.one < length m → j.two < length m → filled mark_words 0 (joined m j) ≡ joined (filled mark_words 0 m) j
unfolding joined
joined_filled m j p q =
    let v = lower m j in
    let e : lower (filled mark_words 0 m) j ≡ v = rw (get_d_filled_in mark_words 0 m j.one j.one p, get_d_filled_in mark_words 0 m j.two j.two q) in
    set_filled mark_words 0 (set m j.one v) j.two v (rw length-set q) ∙ rw (set_filled mark_words 0 m j.one v p, e)

fold_filled : (js : List Join) (m : List ℕ) → Inside js (length m) → filled mark_words 0 (fold joined m js) ≡ fold joined (filled mark_words 0 m) js
unfolding fold Inside
fold_filled [] m h = refl
fold_filled (j ∷ js) m h =
    fold_filled js (joined m j) (λ i p. rw (length_joined m j) (h i (below p))) ∙ ap (λ (x : List ℕ). fold joined x js) (joined_filled m j (h j top).0 (h j top).1)

run_filled : (rows : List Row) (k i : ℕ) (m : List ℕ) → Inside (area_joins rows) (length m)
    → filled mark_words 0 (run k i (round (area_joins rows)) m) ≡ run k i (round_of rows) (filled mark_words 0 m)
unfolding run round
run_filled rows zero i m h = refl
run_filled rows (suc k) i m h =
    run_filled rows k (suc i) (round (area_joins rows) i m) (rw (fold_length (area_joins rows) m) h)
    ∙ ap (run k (suc i) (round_of rows)) (fold_filled (area_joins rows) m h ∙ round_rows rows i (filled mark_words 0 m))

-- the code's rounds, from each node's own number, come to the lowest nodes
pub spread_rows : (h : Row) (rows : List Row) → passes (h ∷ rows) ≡ true
    → turns 0 Limits.node_end (round_of rows) (filled mark_words 0 (numbers 0 (suc (node_count rows)))) ≡ filled mark_words 0 (lowest rows (node_count rows))
unfolding turns lowest spread
spread_rows h rows e =
    sym (run_filled rows Limits.node_end 0 (numbers 0 (suc (node_count rows))) (rw length_numbers (joins_inside h rows e)))
