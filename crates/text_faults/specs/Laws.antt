-- From a row's words to what its faults ask. Assumes nothing.
use Rattle.std.specs.Prelude.{Option, Some, None}
use Rattle.std.specs.Prelude.{◌+◌, ◌%◌, ◌≤◌, ◌<◌, ◌≡◌, ◌&&◌, ◌||◌}
use Rattle.whole.specs.Plain.{ℕ, suc, refl, sym, ◌∙◌, ap, Bool, true, false, not, cond}
use Rattle.whole.specs.Plain.{true≢false, false≢true, List, tail, leb, ltb, eqb, ℤ, pos}
use Rattle.whole.specs.Plain.{length, ne_eqb, eqb-true, div-le_self, arith, Words, word, nat, between}
use Rattle.whole.specs.Plain.{count}
use Rattle.std.specs.Int.{from_bool}
use Rattle.whole.specs.Folds.{or_left}
use Rattle.whole.specs.Truths.{or_false, or-true}
use Rattle.num_quantity.specs.declared.Conductance.{Conductance}
use Rattle.paper.specs.Limits as Limits
use Rattle.paper.specs.declared.kinds.Kind.{Kind}
use Rattle.paper.specs.Kinds.{number, number_few}
use Rattle.paper.specs.Rows.{bytes, kinds, kind, fields_of, branch_kind, source_kind, is_study, is_branch, is_line, step_length, from, to, closes, opens, travel}
use Rattle.paper.specs.Conductance.{conductance, of_ohms, of_henries, of_farads}
use Rattle.paper.specs.Faults.{outside, node_fault, value_fault, travel_fault, depth, slots}
use Rattle.text_kinds.specs.Table.{names_of, low, high, outside_from, in_range}
use Rattle.text_kinds.specs.Fields.{each, outside_names, outside_values, names_out, values_out, field_in, in_range_lem}
use Rattle.text_faults.specs.declared.Seen.{Seen}
use Rattle.text_faults.specs.Seen.{head_of, Sized, conductance_of, seen_double, seen_full, seen_fault, fixed_after, seen_after}

-- ---- the kind

pub known_kind : (w : Words) (k : Kind) → number k ≡ kind w → kind w < 10
known_kind w k e = rw (← e) (number_few k)

-- ---- a branch's size

branch_names : (k : ℕ) → k < 10 → names_of k ≤ 2
unfolding names_of fields_of kinds bytes count
branch_names = each (λ k. names_of k ≤ 2) (omega arith) (omega arith) (omega arith) (omega arith) (omega arith) (omega arith) (omega arith) (omega arith) (omega arith) (omega arith)

branch_fields : (k : ℕ) → k < 10 → 2 < length (fields_of k)
unfolding fields_of kinds bytes
branch_fields = each (λ k. 2 < length (fields_of k)) (omega arith) (omega arith) (omega arith) (omega arith) (omega arith) (omega arith) (omega arith) (omega arith) (omega arith) (omega arith)

module _ (step : ℕ) (l : 1 ≤ step) (h : step ≤ 1000000) where
  -- whose range is from low to end, and which is no C, or C's
  of_range : (k low end : ℕ) (x : ℤ) → 1 ≤ low → end ≤ 1000000000000 → (k ≡ 3 → end ≤ 1000000000) → between (pos low) (pos end) x ≡ true → Sized step k (nat x)
  of_range k low end x p q r b =
      let t = in_range_lem low end x b in
      record { long = l; short = h; some = omega arith; most = omega arith; farads = λ (e : k ≡ 3). let m = r e in omega arith }

  branch_size : (k : ℕ) → k < 10 → (x : ℤ) → branch_kind k ≡ true → between (low k 2) (high k 2) x ≡ true → Sized step k (nat x)
  unfolding low high fields_of branch_kind kinds bytes
  branch_size k known x = each (λ k. branch_kind k ≡ true → between (low k 2) (high k 2) x ≡ true → Sized step k (nat x))
      (λ f b. absurd (false≢true f))
      (λ f b. of_range 1 1000 1000000000000 x (omega arith) (omega arith) (λ e. absurd (omega arith)) b)
      (λ f b. of_range 2 1 1000000000000 x (omega arith) (omega arith) (λ e. absurd (omega arith)) b)
      (λ f b. of_range 3 1 1000000000 x (omega arith) (omega arith) (λ e. omega arith) b)
      (λ f b. of_range 4 1000 1000000000000 x (omega arith) (omega arith) (λ e. absurd (omega arith)) b)
      (λ f b. of_range 5 1000 1000000000000 x (omega arith) (omega arith) (λ e. absurd (omega arith)) b)
      (λ f b. absurd (false≢true f))
      (λ f b. absurd (false≢true f))
      (λ f b. absurd (false≢true f))
      (λ f b. of_range 9 1000 1000000000000 x (omega arith) (omega arith) (λ e. absurd (omega arith)) b)
      k known

-- ---- the faults of one row, of what code has read of it

module _ (w : Words) (few : 6 ≤ length w) (known : kind w < 10) {k : ℕ} (e : k ≡ kind w) where
  -- by how many fields, from the first on, are in their ranges
  module _ {n : ℕ} (i : n ≡ in_range (kind w) w) where
    pub node_is : {m a b : ℕ} {br so : Bool} → a ≡ from w → b ≡ to w → m ≡ names_of k → br ≡ branch_kind k → so ≡ source_kind k
        → (((ltb n m || (br && eqb a b)) || (so && eqb a 0)) || (is_line w && (eqb a 0 || eqb b 0))) ≡ node_fault w
    unfolding node_fault
    node_is p q r t u = rw (p, q, i, r, t, u, e, ← names_out (kind w) known w, outside_names w few (kind w) known)

    -- VALUE: the fields first
    pub values_are : {m : ℕ} → node_fault w ≡ false → m ≡ length (fields_of k) → ltb n m ≡ outside false (fields_of (kind w)) (tail w)
    unfolding node_fault
    values_are f p =
        let o = outside_names w few (kind w) known ∙ or_left _ _ (or_left _ _ (or_left _ _ f)) in
        rw (i, p, e) (sym (values_out (kind w) known w o) ∙ outside_values w few (kind w) known)

  pub value_out : (step : ℕ) → outside false (fields_of (kind w)) (tail w) ≡ true → true ≡ value_fault (head_of step) w
  unfolding value_fault
  value_out step o = rw o

  pub value_none : (step : ℕ) {br : Bool} → outside false (fields_of (kind w)) (tail w) ≡ false → br ≡ branch_kind k → br ≡ false → false ≡ value_fault (head_of step) w
  unfolding value_fault branch_kind kinds
  value_none step {br} o p q =
      let n : is_branch w ≡ false = rw (← e) (sym p ∙ q) in
      rw (o, n, ne_eqb (kind w) 5 (λ (f : kind w ≡ 5). true≢false (sym (ap branch_kind f) ∙ n)), ne_eqb (kind w) 9 (λ (f : kind w ≡ 9). true≢false (sym (ap branch_kind f) ∙ n)))

  -- of a branch whose fields are in range, by what the constructor of its conductance answers
  module _ (step : ℕ) {br : Bool} {g size : ℕ} {made : Option Conductance} (o : outside false (fields_of (kind w)) (tail w) ≡ false) (p : br ≡ branch_kind k) (q : br ≡ true)
      (r : size ≡ nat (word w 3)) (s : g ≡ conductance_of step k size)
      (m : made ≡ cond (leb Limits.conductance_low g && leb g Limits.conductance_end) (Some (record { nanos = g })) None) where
    value_by : (t : Bool) → (leb Limits.conductance_low g && leb g Limits.conductance_end) ≡ t → (((eqb k 5 || eqb k 9) && leb (opens w) (closes w)) || not t) ≡ value_fault (head_of step) w
    unfolding value_fault conductance of_ohms of_henries of_farads conductance_of
    value_by t f = let b : is_branch w ≡ true = rw (← e) (sym p ∙ q) in rw (o, b, ← f, s, r, e)

    pub value_refused : made ≡ None → true ≡ value_fault (head_of step) w
    value_refused f = by_test (leb Limits.conductance_low g && leb g Limits.conductance_end) refl
      where
        by_test : (t : Bool) → (leb Limits.conductance_low g && leb g Limits.conductance_end) ≡ t → true ≡ value_fault (head_of step) w
        by_test true h = let d : made ≡ Some (record { nanos = g }) = rw h at m in let n : ◌≡◌ {A = ℕ} 0 1 = cc in absurd (omega arith)
        by_test false h = sym (or-true ((eqb k 5 || eqb k 9) && leb (opens w) (closes w))) ∙ value_by false h

    pub value_taken : {shut opened : ℕ} {sw : Bool} {c : Conductance} → made ≡ Some c → shut ≡ closes w → opened ≡ opens w → sw ≡ (eqb k 5 || eqb k 9) → (sw && leb opened shut) ≡ value_fault (head_of step) w
    value_taken {shut} {opened} {sw} f u v x = by_test (leb Limits.conductance_low g && leb g Limits.conductance_end) refl
      where
        by_test : (t : Bool) → (leb Limits.conductance_low g && leb g Limits.conductance_end) ≡ t → (sw && leb opened shut) ≡ value_fault (head_of step) w
        by_test true h = rw (u, v, x) (sym (or_false ((eqb k 5 || eqb k 9) && leb (opens w) (closes w))) ∙ value_by true h)
        by_test false h = let d : made ≡ None = rw h at m in let n : ◌≡◌ {A = ℕ} 0 1 = cc in absurd (omega arith)

  -- the size of a branch, for its conductance
  pub sized : (step : ℕ) {br : Bool} {size : ℕ} → 1 ≤ step → step ≤ 1000000 → outside false (fields_of (kind w)) (tail w) ≡ false → br ≡ branch_kind k → br ≡ true
      → size ≡ nat (word w 3) → Sized step k size
  sized step l h o p q r = rw (r, e) (branch_size step l h (kind w) known (word w 3) (rw (← e) (sym p ∙ q)) (field_in (kind w) (names_of (kind w)) (length (fields_of (kind w))) w (outside_values w few (kind w) known ∙ o) 2 (branch_names (kind w) known) (branch_fields (kind w) known)))

-- ---- a line's slots

pub line_travel : (w : Words) → 6 ≤ length w → (step : ℕ) → kind w ≡ 4 → value_fault (head_of step) w ≡ false → travel w ≤ 1000000000
unfolding value_fault fields_of kinds bytes low high names_of count
line_travel w few step e f =
    let known : kind w < 10 = rw e (omega arith) in
    of_line (kind w) e (outside_values w few (kind w) known ∙ or_left _ _ (or_left _ _ f))
  where
    of_line : (k : ℕ) → k ≡ 4 → outside_from k (names_of k) (length (fields_of k)) w ≡ false → nat (word w 4) ≤ 1000000000
    of_line k p o = (in_range_lem 1 1000000000 (word w 4) (field_in 4 2 4 w (rw p at o) 3 (omega arith) (omega arith))).1.1

-- ---- what is seen

pub older_most : (b : Bool) → cond b 0 1 ≤ 1
older_most true = omega arith
older_most false = omega arith

pub slots_small : (w : Words) → 6 ≤ length w → (step : ℕ) → value_fault (head_of step) w ≡ false → slots (head_of step) w ≤ 2000000001
unfolding slots depth
slots_small w few step f = by_test (eqb (kind w) 4) refl
  where
    by_test : (t : Bool) → eqb (kind w) 4 ≡ t → slots (head_of step) w ≤ 2000000001
    by_test true e = let t = line_travel w few step (eqb-true (kind w) 4 e) f in rw e (omega (arith, div-le_self (travel w) step, older_most (eqb (travel w % step) 0)))
    by_test false e = rw e (omega arith)

pub full_is : (s : Seen) (w : Words) {k n : ℕ} {br so : Bool} → k ≡ kind w → br ≡ branch_kind k → so ≡ source_kind k → n ≡ slots (head_of s.step) w
    → ((br && leb 64 s.branches) || (so && leb 16 s.sources) || ltb 4096 (s.slots + n)) ≡ seen_full s w
unfolding seen_full
full_is s w e p q r = rw (p, q, r, e)

-- ---- a row without fault

pub record Faultless (s : Seen) (w : Words) : Type 0 where
  pub node : node_fault w ≡ false
  pub value : value_fault (head_of s.step) w ≡ false
  pub travel : travel_fault (head_of s.step) w ≡ false
  pub double : seen_double s w ≡ false
  pub full : seen_full s w ≡ false

-- where the first of two is no fault, it is the second
pub none_first : (b : Bool) (m n : ℕ) → cond b (suc m) n ≡ 0 → (b ≡ false) × (n ≡ 0)
none_first true m n e = absurd (omega arith)
none_first false m n e = (refl, e)

pub faultless : (s : Seen) (w : Words) → seen_fault s w ≡ 0 → Faultless s w
unfolding seen_fault
faultless s w e =
    let a = none_first (node_fault w) 1 _ e in
    let b = none_first (value_fault (head_of s.step) w) 2 _ a.1 in
    let c = none_first (travel_fault (head_of s.step) w) 3 _ b.1 in
    let d = none_first (seen_double s w) 4 _ c.1 in
    let f = none_first (seen_full s w) 5 0 d.1 in
    record { node = a.0; value = b.0; travel = c.0; double = d.0; full = f.0 }

-- a bool as a number
bit : (b : Bool) → from_bool b ≡ cond b 1 0
bit true = refl
bit false = refl

pub after_is : (s : Seen) (w : Words) {k step n : ℕ} {br so : Bool} {fixed : List Bool} → k ≡ kind w → fixed ≡ fixed_after s.fixed w
    → step ≡ cond (is_study w) (step_length w) s.step → br ≡ branch_kind k → so ≡ source_kind k → n ≡ slots (head_of s.step) w
    → ◌≡◌ {A = Seen} (record { step = step; branches = s.branches + from_bool br; sources = s.sources + from_bool so; slots = s.slots + n; fixed = fixed }) (seen_after s w)
unfolding seen_after
after_is s w {br} {so} e f g h j l = rw (f, g, bit br, bit so, h, j, l, e)
