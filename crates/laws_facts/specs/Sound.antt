-- What a row without faults 2 to 4 is, by its kind, in the paper's words. Assumes nothing.
use Rattle.std.specs.Prelude.{◌+◌, ◌*◌, ◌≤◌, ◌<◌, ◌≡◌, ◌≢◌, ◌&&◌, ◌||◌, ◌∷◌}
use Rattle.whole.specs.Plain.{ℕ, suc, max, refl, sym, ◌∙◌, Bool, true, false}
use Rattle.whole.specs.Plain.{cond, not, true≢false, false≢true, List, [], tail, leb, ltb, eqb, lit≤, ℤ}
use Rattle.whole.specs.Plain.{pos, negsuc, nat_abs, leb-true, leb-false, ltb-false, eqb-true, eqb-false, not-false}
use Rattle.whole.specs.Plain.{arith, z, word, between}
use Rattle.std.proofs.Common.{le-div_iff_mul-le}
use Rattle.whole.specs.Folds.{and_left, and_right, or_left, or_right}
use Rattle.paper.specs.Limits as Limits
use Rattle.paper.specs.Rows.{Row, kinds, fields_of, branch_kind, source_kind, fixing_kind, kind, no_kind, is_branch, is_source, is_line, is_switch, is_fixing, is_vC, from, to, size, travel, closes, opens, at, peak, rise, frequency, step_length}
use Rattle.paper.specs.Classes.{kind_count, by_branch, by_source, by_switch}
use Rattle.paper.specs.Conductance.{conductance}
use Rattle.paper.specs.Faults.{outside, node_fault, value_fault, travel_fault, delay, depth, slots}
use Rattle.paper.specs.Areas.{named}
use Rattle.laws_facts.specs.Passing.{Clean, Taken}
use Rattle.laws_facts.specs.Fields.{InRange, in_range_lem, field, Within, within, wider, none_of_three, none_of_four}

-- ---- the facts, by kind

-- `study`: step length 1 to 10^6 ns, steps 1 to 10^6, balance limit 0 to 10^15
pub record StudySound (h : Row) : Type 0 where
  pub step_in : Within 1 Limits.step_length_end (word h 1)
  pub steps_in : Within 1 Limits.steps_end (word h 2)
  pub limit_in : Within 0 Limits.limit_end (word h 3)

-- R, L, C, LINE, SW, SWT: its ends are two nodes, and its conductance is in range
pub record BranchSound (step nodes : ℕ) (r : Row) : Type 0 where
  pub from_in : Within 0 nodes (word r 1)
  pub to_in : Within 0 nodes (word r 2)
  pub size_in : Within 1 Limits.ohms_end (word r 3)
  pub farads : kind r ≡ 3 → size r ≤ Limits.farad_end
  pub apart : from r ≢ to r
  pub g_least : 1 ≤ conductance step r
  pub g_most : conductance step r ≤ Limits.conductance_end

-- LINE: "No line ends on ground"; "Allow any travel time of at least one step."
pub record LineSound (head r : Row) : Type 0 where
  pub travel_in : Within 1 Limits.travel_end (word r 4)
  pub from_off : 1 ≤ from r
  pub to_off : 1 ≤ to r
  pub late : 1 ≤ delay (step_length head) r
  pub ring : slots head r ≡ 2 * delay (step_length head) r + depth head r

-- SW, SWT: "1 ≤ close < open ≤ 1,000,001"
pub record SwitchSound (r : Row) : Type 0 where
  pub closes_in : Within 1 Limits.open_end (word r 4)
  pub opens_in : Within 1 Limits.open_end (word r 5)
  pub before : closes r < opens r

-- VS, IS, VC: a node off ground; "start 1 to 10^6; rise 0 to 1,000"; "frequency in mHz (1 to 100,000)"; peak "within the voltage range",
-- "magnitude at most 2·10^15"
pub record SourceSound (nodes : ℕ) (r : Row) : Type 0 where
  pub at_in : Within 1 nodes (word r 1)
  pub start_in : Within 1 Limits.start_end (word r 3)
  pub last_in : Within 0 Limits.frequency_end (word r 4)
  pub rise_most : is_vC r ≡ false → rise r ≤ Limits.rise_end
  pub frequency_least : is_vC r ≡ true → 1 ≤ frequency r
  pub peak_most : nat_abs (peak r) ≤ Limits.injection_end
  pub volt_most : is_fixing r ≡ true → nat_abs (peak r) ≤ Limits.voltage_end

pub record RowSound (head : Row) (nodes : ℕ) (r : Row) : Type 0 where
  pub kind_is : word r 0 ≡ pos (kind r)
  pub kind_least : 1 ≤ kind r
  pub kind_most : kind r ≤ 9
  pub branch : is_branch r ≡ true → BranchSound (step_length head) nodes r
  pub line : is_line r ≡ true → LineSound head r
  pub switch : is_switch r ≡ true → SwitchSound r
  pub source : is_source r ≡ true → SourceSound nodes r

-- ---- kinds

pub kind_is_lem : (r : Row) → kind r < no_kind → word r 0 ≡ pos (kind r)
kind_is_lem [] h = refl
kind_is_lem (pos k ∷ r) h = refl
kind_is_lem (negsuc k ∷ r) h = absurd (omega arith)

-- a test that fails where its first part holds
unless : (a b : Bool) → (a && b) ≡ false → a ≡ true → b ≡ false
unless true b e f = e
unless false b e f = absurd (true≢false (sym f))

-- ---- from the tests

-- the parts of NODE, VALUE and TRAVEL
record Parts (step : ℕ) (r : Row) : Type 0 where
  fields : InRange r
  apart : (is_branch r && eqb (from r) (to r)) ≡ false
  off : (is_source r && eqb (at r) 0) ≡ false
  ends : (is_line r && (eqb (from r) 0 || eqb (to r) 0)) ≡ false
  order : (is_switch r && leb (opens r) (closes r)) ≡ false
  range : (is_branch r && not (leb 1 (conductance step r) && leb (conductance step r) Limits.conductance_end)) ≡ false
  long : (is_line r && ltb (travel r) step) ≡ false

parts : (head : Row) (before : List Row) (r : Row) → Clean head before r → Parts (step_length head) r
unfolding node_fault value_fault travel_fault
parts head before r c =
    let step = step_length head in
    let n = none_of_four (outside true (fields_of (kind r)) (tail r)) (is_branch r && eqb (from r) (to r)) (is_source r && eqb (at r) 0) (is_line r && (eqb (from r) 0 || eqb (to r) 0)) c.node in
    let v = none_of_three (outside false (fields_of (kind r)) (tail r)) (is_switch r && leb (opens r) (closes r)) (is_branch r && not (leb 1 (conductance step r) && leb (conductance step r) Limits.conductance_end)) c.value in
    record { fields = in_range_lem head r c.node c.value; apart = n.1; off = n.2; ends = n.3; order = v.1; range = v.2; long = c.travel }

study_sound : (h : Row) → kind h ≡ 0 → InRange h → StudySound h
unfolding fields_of kinds
study_sound h e f =
    record { step_in = within _ _ _ (field 0 0 h e f tt); steps_in = within _ _ _ (field 0 1 h e f tt); limit_in = within _ _ _ (field 0 2 h e f tt) }

record Words (r : Row) : Type 0 where
  one : Within 0 Limits.node_end (word r 1)
  two : Within 0 Limits.node_end (word r 2)
  three : Within 1 Limits.ohms_end (word r 3)
  farads : kind r ≡ 3 → size r ≤ Limits.farad_end

-- whatever the range of its size
branch_words : (k low high : ℕ) (r : Row) → kind r ≡ k → between z (pos Limits.node_end) (word r 1) ≡ true → between z (pos Limits.node_end) (word r 2) ≡ true
    → between (pos low) (pos high) (word r 3) ≡ true → 1 ≤ low → high ≤ Limits.ohms_end → (k ≡ 3 → high ≤ Limits.farad_end) → Words r
branch_words k low high r e a b c h u f =
    let w = within low high _ c in
    record { one = within _ _ _ a; two = within _ _ _ b; three = wider w h u; farads = λ q. let m = f (sym e ∙ q) in omega (arith, w.most) }

words : (r : Row) → is_branch r ≡ true → InRange r → Words r
unfolding fields_of kinds
words r b f =
    by_branch (λ k. kind r ≡ k → Words r) (kind r) b
    (λ e. branch_words 1 _ _ r e (field 1 0 r e f tt) (field 1 1 r e f tt) (field 1 2 r e f tt) (lit≤ tt) (lit≤ tt) (λ q. absurd (omega arith)))
    (λ e. branch_words 2 _ _ r e (field 2 0 r e f tt) (field 2 1 r e f tt) (field 2 2 r e f tt) (lit≤ tt) (lit≤ tt) (λ q. absurd (omega arith)))
    (λ e. branch_words 3 _ _ r e (field 3 0 r e f tt) (field 3 1 r e f tt) (field 3 2 r e f tt) (lit≤ tt) (lit≤ tt) (λ q. lit≤ tt))
    (λ e. branch_words 4 _ _ r e (field 4 0 r e f tt) (field 4 1 r e f tt) (field 4 2 r e f tt) (lit≤ tt) (lit≤ tt) (λ q. absurd (omega arith)))
    (λ e. branch_words 5 _ _ r e (field 5 0 r e f tt) (field 5 1 r e f tt) (field 5 2 r e f tt) (lit≤ tt) (lit≤ tt) (λ q. absurd (omega arith)))
    (λ e. branch_words 9 _ _ r e (field 9 0 r e f tt) (field 9 1 r e f tt) (field 9 2 r e f tt) (lit≤ tt) (lit≤ tt) (λ q. absurd (omega arith)))
    refl

branch_sound : (step : ℕ) (r : Row) → Parts step r → is_branch r ≡ true → BranchSound step Limits.node_end r
branch_sound step r p b =
    let w = words r b p.fields in
    let g = not-false _ (unless (is_branch r) _ p.range b) in
    let low = leb 1 (conductance step r) in
    let high = leb (conductance step r) Limits.conductance_end in
    record {
      from_in = w.one;
      to_in = w.two;
      size_in = w.three;
      farads = w.farads;
      apart = eqb-false (from r) (to r) (unless (is_branch r) (eqb (from r) (to r)) p.apart b);
      g_least = leb-true 1 (conductance step r) (and_left low high g);
      g_most = leb-true (conductance step r) Limits.conductance_end (and_right low high g);
    }

not_zero : (n : ℕ) → eqb n 0 ≡ false → 1 ≤ n
not_zero n e = let h : n ≢ 0 = eqb-false n 0 e in omega arith

line_sound : (head r : Row) → 1 ≤ step_length head → Parts (step_length head) r → is_line r ≡ true → LineSound head r
unfolding fields_of kinds slots
line_sound head r one p l =
    let step = step_length head in
    let e = eqb-true (kind r) 4 l in
    let t = within 1 Limits.travel_end (word r 4) (field 4 3 r e p.fields tt) in
    let o = unless (is_line r) (eqb (from r) 0 || eqb (to r) 0) p.ends l in
    let m : step ≤ travel r = ltb-false (travel r) step (unless (is_line r) _ p.long l) in
    record {
      travel_in = t;
      from_off = not_zero (from r) (or_left (eqb (from r) 0) (eqb (to r) 0) o);
      to_off = not_zero (to r) (or_right (eqb (from r) 0) (eqb (to r) 0) o);
      late = (le-div_iff_mul-le {k = step} {x = 1} {y = travel r} one).1 (omega arith);
      ring = rw l;
    }

switch_sound : (step : ℕ) (r : Row) → Parts step r → is_switch r ≡ true → SwitchSound r
unfolding fields_of kinds
switch_sound step r p s =
    by_switch (λ k. kind r ≡ k → SwitchSound r) r s
    (λ e. record { closes_in = within _ _ _ (field 5 3 r e p.fields tt); opens_in = within _ _ _ (field 5 4 r e p.fields tt); before = order })
    (λ e. record { closes_in = within _ _ _ (field 9 3 r e p.fields tt); opens_in = within _ _ _ (field 9 4 r e p.fields tt); before = order })
    refl
  where
    order : closes r < opens r
    order = leb-false (opens r) (closes r) (unless (is_switch r) (leb (opens r) (closes r)) p.order s)

-- a peak's range goes both ways from 0
peak_size : (m : ℕ) (x : ℤ) → between (negsuc m) (pos (suc m)) x ≡ true → nat_abs x ≤ suc m
unfolding between
peak_size m (pos n) e = leb-true n (suc m) (and_right true (leb n (suc m)) e)
peak_size m (negsuc n) e = let h : n ≤ m = leb-true n m (and_left (leb n m) true e) in omega arith

source_sound : (step : ℕ) (r : Row) → Parts step r → is_source r ≡ true → SourceSound Limits.node_end r
unfolding fields_of fixing_kind kinds
source_sound step r p s =
    by_source (λ k. kind r ≡ k → SourceSound Limits.node_end r) (kind r) s
    (λ e.
    let v : nat_abs (peak r) ≤ Limits.voltage_end = peak_size _ _ (field 6 1 r e p.fields tt) in
    record {
      at_in = off (within _ _ _ (field 6 0 r e p.fields tt));
      start_in = within _ _ _ (field 6 2 r e p.fields tt);
      last_in = wider (within _ _ _ (field 6 3 r e p.fields tt)) (lit≤ tt) (lit≤ tt);
      rise_most = λ h. (within _ _ _ (field 6 3 r e p.fields tt)).most;
      frequency_least = λ h. absurd (false≢true (rw e at h));
      peak_most = omega (arith, v);
      volt_most = λ h. v;
    })
    (λ e. record {
      at_in = off (within _ _ _ (field 7 0 r e p.fields tt));
      start_in = within _ _ _ (field 7 2 r e p.fields tt);
      last_in = wider (within _ _ _ (field 7 3 r e p.fields tt)) (lit≤ tt) (lit≤ tt);
      rise_most = λ h. (within _ _ _ (field 7 3 r e p.fields tt)).most;
      frequency_least = λ h. absurd (false≢true (rw e at h));
      peak_most = peak_size _ _ (field 7 1 r e p.fields tt);
      volt_most = λ h. absurd (false≢true (rw e at h));
    })
    (λ e.
    let v : nat_abs (peak r) ≤ Limits.voltage_end = peak_size _ _ (field 8 1 r e p.fields tt) in
    record {
      at_in = off (within _ _ _ (field 8 0 r e p.fields tt));
      start_in = within _ _ _ (field 8 2 r e p.fields tt);
      last_in = wider (within _ _ _ (field 8 3 r e p.fields tt)) (lit≤ tt) (lit≤ tt);
      rise_most = λ h. absurd (true≢false (rw e at h));
      frequency_least = λ h. (within _ _ _ (field 8 3 r e p.fields tt)).least;
      peak_most = omega (arith, v);
      volt_most = λ h. v;
    })
    refl
  where
    off : Within 0 Limits.node_end (word r 1) → Within 1 Limits.node_end (word r 1)
    off w = record { is_nat = w.is_nat; least = not_zero (at r) (unless (is_source r) (eqb (at r) 0) p.off s); most = w.most }

-- ---- a row as the reader takes it

pub study_of : (h : Row) → Taken true [] [] h → StudySound h
study_of h t = study_sound h (eqb-true (kind h) 0 t.study) (in_range_lem [] h t.clean.node t.clean.value)

pub row_of_lem : (head : Row) (before : List Row) (r : Row) → 1 ≤ step_length head → Taken false head before r → RowSound head Limits.node_end r
row_of_lem head before r one t =
    let p = parts head before r t.clean in
    record {
      kind_is = kind_is_lem r t.known;
      kind_least = not_zero (kind r) t.study;
      kind_most = omega (arith, t.known, kind_count);
      branch = branch_sound _ r p;
      line = line_sound head r one p;
      switch = switch_sound _ r p;
      source = source_sound _ r p;
    }

-- ---- "The node count is the largest node named."

by_kind : (P : ℕ → Type 0) (b s : Bool) (x y : ℕ) → (b ≡ true → P x) → (s ≡ true → P y) → P 0 → P (cond b x (cond s y 0))
by_kind P true s x y f g h = f refl
by_kind P false true x y f g h = g refl
by_kind P false false x y f g h = h

pub named_most : (head : Row) (nodes : ℕ) (r : Row) → RowSound head nodes r → named r ≤ nodes
unfolding named
named_most head nodes r s =
    by_kind (λ n. n ≤ nodes) (is_branch r) (is_source r) _ _
    (λ b. omega (arith, (s.branch b).from_in.most, (s.branch b).to_in.most)) (λ b. (s.source b).at_in.most) (omega arith)

pub named_branch : (r : Row) → is_branch r ≡ true → named r ≡ max (from r) (to r)
unfolding named
named_branch r b = rw b

source_no_branch : (k : ℕ) → source_kind k ≡ true → branch_kind k ≡ false
unfolding branch_kind kinds
source_no_branch k e = by_source (λ k. branch_kind k ≡ false) k e refl refl refl

pub named_source : (r : Row) → is_source r ≡ true → named r ≡ at r
unfolding named
named_source r s = rw (source_no_branch (kind r) s, s)

-- so a row's nodes are at most as many as are named
pub sound_named : (head : Row) (most nodes : ℕ) (r : Row) → RowSound head most r → named r ≤ nodes → RowSound head nodes r
sound_named head most nodes r s n =
    record {
      kind_is = s.kind_is;
      kind_least = s.kind_least;
      kind_most = s.kind_most;
      branch = λ b.
          let p = s.branch b in
          let e = named_branch r b in
          record {
            from_in = record { is_nat = p.from_in.is_nat; least = omega arith; most = omega (arith, e) };
            to_in = record { is_nat = p.to_in.is_nat; least = omega arith; most = omega (arith, e) };
            size_in = p.size_in;
            farads = p.farads;
            apart = p.apart;
            g_least = p.g_least;
            g_most = p.g_most;
          };
      line = s.line;
      switch = s.switch;
      source = λ b.
          let p = s.source b in
          record {
            at_in = record { is_nat = p.at_in.is_nat; least = p.at_in.least; most = omega (arith, named_source r b) };
            start_in = p.start_in;
            last_in = p.last_in;
            rise_most = p.rise_most;
            frequency_least = p.frequency_least;
            peak_most = p.peak_most;
            volt_most = p.volt_most;
          };
    }
