-- "current magnitudes are at most 1.4·10^17": a conductance of 10^9 at most, times a voltage between two nodes of 4·10^7 at most, and a history of
-- 10^17 at most. What is passed on is in its range by refusal 17. Assumes nothing.
use Rattle.std.specs.Prelude.{◌^◌, ◌≤◌, ◌<◌, ◌≡◌, ◌&&◌, ◌∷◌, ◌-ℤ◌, ◌*ℤ◌}
use Rattle.whole.specs.Plain.{ℕ, zero, suc, refl, sym, ap, ◌∙◌, subst, Bool, true, false}
use Rattle.whole.specs.Plain.{cond, List, [], eqb, ℤ, pos, nat_abs, length, get_or, replicate}
use Rattle.whole.specs.Plain.{leb-true, not-false, arith, Words, z, word, up_to, numbers}
use Rattle.whole.specs.Int.{abs_neg, abs_add_le, abs_sub_le, abs_mul_le}
use Rattle.whole.specs.Folds.{and_left, and_right, length_numbers, get_d_map, get_d_numbers}
use Rattle.whole.specs.Places.{place, place_none}
use Rattle.paper.specs.Limits as Limits
use Rattle.paper.specs.Rows.{Row, is_branch, is_line, from, to}
use Rattle.paper.specs.Conductance.{conductance}
use Rattle.paper.specs.Areas.{Net, row_area, step}
use Rattle.paper.specs.Records.{history_at, slot_count}
use Rattle.paper.specs.Legs.{Leg, idle, other_end, Branch, branch, Heard, here, sent_to, heard_by, heard, is_open, conducts, line_end, line_legs, plain_legs, legs_by, legs_of, through, current, passed_on}
use Rattle.paper.proofs.Apart.{histories_in, end_most}
use Rattle.paper.specs.Solve.{beyond, first_beyond}
use Rattle.paper.specs.Advance.{Memory}
use Rattle.laws_facts.specs.Nets.{NetSound, row_at}
use Rattle.laws_facts.specs.Travels.{received_size}
use Rattle.paper.specs.Classes.{line_branch}
use Rattle.laws_local.specs.Sound.{row_there}
use Rattle.laws_local.specs.Own.{deaf, by_kind, row_is, legs_length, branch_is}
use Rattle.laws_local.specs.Slots.{slot_of}
use Rattle.laws_stays.specs.Formed.{Formed, slot_end}
use Rattle.laws_stays.specs.Volts.{AllVolts}

-- a leg within the paper's ends
pub record Ranged (l : Leg) : Type 0 where
  pub g : l.g ≤ Limits.conductance_end
  pub h : nat_abs l.h ≤ Limits.history_end

pub current_size : (v : Words) (l : Leg) → AllVolts v → Ranged l → nat_abs (current v l) ≤ Limits.current_end
unfolding current through
current_size v l a r =
    abs_add_le (pos l.g *ℤ (word v l.near -ℤ word v l.far)) l.h
    (abs_mul_le (pos l.g) (word v l.near -ℤ word v l.far) {m = 10 ^ 9} {n = 40000000} r.g
    (abs_sub_le (word v l.near) (word v l.far) {m = 20000000} {n = 20000000} (a l.near) (a l.far))) r.h

idle_ranged : Ranged idle
idle_ranged = record { g = omega arith; h = omega arith }

-- ---- what is heard, and what stands in the records

slot_most_lem : (N : Net) (j : ℕ) → slot_end N j ≤ Limits.history_end
slot_most_lem N j = go (slot_count N) j
  where
    go : (n j : ℕ) → get_or (replicate n Limits.history_end) j 0 ≤ Limits.history_end
    go zero j = omega arith
    go (suc n) zero = omega arith
    go (suc n) (suc j) = go n j

cond_size : (b : Bool) (x : ℤ) (m : ℕ) → nat_abs x ≤ m → nat_abs (cond b x z) ≤ m
cond_size true x m h = h
cond_size false x m h = omega arith

module _ (N : Net) (m : Memory) (f : Formed N m) (s : NetSound N) (a k : ℕ) where
  sent_size : (i : ℕ) (st : Words) → ((j : ℕ) → nat_abs (word st j) ≤ slot_end N j) → nat_abs (sent_to N k i (row_at N i) st) ≤ Limits.history_end
  unfolding sent_to
  sent_size i st h =
      received_size N.head (row_at N i) s.study.step_in.least k (λ x. word st (slot_of N i x)) Limits.history_end
      (λ x. let j = slot_of N i x in omega (arith, h j, slot_most_lem N j))

  pub record HeardRanged (e : Heard) : Type 0 where
    pub at_from : nat_abs e.at_from ≤ Limits.history_end
    pub at_to : nat_abs e.at_to ≤ Limits.history_end

  heard_by_lem : (i : ℕ) → HeardRanged (heard_by N a k m.froms m.tos i)
  unfolding heard_by
  heard_by_lem i =
      record {
        at_from = cond_size (is_line (row_at N i) && here N a (from (row_at N i))) _ Limits.history_end (sent_size i m.tos f.tos);
        at_to = cond_size (is_line (row_at N i) && here N a (to (row_at N i))) _ Limits.history_end (sent_size i m.froms f.froms);
      }

  abbrev ears : List Heard
  ears = heard N a k m.froms m.tos

  heard_is : (i : ℕ) → i < length N.rows → get_or ears i deaf ≡ heard_by N a k m.froms m.tos i
  unfolding heard
  heard_is i h =
      get_d_map (heard_by N a k m.froms m.tos) (numbers 0 (length N.rows)) i 0 deaf (rw (length_numbers 0 (length N.rows)) h)
      ∙ ap (heard_by N a k m.froms m.tos) (get_d_numbers 0 (length N.rows) i 0 h ∙ omega arith)

  heard_at : (i : ℕ) → i < length N.rows → HeardRanged (get_or ears i deaf)
  heard_at i h = rw (heard_is i h) (heard_by_lem i)

  history_size : (i : ℕ) → i < length N.rows → nat_abs (word m.records (history_at i)) ≤ Limits.history_end
  history_size i h = omega (arith, f.records (history_at i), end_most N histories_in i (omega (arith, s.row_most)))

  -- ---- both legs of each row

  end_ranged : (own : Bool) (n g : ℕ) (h : ℤ) → g ≤ Limits.conductance_end → nat_abs h ≤ Limits.history_end → Ranged (line_end own n g h).wire
  unfolding line_end
  end_ranged true n g h p q = record { g = p; h = q }
  end_ranged false n g h p q = idle_ranged

  open_most : (i : ℕ) → is_branch (row_at N i) ≡ true → conducts N m.records k i ≤ Limits.conductance_end
  unfolding conducts
  open_most i e = go (is_open N m.records k i)
    where
      go : (b : Bool) → cond b 0 (conductance (step N) (row_at N i)) ≤ Limits.conductance_end
      go true = omega arith
      go false = ((s.row i (row_there N i e)).branch e).g_most

  abbrev by : ℕ → Branch
  by = legs_by N a k m.records ears

  pub ends_ranged : (i : ℕ) → Ranged (by i).is_from_end.wire × Ranged (by i).is_to_end.wire
  unfolding legs_by line_legs plain_legs
  ends_ranged i = go (is_line (row_at N i)) (is_branch (row_at N i)) (eqb (row_area N (row_at N i)) a) refl refl
    where
      go : (x y o : Bool) → is_line (row_at N i) ≡ x → is_branch (row_at N i) ≡ y
          → Ranged (by_kind N a k m.records ears i x (y && o)).is_from_end.wire × Ranged (by_kind N a k m.records ears i x (y && o)).is_to_end.wire
      go true y o l b =
          let q = line_branch (row_at N i) l in
          let h = row_there N i q in
          let g = ((s.row i h).branch q).g_most in
          (end_ranged _ _ _ _ g (heard_at i h).at_from, end_ranged _ _ _ _ g (heard_at i h).at_to)
      go false true true l b =
          let w = history_size i (row_there N i b) in
          (record { g = open_most i b; h = w }, record { g = open_most i b; h = omega (arith, abs_neg (word m.records (history_at i))) })
      go false true false l b = (idle_ranged, idle_ranged)
      go false false o l b = (idle_ranged, idle_ranged)

-- ---- 17 HISTORY: "a next history or sent value beyond 10^17"

pub beyond_place : (v : Words) (i : ℕ) (bs : List Branch) → first_beyond v i bs ≡ place (beyond v) i bs
unfolding first_beyond place
beyond_place v i [] = refl
beyond_place v i (b ∷ bs) = rw (beyond_place v (suc i) bs)

-- what a row passes on, at its two ends
pub record InRange (v : Words) (r : Row) (b : Branch) : Type 0 where
  pub at_from : nat_abs (passed_on v r b.is_from_end.wire) ≤ Limits.history_end
  pub at_to : nat_abs (passed_on v r b.is_to_end.wire) ≤ Limits.history_end

not_beyond : (v : Words) (b : Branch) → beyond v b ≡ false → InRange v b.row b
unfolding beyond up_to
not_beyond v b e = record { at_from = leb-true _ _ (and_left _ _ both); at_to = leb-true _ _ (and_right (up_to Limits.history_end (passed_on v b.row b.is_from_end.wire)) _ both) }
  where
    both : up_to Limits.history_end (passed_on v b.row b.is_from_end.wire) && up_to Limits.history_end (passed_on v b.row b.is_to_end.wire) ≡ true
    both = not-false _ e

pub none_beyond : (N : Net) (a k : ℕ) (recs : Words) (ears : List Heard) (v : Words) → first_beyond v 0 (legs_of N a k recs ears) ≡ 0
    → (i : ℕ) → i < length N.rows → InRange v (row_at N i) (legs_by N a k recs ears i)
none_beyond N a k recs ears v e i h =
    subst (λ (r : Row). InRange v r (legs_by N a k recs ears i)) (row_is N a k recs ears i)
    (subst (λ (b : Branch). InRange v b.row b) (branch_is N a k recs ears i h)
    (not_beyond v _ (place_none (beyond v) (branch [] other_end other_end) 0 (legs_of N a k recs ears) (sym (beyond_place v 0 (legs_of N a k recs ears)) ∙ e) i (rw (legs_length N a k recs ears) h))))
