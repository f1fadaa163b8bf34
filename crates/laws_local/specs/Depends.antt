-- "Over two well-formed states, an advance depends on nothing but the network, its own area's records, the far counts and the far values it
-- reads." Assumes nothing.
use Rattle.std.specs.Prelude.{Err}
use Rattle.std.specs.Prelude.{◌≤◌, ◌<◌, ◌≡◌, ◌&&◌, ◌||◌}
use Rattle.whole.specs.Plain.{ℕ, zero, suc, refl, sym, ap, ◌∙◌, subst, inl, Bool, true, false}
use Rattle.whole.specs.Plain.{cond, List, leb, ℤ, length, leb-true, eqb-true}
use Rattle.whole.specs.Plain.{arith, Words, z, word, nat}
use Rattle.paper.specs.Replies.{Advance}
use Rattle.paper.specs.declared.Refusal.TheVariants.{Wait}
use Rattle.whole.specs.Folds.{and_left, and_right}
use Rattle.paper.specs.Rows.{Row, is_line, is_breaker, from, to, is_l, is_c}
use Rattle.paper.specs.Areas.{Net, area_of, area_count, branch_number, row_area}
use Rattle.paper.specs.Records.{count_at, count_of, well_formed, history_at, latch_at, owner_of}
use Rattle.paper.specs.Legs.{Branch, Heard, here, sent_to, heard_by, heard, legs_of}
use Rattle.paper.proofs.Apart.{histories_in, latches_in, end_of_lem, owner_is, unused_zero}
use Rattle.paper.specs.Solve.{Step, stop, move, solve}
use Rattle.paper.specs.Advance.{Memory, Advanced, advanced, written, finish, take_step, ready, late, first_late, on_next, on_net}
use Rattle.laws_facts.specs.Nets.{row_at}
use Rattle.laws_facts.specs.Travels.{Reads}
use Rattle.laws_facts.proofs.Travels.{received_same}
use Rattle.laws_local.specs.Sound.{Sound}
use Rattle.laws_local.specs.Own.{own_count, legs_same, map_same}
use Rattle.laws_local.specs.Slots.{slot_of}
use Rattle.laws_local.specs.Waits.{count_at_node}
use Rattle.laws_local.specs.Outcome.{step_of, legs_now, is_area, is_done}
use Rattle.laws_local.specs.Touch.{Touch, records_touch, store_touch}

-- of two calls: one answer, and each word is left alone by both or is the same after both
pub record SameOut (m m' : Memory) (x x' : Advanced) : Type 0 where
  pub answer : x.answer ≡ x'.answer
  pub records : (j : ℕ) → Touch m.records x.after.records m'.records x'.after.records j
  pub froms : (j : ℕ) → Touch m.froms x.after.froms m'.froms x'.after.froms j
  pub tos : (j : ℕ) → Touch m.tos x.after.tos m'.tos x'.after.tos j

pub record SameLengths (m m' : Memory) : Type 0 where
  pub records : length m.records ≡ length m'.records
  pub froms : length m.froms ≡ length m'.froms
  pub tos : length m.tos ≡ length m'.tos

refused_both : (x : Advance) (m m' : Memory) → SameOut m m' (advanced x m) (advanced x m')
refused_both x m m' = record { answer = refl; records = λ j. inl (refl, refl); froms = λ j. inl (refl, refl); tos = λ j. inl (refl, refl) }

finish_both : (N : Net) (a k : ℕ) (m m' : Memory) (s : Step) → 1 ≤ a → SameLengths m m' → ((j : ℕ) → owner_of N j ≡ a → word m.records j ≡ word m'.records j)
    → SameOut m m' (finish N a k m s) (finish N a k m' s)
unfolding written
finish_both N a k m m' (stop x) one l own = refused_both (Err x) m m'
finish_both N a k m m' (move bs v) one l own = record {
  answer = refl;
  records = λ j. records_touch N a k bs v m.records m'.records j one l.records own;
  froms = λ j. store_touch N k (λ b. b.is_from_end) bs v m.froms m'.froms j l.froms;
  tos = λ j. store_touch N k (λ b. b.is_to_end) bs v m.tos m'.tos j l.tos;
}

-- ---- by the legs: own records, and what is heard

module _ (N : Net) (a : ℕ) (m m' : Memory) (f : Sound N) (l : SameLengths m m')
    (good : well_formed N m.records m.froms m.tos ≡ true) (good' : well_formed N m'.records m'.froms m'.tos ≡ true)
    (own : (j : ℕ) → owner_of N j ≡ a → word m.records j ≡ word m'.records j) where
  first_area : is_area N a m ≡ true → 1 ≤ a
  first_area e = leb-true 1 a (and_left (leb 1 a) (leb a (area_count N)) e)

  pub same_count : is_area N a m ≡ true → count_of m.records a ≡ count_of m'.records a
  same_count e =
      let most : a ≤ area_count N = leb-true a (area_count N) (and_right (leb 1 a) (leb a (area_count N)) e) in
      ap nat (own (count_at a) (own_count N a (first_area e) (omega (arith, f.areas)) most))

  -- an L or a C of the area holds its own word; any other row holds 0
  same_held : (i : ℕ) → i < length N.rows → row_area N (row_at N i) ≡ a → word m.records (history_at i) ≡ word m'.records (history_at i)
  same_held i h o = go (is_l (row_at N i) || is_c (row_at N i)) refl
    where
      room : i < 80
      room = omega (arith, f.rows)

      none : (n : Memory) → well_formed N n.records n.froms n.tos ≡ true → is_l (row_at N i) || is_c (row_at N i) ≡ false → word n.records (history_at i) ≡ z
      none n g e = unused_zero N n.records n.froms n.tos g (history_at i) (end_of_lem N histories_in i room ∙ rw e)

      go : (b : Bool) → is_l (row_at N i) || is_c (row_at N i) ≡ b → word m.records (history_at i) ≡ word m'.records (history_at i)
      go true e = own (history_at i) (owner_is N histories_in i room ∙ rw e o)
      go false e = none m good e ∙ sym (none m' good' e)

  -- an SW of the area has its own latch
  same_latch : (i : ℕ) → i < length N.rows → is_breaker (row_at N i) ≡ true → row_area N (row_at N i) ≡ a → word m.records (latch_at i) ≡ word m'.records (latch_at i)
  same_latch i h b o = own (latch_at i) (owner_is N latches_in i (omega (arith, f.rows)) ∙ rw b o)

  abbrev k : ℕ
  k = step_of N a m

  pub same_out : (is_area N a m ≡ true → is_done N a m ≡ false → first_late N a k m.records 0 N.rows ≡ first_late N a k m'.records 0 N.rows)
      → (is_area N a m ≡ true → is_done N a m ≡ false → heard N a k m.froms m.tos ≡ heard N a k m'.froms m'.tos)
      → SameOut m m' (on_net N a m) (on_net N a m')
  unfolding on_net on_next ready take_step
  same_out late hears = by_area (is_area N a m) refl
    where
      by_late : (n : ℕ) → first_late N a k m'.records 0 N.rows ≡ n → is_area N a m ≡ true → is_done N a m ≡ false → SameOut m m' (on_net N a m) (on_net N a m')
      by_late zero e q r =
          rw (good, good', q, r, ← same_count q, r, late q r, e)
          (subst (λ (bs : List Branch). SameOut m m' (finish N a k m (solve N a k (legs_now N a m))) (finish N a k m' (solve N a k bs)))
          (legs_same N a k m.records m'.records _ same_held same_latch ∙ ap (legs_of N a k m'.records) (hears q r))
          (finish_both N a k m m' (solve N a k (legs_now N a m)) (first_area q) l own))
      by_late (suc n) e q r = rw (good, good', q, r, ← same_count q, r, late q r, e) (refused_both (Err (Wait (branch_number N (suc n)))) m m')

      by_done : (b : Bool) → is_done N a m ≡ b → is_area N a m ≡ true → SameOut m m' (on_net N a m) (on_net N a m')
      by_done true e q = rw (good, good', q, e, ← same_count q, e) (refused_both _ m m')
      by_done false e q = by_late _ refl q e

      by_area : (b : Bool) → is_area N a m ≡ b → SameOut m m' (on_net N a m) (on_net N a m')
      by_area true e = by_done (is_done N a m) refl e
      by_area false e = rw (good, good', e) (refused_both _ m m')

-- ---- by what is read

-- the two states are the same for area a at its step k: "its own area's records, the far counts and the far values it reads"
pub record SameFor (N : Net) (a k : ℕ) (m m' : Memory) : Type 0 where
  pub own : (j : ℕ) → owner_of N j ≡ a → word m.records j ≡ word m'.records j
  pub to_counts : (i : ℕ) → i < length N.rows → is_line (row_at N i) ≡ true → area_of N (from (row_at N i)) ≡ a
      → count_at_node N m.records (to (row_at N i)) ≡ count_at_node N m'.records (to (row_at N i))
  pub from_counts : (i : ℕ) → i < length N.rows → is_line (row_at N i) ≡ true → area_of N (to (row_at N i)) ≡ a
      → count_at_node N m.records (from (row_at N i)) ≡ count_at_node N m'.records (from (row_at N i))
  pub to_sent : (i : ℕ) → i < length N.rows → is_line (row_at N i) ≡ true → area_of N (from (row_at N i)) ≡ a → (x : ℕ) → Reads N.head (row_at N i) k x
      → word m.tos (slot_of N i x) ≡ word m'.tos (slot_of N i x)
  pub from_sent : (i : ℕ) → i < length N.rows → is_line (row_at N i) ≡ true → area_of N (to (row_at N i)) ≡ a → (x : ℕ) → Reads N.head (row_at N i) k x
      → word m.froms (slot_of N i x) ≡ word m'.froms (slot_of N i x)

module _ (N : Net) (a k : ℕ) where
  abbrev line_here : ℕ → (Row → ℕ) → Bool
  line_here i end = is_line (row_at N i) && here N a (end (row_at N i))

  sent_same : (i : ℕ) (near : Row → ℕ) (st st' : Words)
      → (is_line (row_at N i) ≡ true → area_of N (near (row_at N i)) ≡ a → (x : ℕ) → Reads N.head (row_at N i) k x → word st (slot_of N i x) ≡ word st' (slot_of N i x))
      → cond (line_here i near) (sent_to N k i (row_at N i) st) z ≡ cond (line_here i near) (sent_to N k i (row_at N i) st') z
  unfolding sent_to
  sent_same i near st st' h = go (is_line (row_at N i)) (here N a (near (row_at N i))) refl refl
    where
      go : (x y : Bool) → is_line (row_at N i) ≡ x → here N a (near (row_at N i)) ≡ y → cond (x && y) (sent_to N k i (row_at N i) st) z ≡ cond (x && y) (sent_to N k i (row_at N i) st') z
      go true true p q = received_same N.head (row_at N i) k (λ x. word st (slot_of N i x)) (λ x. word st' (slot_of N i x)) (h p (eqb-true _ a q))
      go true false p q = refl
      go false y p q = refl

  pair : (p q u w : ℤ) → p ≡ u → q ≡ w → ◌≡◌ {A = Heard} (record { at_from = p; at_to = q }) (record { at_from = u; at_to = w })
  pair p q u w e f = rw (e, f) refl

  pub heard_same : (froms tos froms' tos' : Words)
      → ((i : ℕ) → i < length N.rows → is_line (row_at N i) ≡ true → area_of N (from (row_at N i)) ≡ a → (x : ℕ) → Reads N.head (row_at N i) k x → word tos (slot_of N i x) ≡ word tos' (slot_of N i x))
      → ((i : ℕ) → i < length N.rows → is_line (row_at N i) ≡ true → area_of N (to (row_at N i)) ≡ a → (x : ℕ) → Reads N.head (row_at N i) k x → word froms (slot_of N i x) ≡ word froms' (slot_of N i x))
      → heard N a k froms tos ≡ heard N a k froms' tos'
  unfolding heard heard_by
  heard_same froms tos froms' tos' g h =
      map_same (heard_by N a k froms tos) (heard_by N a k froms' tos') 0 (length N.rows)
      (λ i l. pair _ _ _ _ (sent_same i from tos tos' (g i (omega arith))) (sent_same i to froms froms' (h i (omega arith))))
