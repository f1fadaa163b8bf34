-- The answers of an advance, case by case. Assumes nothing.
use Rattle.std.specs.Prelude.{Option, Some, None, is_some, Ok, Err}
use Rattle.std.specs.Prelude.{◌+◌, ◌≤◌, ◌<◌, ◌≡◌, ◌&&◌, ◌∷◌}
use Rattle.whole.specs.Plain.{ℕ, zero, suc, refl, sym, ap, Bool, true, false, true≢false, cond, List}
use Rattle.whole.specs.Plain.{[], leb, length, le-leb, lt-leb, arith, Words}
use Rattle.whole.specs.Named.{placed}
use Rattle.paper.specs.Replies.{Advance, refused_of}
use Rattle.paper.specs.declared.Unfit.{Unfit}
use Rattle.paper.specs.declared.Refusal.TheVariants.{State, Area, Done, Wait}
use Rattle.paper.specs.Rows.{Row, steps}
use Rattle.paper.specs.Areas.{Net, area_count, branch_number}
use Rattle.paper.specs.Records.{count_of, well_formed}
use Rattle.paper.specs.Advance.{Memory, Advanced, advanced, waits_for, first_late, ready, on_next, on_net, advance_of}
use Rattle.paper.specs.One.{Advances}
use Rattle.laws_facts.specs.Nets.{net_in}
use Rattle.call_lent.specs.Lengths.{lengths, fit, unfit}
use Rattle.call_lent.specs.Lengths as Lent
use Rattle.call_network.specs.Admitted.{fit_network, unfit_network}
use Rattle.call_network.specs.Admitted as Network

-- ---- 13

late_most : (N : Net) (a k : ℕ) (recs : Words) (i : ℕ) (rows : List Row) → first_late N a k recs i rows ≤ i + length rows
unfolding first_late
late_most N a k recs i [] = omega arith
late_most N a k recs i (r ∷ rows) = by (waits_for N a k recs r) (first_late N a k recs (suc i) rows) (late_most N a k recs (suc i) rows)
  where
    by : (t : Bool) (l : ℕ) → l ≤ suc i + length rows → cond t (suc i) l ≤ i + suc (length rows)
    by true l h = omega arith
    by false l h = omega arith

abbrev place_or : Option ℕ → ℕ
place_or None = 0
place_or (Some i) = i

some_of : (p : ℕ) {i : ℕ} → Some i ≡ placed p → p ≡ suc i
some_of zero e = absurd (true≢false (ap is_some e))
some_of (suc j) e = ap suc (sym (ap place_or e))

none_of : (p : ℕ) → None ≡ placed p → p ≡ 0
none_of zero e = refl
none_of (suc j) e = absurd (true≢false (sym (ap is_some e)))

module _ (N : Net) (a k : ℕ) (m : Memory) where
  pub late_in : {i : ℕ} → Some i ≡ placed (first_late N a k m.records 0 N.rows) → i < length N.rows
  late_in e = omega (arith, some_of (first_late N a k m.records 0 N.rows) e, late_most N a k m.records 0 N.rows)

  pub waits : {i b : ℕ} → Some i ≡ placed (first_late N a k m.records 0 N.rows) → b ≡ branch_number N (suc i) → advanced (Err (Wait b)) m ≡ on_next N a k m
  unfolding on_next
  waits e q = rw (some_of (first_late N a k m.records 0 N.rows) e, q)

  pub goes_on : (x : Advanced) → None ≡ placed (first_late N a k m.records 0 N.rows) → x ≡ ready N a k m → x ≡ on_next N a k m
  unfolding on_next
  goes_on x e q = rw (none_of (first_late N a k m.records 0 N.rows) e) q

-- ---- 10, 11, 12

module _ (N : Net) (a : ℕ) (m : Memory) where
  pub not_formed : well_formed N m.records m.froms m.tos ≡ false → advanced (Err State) m ≡ on_net N a m
  unfolding on_net
  not_formed e = rw e

  module _ (e : well_formed N m.records m.froms m.tos ≡ true) where
    pub no_area : (leb 1 a && leb a (area_count N)) ≡ false → advanced (Err Area) m ≡ on_net N a m
    unfolding on_net
    no_area f = rw (e, f)

    module _ (l : 1 ≤ a) (h : a ≤ area_count N) where
      pub all_taken : steps N.head ≤ count_of m.records a → advanced (Err Done) m ≡ on_net N a m
      unfolding on_net
      all_taken d = rw (e, le-leb 1 a l, le-leb a (area_count N) h, le-leb (steps N.head) (count_of m.records a) d)

      pub next_step : (b k : ℕ) (x : Advanced) → count_of m.records a < steps N.head → b ≡ a → k ≡ count_of m.records a + 1 → x ≡ on_next N b k m → x ≡ on_net N a m
      unfolding on_net
      next_step b k x d p q y =
          let z : k ≡ suc (count_of m.records a) = omega arith in
          rw (e, le-leb 1 a l, le-leb a (area_count N) h, lt-leb (steps N.head) (count_of m.records a) d, ← z, ← p) y

-- ---- 9, 8

module _ (net : Words) (a : ℕ) (m : Memory) where
  pub wrong_length : {x : Unfit} → Err x ≡ Lent.admitted net m → Advances net a m (Err (refused_of x)) m
  unfolding advance_of
  wrong_length {x} e =
      let q : advance_of net a m ≡ advanced (Err (refused_of x)) m = unfit net m (λ y. advanced (Err (refused_of y)) m) _ e in
      record { answer = rw q; memory = rw q }

  module _ {u : Unit {0}} (e : Ok u ≡ Lent.admitted net m) where
    pub no_network : {x : Unfit} → Err x ≡ Network.admitted net → Advances net a m (Err (refused_of x)) m
    unfolding advance_of
    no_network {x} f =
        let q : advance_of net a m ≡ advanced (Err (refused_of x)) m =
        rw (fit net m e) (unfit_network net (λ y. advanced (Err (refused_of y)) m) _ (lengths net m (fit net m e)).network f) in
        record { answer = rw q; memory = rw q }

    pub on_network : {v : Unit {0}} (x : Advance) (n : Memory) → Ok v ≡ Network.admitted net → advanced x n ≡ on_net (net_in net) a m → Advances net a m x n
    unfolding advance_of
    on_network x n f q = record {
      answer = rw (fit net m e, fit_network net f) (ap (λ (y : Advanced). y.answer) q);
      memory = rw (fit net m e, fit_network net f) (ap (λ (y : Advanced). y.after) q);
    }
