-- 10 STATE, word by word: "Records are well formed when counts are 0 to steps, voltages, histories and sent values are in range, current magnitudes
-- are at most 1.4·10^17, areas at a line's two ends differ by at most d in count, and unused words are zero"; and peaks and latches (02). Assumes nothing.
use Rattle.std.specs.Prelude.{◌+◌, ◌-◌, ◌≤◌, ◌<◌, ◌≡◌, ◌&&◌, ◌||◌}
use Rattle.whole.specs.Plain.{ℕ, refl, sym, Bool, true, false, not, true≢false, [], leb, ℤ}
use Rattle.whole.specs.Plain.{nat_abs, non_neg, length, get_or, take, replicate, leb-true, le-leb, arith, Words, word, nat, up_to, every, within, numbers}
use Rattle.whole.specs.Folds.{and_left, and_right, both, every_at, every_if, length_numbers, get_d_numbers}
use Rattle.whole.specs.Within.{within_at, at_within, take_every, every_take}
use Rattle.paper.specs.Limits as Limits
use Rattle.paper.specs.Rows.{is_line, is_breaker, from, to}
use Rattle.paper.specs.Areas.{Net, area_of, row_area}
use Rattle.paper.specs.Records.{volt_at, peak_at, peak_step_at, latch_at, count_of, slot_count, end_of, ends, near, peak_formed, peaked, latched, records_formed, store_formed, well_formed}
use Rattle.paper.specs.Latch.{latch_formed}
use Rattle.paper.proofs.Apart.{words_within, within_words}
use Rattle.paper.specs.Advance.{Memory}
use Rattle.laws_facts.specs.Nets.{row_at}
use Rattle.laws_local.specs.Slots.{delay_at}
use Rattle.laws_local.specs.Waits.{count_at_node}

-- the end of each word of a line store
abbrev pub slot_end : Net → ℕ → ℕ
slot_end N j = get_or (replicate (slot_count N) Limits.history_end) j 0

-- a node's peak is not below its voltage's magnitude, and the peak's step not past its area's count
pub record Peaked (N : Net) (recs : Words) (n : ℕ) : Type 0 where
  pub peak_sign : non_neg (word recs (peak_at N n)) ≡ true
  pub step_sign : non_neg (word recs (peak_step_at N n)) ≡ true
  pub reached : nat_abs (word recs (volt_at N n)) ≤ nat_abs (word recs (peak_at N n))
  pub counted : nat (word recs (peak_step_at N n)) ≤ count_of recs (area_of N n)

-- the latch of the SW in place i is not set, or to a step at which it may part, one of those counted
abbrev pub latch_in : Words → ℕ → ℤ
latch_in recs i = word recs (latch_at i)

abbrev pub Latched : Net → Words → ℕ → Type 0
Latched N recs i = latch_formed (row_at N i) (latch_in recs i) (count_of recs (row_area N (row_at N i))) ≡ true

pub record Formed (N : Net) (m : Memory) : Type 0 where
  pub signs : (j : ℕ) → j < Limits.node_end → j < length m.records → non_neg (word m.records j) ≡ true
  pub records : (j : ℕ) → nat_abs (word m.records j) ≤ end_of N j
  pub from_near : (i : ℕ) → i < length N.rows → is_line (row_at N i) ≡ true → count_at_node N m.records (from (row_at N i)) ≤ count_at_node N m.records (to (row_at N i)) + delay_at N i
  pub to_near : (i : ℕ) → i < length N.rows → is_line (row_at N i) ≡ true → count_at_node N m.records (to (row_at N i)) ≤ count_at_node N m.records (from (row_at N i)) + delay_at N i
  pub peaks : (n : ℕ) → 1 ≤ n → n ≤ N.nodes → Peaked N m.records n
  pub latches : (i : ℕ) → i < length N.rows → is_breaker (row_at N i) ≡ true → Latched N m.records i
  pub froms : (j : ℕ) → nat_abs (word m.froms j) ≤ slot_end N j
  pub tos : (j : ℕ) → nat_abs (word m.tos j) ≤ slot_end N j

or_not : (x y : Bool) → x ≡ true → not x || y ≡ true → y ≡ true
or_not true y p e = e
or_not false y p e = absurd (true≢false (sym p))

not_or : (x y : Bool) → (x ≡ true → y ≡ true) → not x || y ≡ true
not_or true y h = h refl
not_or false y h = refl

-- of one node
module _ (N : Net) (recs : Words) (n : ℕ) where
  abbrev v : ℤ
  v = word recs (volt_at N n)

  abbrev p : ℤ
  p = word recs (peak_at N n)

  abbrev s : ℤ
  s = word recs (peak_step_at N n)

  node_peaked : peaked N recs n ≡ true → Peaked N recs n
  unfolding peaked peak_formed up_to
  node_peaked e =
      let e₃ = and_left (non_neg p && non_neg s && leb (nat_abs v) (nat_abs p)) _ e in
      let e₂ = and_left (non_neg p && non_neg s) _ e₃ in
      record {
        peak_sign = and_left (non_neg p) _ e₂;
        step_sign = and_right (non_neg p) _ e₂;
        reached = leb-true _ _ (and_right (non_neg p && non_neg s) _ e₃);
        counted = leb-true _ _ (and_right (non_neg p && non_neg s && leb (nat_abs v) (nat_abs p)) _ e);
      }

  peaked_node : Peaked N recs n → peaked N recs n ≡ true
  unfolding peaked peak_formed up_to
  peaked_node q = both (both (both q.peak_sign q.step_sign) (le-leb _ _ q.reached)) (le-leb _ _ q.counted)

module _ (N : Net) (m : Memory) where
  abbrev c₁ : Bool
  c₁ = every non_neg (take Limits.node_end m.records)

  abbrev c₂ : Bool
  c₂ = within (ends N) m.records

  abbrev c₃ : Bool
  c₃ = every (near N m.records) N.rows

  abbrev c₄ : Bool
  c₄ = every (peaked N m.records) (numbers 1 N.nodes)

  abbrev c₅ : Bool
  c₅ = every (latched N m.records) (numbers 0 (length N.rows))

  abbrev c₆ : Bool
  c₆ = store_formed N m.froms

  abbrev c₇ : Bool
  c₇ = store_formed N m.tos

  pub formed : well_formed N m.records m.froms m.tos ≡ true → Formed N m
  unfolding well_formed records_formed near latched store_formed
  formed e =
      record {
        signs = take_every non_neg Limits.node_end m.records (and_left c₁ c₂ e₂);
        records = words_within N m.records (and_right c₁ c₂ e₂);
        from_near = λ i h l. leb-true _ _ (and_left (leb (count_at_node N m.records (from (row_at N i))) _) _ (two i h l));
        to_near = λ i h l. leb-true _ _ (and_right (leb (count_at_node N m.records (from (row_at N i))) _) _ (two i h l));
        peaks = λ n l h. node_peaked N m.records n (node n l h);
        latches = λ i h b. or_not (is_breaker (row_at N i)) _ b (row i h);
        froms = within_at _ m.froms (and_right (c₁ && c₂ && c₃ && c₄ && c₅) c₆ e₆);
        tos = within_at _ m.tos (and_right (c₁ && c₂ && c₃ && c₄ && c₅ && c₆) c₇ e);
      }
    where
      e₆ : c₁ && c₂ && c₃ && c₄ && c₅ && c₆ ≡ true
      e₆ = and_left (c₁ && c₂ && c₃ && c₄ && c₅ && c₆) c₇ e

      e₅ : c₁ && c₂ && c₃ && c₄ && c₅ ≡ true
      e₅ = and_left (c₁ && c₂ && c₃ && c₄ && c₅) c₆ e₆

      e₄ : c₁ && c₂ && c₃ && c₄ ≡ true
      e₄ = and_left (c₁ && c₂ && c₃ && c₄) c₅ e₅

      e₃ : c₁ && c₂ && c₃ ≡ true
      e₃ = and_left (c₁ && c₂ && c₃) c₄ e₄

      e₂ : c₁ && c₂ ≡ true
      e₂ = and_left (c₁ && c₂) c₃ e₃

      two : (i : ℕ) → i < length N.rows → is_line (row_at N i) ≡ true
          → leb (count_at_node N m.records (from (row_at N i))) (count_at_node N m.records (to (row_at N i)) + delay_at N i)
          && leb (count_at_node N m.records (to (row_at N i))) (count_at_node N m.records (from (row_at N i)) + delay_at N i) ≡ true
      two i h l = or_not (is_line (row_at N i)) _ l (every_at (near N m.records) N.rows [] i (and_right (c₁ && c₂) c₃ e₃) h)

      node : (n : ℕ) → 1 ≤ n → n ≤ N.nodes → peaked N m.records n ≡ true
      node n l h =
          let j : n - 1 < N.nodes = omega arith in
          let i : 1 + (n - 1) ≡ n = omega arith in
          rw (get_d_numbers 1 N.nodes (n - 1) 0 j, i) at (every_at (peaked N m.records) (numbers 1 N.nodes) 0 (n - 1) (and_right (c₁ && c₂ && c₃) c₄ e₄) (rw (length_numbers 1 N.nodes) j))

      row : (i : ℕ) → i < length N.rows → latched N m.records i ≡ true
      row i h =
          let j : 0 + i ≡ i = omega arith in
          rw (get_d_numbers 0 (length N.rows) i 0 h, j) at (every_at (latched N m.records) (numbers 0 (length N.rows)) 0 i (and_right (c₁ && c₂ && c₃ && c₄) c₅ e₅) (rw (length_numbers 0 (length N.rows)) h))

  pub well_formed_lem : Formed N m → well_formed N m.records m.froms m.tos ≡ true
  unfolding well_formed records_formed near latched store_formed
  well_formed_lem f = both (both (both (both (both (both p₁ p₂) p₃) p₄) p₅) p₆) p₇
    where
      p₁ : c₁ ≡ true
      p₁ = every_take non_neg Limits.node_end m.records f.signs

      p₂ : c₂ ≡ true
      p₂ = within_words N m.records f.records

      p₃ : c₃ ≡ true
      p₃ = every_if (near N m.records) N.rows [] (λ i h. not_or (is_line (row_at N i)) _ (λ l. both (le-leb _ _ (f.from_near i h l)) (le-leb _ _ (f.to_near i h l))))

      p₄ : c₄ ≡ true
      p₄ = every_if (peaked N m.records) (numbers 1 N.nodes) 0 (λ i h.
          let j : i < N.nodes = rw (length_numbers 1 N.nodes) at h in
          rw (get_d_numbers 1 N.nodes i 0 j) (peaked_node N m.records (1 + i) (f.peaks (1 + i) (omega arith) (omega arith))))

      p₅ : c₅ ≡ true
      p₅ = every_if (latched N m.records) (numbers 0 (length N.rows)) 0 (λ i h.
          let l : i < length N.rows = rw (length_numbers 0 (length N.rows)) at h in
          let j : 0 + i ≡ i = omega arith in
          rw (get_d_numbers 0 (length N.rows) i 0 l, j) (not_or (is_breaker (row_at N i)) _ (λ b. f.latches i l b)))

      p₆ : c₆ ≡ true
      p₆ = at_within (replicate (slot_count N) Limits.history_end) m.froms f.froms

      p₇ : c₇ ≡ true
      p₇ = at_within (replicate (slot_count N) Limits.history_end) m.tos f.tos
