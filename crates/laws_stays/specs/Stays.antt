-- T-fresh: what reset writes is well formed; and of T-stays the counts, peaks and latches after the step of one area. Assumes nothing.
use Rattle.std.specs.Prelude.{◌+◌, ◌≤◌, ◌<◌, ◌≡◌, ◌≢◌, ◌||◌}
use Rattle.whole.specs.Plain.{ℕ, zero, suc, max, refl, sym, ap, Bool, true, false, cond, List}
use Rattle.whole.specs.Plain.{true≢false, eqb, ℤ, pos, negsuc, nat_abs, lt_z, non_neg, length, replicate, ltb-false, ℕ_discrete, arith, Words, z, word, nat}
use Rattle.paper.specs.declared.Refusal.{Refusal}
use Rattle.paper.specs.Limits as Limits
use Rattle.paper.specs.Rows.{is_breaker, from, to}
use Rattle.paper.specs.Areas.{Net, area_of, area_count, row_area}
use Rattle.paper.specs.Records.{count_at, volt_at, peak_at, peak_step_at, latch_at, count_of, outdone, new_peak, new_peak_step, well_formed}
use Rattle.paper.specs.Latch.{latch_formed}
use Rattle.paper.specs.Legs.{Branch, Heard}
use Rattle.paper.specs.Solve.{stop, move}
use Rattle.paper.specs.Advance.{Memory}
use Rattle.paper.specs.Resetting.{fresh}
use Rattle.laws_facts.specs.Nets.{row_at, area_of_lem}
use Rattle.laws_local.specs.Sound.{Sound}
use Rattle.laws_local.specs.Own.{other_count}
use Rattle.laws_local.specs.Nodes.{NodeOf}
use Rattle.laws_local.specs.Written.{new, records_keep, count_put, volt_put, volt_keep, peak_put, peak_keep, peak_step_put, peak_step_keep, latch_put, latch_keep}
use Rattle.laws_stays.specs.Formed.{Peaked, latch_in, Latched, Formed, well_formed_lem}
use Rattle.laws_stays.specs.Latches.{latch_later, latch_next}

-- ---- T-fresh

pub zero_word : (n j : ℕ) → word (replicate n z) j ≡ z
zero_word zero j = refl
zero_word (suc n) zero = refl
zero_word (suc n) (suc j) = zero_word n j

fresh_formed : (N : Net) → Formed N fresh
unfolding fresh latch_formed
fresh_formed N =
    record {
      signs = λ j _ _. rw (zero_word Limits.record_words j);
      records = λ j. rw (zero_word Limits.record_words j) (omega arith);
      from_near = λ i _ _. rw (zero_word Limits.record_words (count_at (area_of N (from (row_at N i)))), zero_word Limits.record_words (count_at (area_of N (to (row_at N i))))) (omega arith);
      to_near = λ i _ _. rw (zero_word Limits.record_words (count_at (area_of N (from (row_at N i)))), zero_word Limits.record_words (count_at (area_of N (to (row_at N i))))) (omega arith);
      peaks = λ n _ _.
          let v : word (replicate Limits.record_words z) (volt_at N n) ≡ z = zero_word Limits.record_words (volt_at N n) in
          let p : word (replicate Limits.record_words z) (peak_at N n) ≡ z = zero_word Limits.record_words (peak_at N n) in
          let s : word (replicate Limits.record_words z) (peak_step_at N n) ≡ z = zero_word Limits.record_words (peak_step_at N n) in
          record { peak_sign = rw p; step_sign = rw s; reached = rw (v, p) (omega arith); counted = rw s (omega arith) };
      latches = λ i _ _. rw (zero_word Limits.record_words (latch_at i));
      froms = λ j. rw (zero_word Limits.store_words j) (omega arith);
      tos = λ j. rw (zero_word Limits.store_words j) (omega arith);
    }

pub fresh_well : (N : Net) → well_formed N fresh.records fresh.froms fresh.tos ≡ true
fresh_well N = well_formed_lem N fresh (fresh_formed N)

-- ---- the lengths

-- "a lent length wrong": the lengths that pass refusal 9
pub record Long (m : Memory) : Type 0 where
  pub records : length m.records ≡ Limits.record_words
  pub froms : length m.froms ≡ Limits.store_words
  pub tos : length m.tos ≡ Limits.store_words

-- ---- counts after the step of one area

module _ (N : Net) (f : Sound N) (m : Memory) (long : Long m) (a k : ℕ) (one : 1 ≤ a) (most : a ≤ area_count N) (ears : List Heard) (v : Words) where
  abbrev after : Words
  after = new N a k m.records ears v m.records

  pub counted : count_of after a ≡ k
  counted = ap nat (count_put N a k m.records ears v f m.records long.records one most)

  pub uncounted : (b : ℕ) → 1 ≤ b → b ≤ 32 → b ≢ a → count_of after b ≡ count_of m.records b
  uncounted b l h n = ap nat (records_keep N a k _ v m.records (count_at b) (other_count N a b one l h n))

  -- "areas at a line's two ends differ by at most d in count": x and y are the areas at its ends
  pub near_stays : (x y d : ℕ) → 1 ≤ x → x ≤ 32 → 1 ≤ y → y ≤ 32 → k ≡ suc (count_of m.records a)
      → (x ≡ a → k ≤ count_of m.records y + d) → count_of m.records x ≤ count_of m.records y + d → count_of after x ≤ count_of after y + d
  near_stays x y d x1 x32 y1 y32 e free old = go (ℕ_discrete x a) (ℕ_discrete y a)
    where
      go : Dec (x ≡ a) → Dec (y ≡ a) → count_of after x ≤ count_of after y + d
      go (yes p) (yes q) = rw (p, q) (omega arith)
      go (yes p) (no q) = let h : k ≤ count_of m.records y + d = free p in rw (p, counted, uncounted y y1 y32 q) h
      go (no p) (yes q) =
          let h : count_of m.records x ≤ count_of m.records a + d = rw q at old in
          rw (q, counted, uncounted x x1 x32 p) (omega arith)
      go (no p) (no q) = rw (uncounted x x1 x32 p, uncounted y y1 y32 q) old

  -- a node of the area: its peak is not below its new voltage's magnitude, and the peak's step is k or, as it was, not past the count before
  module _ (n : ℕ) (h : NodeOf N a n) (old : Peaked N m.records n) (later : count_of m.records a ≤ k) where
    abbrev x : ℤ
    x = word v n

    abbrev p : ℤ
    p = word m.records (peak_at N n)

    abbrev s : ℤ
    s = word m.records (peak_step_at N n)

    not_outdone : (b : Bool) (q : ℤ) → non_neg q ≡ true → (b || lt_z q (pos (nat_abs x))) ≡ false → nat_abs x ≤ nat_abs q
    not_outdone true q r e = absurd (true≢false e)
    not_outdone false (pos q) r e = ltb-false q (nat_abs x) e
    not_outdone false (negsuc q) r e = absurd (true≢false (sym r))

    pub own_peaked : Peaked N after n
    unfolding outdone new_peak new_peak_step
    own_peaked = go (outdone k x p) refl (peak_put N a k m.records ears v f m.records long.records n h) (peak_step_put N a k m.records ears v f m.records long.records n h)
      where
        volt : word after (volt_at N n) ≡ x
        volt = volt_put N a k m.records ears v f m.records long.records n h

        go : (b : Bool) → outdone k x p ≡ b → word after (peak_at N n) ≡ cond b (pos (nat_abs x)) p → word after (peak_step_at N n) ≡ cond b (pos k) s → Peaked N after n
        go true e q r = record { peak_sign = rw q; step_sign = rw r; reached = rw (volt, q) (omega arith); counted = rw (r, h.area, counted) (omega arith) }
        go false e q r =
            let o : nat s ≤ count_of m.records a = rw h.area at old.counted in
            record {
              peak_sign = rw q old.peak_sign;
              step_sign = rw r old.step_sign;
              reached = rw (volt, q) (not_outdone (eqb k 1) p old.peak_sign e);
              counted = rw (r, h.area, counted) (omega arith);
            }

  -- an SW: of the area, its latch is k or as it was; of another area, nothing of it is touched
  module _ (i : ℕ) (h : i < length N.rows) (b : is_breaker (row_at N i) ≡ true) (old : Latched N m.records i) where
    pub own_latched : row_area N (row_at N i) ≡ a → k ≡ suc (count_of m.records a) → Latched N after i
    own_latched o e =
        let c = count_of m.records (row_area N (row_at N i)) in
        let q = latch_later (row_at N i) (latch_in m.records i) c k (rw o (omega arith)) old in
        rw (latch_put N a k m.records ears v f m.records long.records i h b o, o, counted) (latch_next k (row_at N i) _ _ _ (omega arith) q)

    pub other_latched : row_area N (row_at N i) ≢ a → 1 ≤ row_area N (row_at N i) → Latched N after i
    other_latched n one' =
        let u = uncounted (row_area N (row_at N i)) one' (omega (arith, area_of_lem N (max (from (row_at N i)) (to (row_at N i))), f.areas)) n in
        rw (latch_keep N a k m.records ears v f m.records long.records i h b n, u) old

  -- a node of another area: nothing of it is touched
  pub other_peaked : (n : ℕ) → 1 ≤ n → n ≤ N.nodes → 1 ≤ area_of N n → area_of N n ≢ a → Peaked N m.records n → Peaked N after n
  other_peaked n low high one' o old =
      let q = peak_keep N a k m.records ears v f m.records long.records n low high o in
      let r = peak_step_keep N a k m.records ears v f m.records long.records n low high o in
      record {
        peak_sign = rw q old.peak_sign;
        step_sign = rw r old.step_sign;
        reached = rw (volt_keep N a k m.records ears v f m.records long.records n low high o, q) old.reached;
        counted = rw (r, uncounted (area_of N n) one' (omega (arith, area_of_lem N n, f.areas)) o) old.counted;
      }

-- ---- the step

pub stop_move : {x : Refusal} {bs : List Branch} {v : Words} → stop x ≡ move bs v → ⊥
stop_move e = let z : ◌≡◌ {A = ℕ} 0 1 = cc in omega arith
