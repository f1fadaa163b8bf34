-- The records after an accepted step: the words of its area, what it puts there, and that it writes no others. Assumes nothing.
use Rattle.std.specs.Prelude.{◌+◌, ◌-◌, ◌≤◌, ◌<◌, ◌≡◌, ◌≢◌, ◌&&◌, ◌||◌, ◌∷◌}
use Rattle.whole.specs.Plain.{ℕ, zero, suc, refl, sym, ap, ◌∙◌, subst, true, cond, List, []}
use Rattle.whole.specs.Plain.{ltb, pos, length, get_or-eq_default, eq-eqb, ne_eqb, lt-ltb, arith, Words, z, word}
use Rattle.whole.specs.Folds.{and_left, and_right}
use Rattle.whole.specs.Members.{Among}
use Rattle.paper.specs.Limits as Limits
use Rattle.paper.specs.Rows.{is_line, is_breaker, is_l, is_c}
use Rattle.paper.specs.Classes.{breaker_branch, breaker_line}
use Rattle.paper.specs.Areas.{Net, area_of, area_count, row_area}
use Rattle.paper.specs.Records.{count_at, volt_at, current_at, to_current_at, history_at, peak_at, peak_step_at, latch_at, Found, Section, new_peak, new_peak_step, sections}
use Rattle.paper.specs.Records.{spot, owner_in, owner_of, next_of}
use Rattle.paper.specs.Latch.{new_latch}
use Rattle.paper.proofs.Apart.{counts_in, voltages_in, currents_in, to_currents_in, histories_in, peaks_in, peak_steps_in, latches_in, owner_is, next_of_lem}
use Rattle.paper.specs.Legs.{Branch, Heard, legs_by, legs_of, current, passed_on}
use Rattle.paper.specs.Advance.{renewed, found, new_records}
use Rattle.laws_facts.specs.Nets.{row_at}
use Rattle.laws_local.specs.Sound.{Sound}
use Rattle.laws_local.specs.Own.{row_is, from_own, own_branch, to_own, branch_is, line_no}
use Rattle.laws_local.specs.Nodes.{NodeOf}

-- ---- word by word

module _ (N : Net) (a : ℕ) where
  renewed_length : (f : Found) (i : ℕ) (w : Words) → length (renewed N a f i w) ≡ length w
  unfolding renewed
  renewed_length f i [] = refl
  renewed_length f i (x ∷ w) = ap suc (renewed_length f (suc i) w)

  renewed_keep : (f : Found) (i : ℕ) (w : Words) (j : ℕ) → owner_of N (i + j) ≢ a → word (renewed N a f i w) j ≡ word w j
  unfolding renewed
  renewed_keep f i [] j n = refl
  renewed_keep f i (x ∷ w) zero n = let e : i + 0 ≡ i = omega arith in rw (ne_eqb (owner_of N i) a (rw e at n))
  renewed_keep f i (x ∷ w) (suc j) n = let e : i + suc j ≡ suc i + j = omega arith in renewed_keep f (suc i) w j (rw e at n)

  renewed_own : (f : Found) (i : ℕ) (w : Words) (j : ℕ) → j < length w → owner_of N (i + j) ≡ a → word (renewed N a f i w) j ≡ next_of N f (i + j)
  unfolding renewed
  renewed_own f i [] j h o = absurd (omega arith)
  renewed_own f i (x ∷ w) zero h o = let e : i + 0 ≡ i = omega arith in rw (e, eq-eqb (owner_of N i) a (rw e at o))
  renewed_own f i (x ∷ w) (suc j) h o = let e : i + suc j ≡ suc i + j = omega arith in rw e (renewed_own f (suc i) w j (omega arith) (rw e at o))

module _ (N : Net) (a k : ℕ) (bs : List Branch) (v w : Words) where
  pub records_length : length (new_records N a k bs v w) ≡ length w
  unfolding new_records
  records_length = renewed_length N a (found k bs v w) 0 w

  -- "writes": an accepted step of area a leaves every record of another area as it was
  pub records_keep : (j : ℕ) → owner_of N j ≢ a → word (new_records N a k bs v w) j ≡ word w j
  unfolding new_records
  records_keep j n = let e : j ≡ 0 + j = omega arith in renewed_keep N a (found k bs v w) 0 w j (rw e at n)

  pub records_own : (j : ℕ) → j < length w → owner_of N j ≡ a → word (new_records N a k bs v w) j ≡ next_of N (found k bs v w) j
  unfolding new_records
  records_own j h o = let e : 0 + j ≡ j = omega arith in rw e at (renewed_own N a (found k bs v w) 0 w j h (rw e o))

  pub records_past : (j : ℕ) → length w ≤ j → word (new_records N a k bs v w) j ≡ z
  records_past j h = get_or-eq_default (new_records N a k bs v w) z (omega (arith, records_length))

  -- a word of a section
  pub section_own : {s : Section} → Among s sections → (i : ℕ) → i < s.words → s.start + i < length w → owner_in N (spot s i) ≡ a
      → word (new_records N a k bs v w) (s.start + i) ≡ s.next N (found k bs v w) i
  section_own m i h l o = records_own _ l (owner_is N m i h ∙ o) ∙ next_of_lem N m i h (found k bs v w)

  -- the same, of another area
  pub section_keep : {s : Section} → Among s sections → (i : ℕ) → i < s.words → owner_in N (spot s i) ≢ a → word (new_records N a k bs v w) (s.start + i) ≡ word w (s.start + i)
  section_keep m i h n = records_keep _ (λ e. n (sym (owner_is N m i h) ∙ e))

-- ---- a node's words are its area's

node_own : (N : Net) (a j : ℕ) → NodeOf N a (suc j) → cond (ltb j N.nodes) (area_of N (suc j)) 0 ≡ a
node_own N a j h = rw (lt-ltb j N.nodes (omega (arith, h.high))) h.area

module _ (N : Net) (a : ℕ) (f : Sound N) where
  own_at : {s : Section} → Among s sections → (j i : ℕ) → j < s.words → i ≡ s.start + j → owner_in N (spot s j) ≡ a → owner_of N i ≡ a
  own_at m j i h e o = ap (owner_of N) e ∙ owner_is N m j h ∙ o

  pub volt_own : (n : ℕ) → NodeOf N a n → owner_of N (volt_at N n) ≡ a
  volt_own zero h = absurd (omega (arith, h.low))
  volt_own (suc j) h = own_at voltages_in j _ (omega (arith, h.high, f.nodes)) (omega arith) (node_own N a j h)

  pub peak_own : (n : ℕ) → NodeOf N a n → owner_of N (peak_at N n) ≡ a
  peak_own zero h = absurd (omega (arith, h.low))
  peak_own (suc j) h = own_at peaks_in j _ (omega (arith, h.high, f.nodes)) (omega arith) (node_own N a j h)

  pub peak_step_own : (n : ℕ) → NodeOf N a n → owner_of N (peak_step_at N n) ≡ a
  peak_step_own zero h = absurd (omega (arith, h.low))
  peak_step_own (suc j) h = own_at peak_steps_in j _ (omega (arith, h.high, f.nodes)) (omega arith) (node_own N a j h)

  -- an SW's current and its latch, too
  module _ (i : ℕ) (h : i < length N.rows) (b : is_breaker (row_at N i) ≡ true) (o : row_area N (row_at N i) ≡ a) where
    pub latch_own : owner_of N (latch_at i) ≡ a
    latch_own = own_at latches_in i _ (omega (arith, f.rows)) refl (rw b o)

    pub breaker_own : owner_of N (current_at i) ≡ a
    breaker_own = own_at currents_in i _ (omega (arith, f.rows)) refl (rw (breaker_branch (row_at N i) b, breaker_line (row_at N i) b) o)

-- ---- section by section

module _ (N : Net) (a k : ℕ) (recs : Words) (ears : List Heard) (v : Words) where
  abbrev pub bs : List Branch
  bs = legs_of N a k recs ears

  abbrev pub by : ℕ → Branch
  by = legs_by N a k recs ears

  abbrev pub new : Words → Words
  new w = new_records N a k bs v w

  module _ (f : Sound N) (w : Words) (long : length w ≡ Limits.record_words) where
    -- "an accepted advance answers the area's new count"
    pub count_put : 1 ≤ a → a ≤ area_count N → word (new w) (count_at a) ≡ pos k
    count_put one most =
        let e : a - 1 ≡ 0 + (a - 1) = omega arith in
        rw e (section_own N a k bs v w counts_in (a - 1) (omega (arith, f.areas)) (omega (arith, f.areas)) (rw (lt-ltb (a - 1) (area_count N) (omega arith)) (omega arith)))

    pub volt_put : (n : ℕ) → NodeOf N a n → word (new w) (volt_at N n) ≡ word v n
    volt_put n h =
        let e : 32 + n - 1 ≡ 32 + (n - 1) = omega (arith, h.low) in
        let q : suc (n - 1) ≡ n = omega (arith, h.low) in
        rw e (section_own N a k bs v w voltages_in (n - 1) (omega (arith, h.low, h.high, f.nodes)) (omega (arith, h.low, h.high, f.nodes))
        (rw (lt-ltb (n - 1) N.nodes (omega (arith, h.low, h.high)), q) h.area) ∙ ap (word v) q)

    -- a node's words: as they were where the node is of another area
    module _ (n : ℕ) (low : 1 ≤ n) (high : n ≤ N.nodes) (other : area_of N n ≢ a) where
      node_other : {x : ℕ} → x ≡ n → cond (ltb (n - 1) N.nodes) (area_of N x) 0 ≢ a
      node_other e q = other (sym (ap (area_of N) e) ∙ (rw (lt-ltb (n - 1) N.nodes (omega arith)) at q))

      abbrev Stay : ℕ → Type 0
      Stay j = word (new w) j ≡ word w j

      node_keep : (j i : ℕ) → i ≡ j → Stay i → Stay j
      node_keep j i e = subst Stay e

      pub volt_keep : Stay (volt_at N n)
      volt_keep = node_keep _ (32 + (n - 1)) (omega arith) (section_keep N a k bs v w voltages_in (n - 1) (omega (arith, f.nodes)) (node_other (omega arith)))

      pub peak_keep : Stay (peak_at N n)
      peak_keep = node_keep _ (304 + (n - 1)) (omega arith) (section_keep N a k bs v w peaks_in (n - 1) (omega (arith, f.nodes)) (node_other (omega arith)))

      pub peak_step_keep : Stay (peak_step_at N n)
      peak_step_keep = node_keep _ (336 + (n - 1)) (omega arith) (section_keep N a k bs v w peak_steps_in (n - 1) (omega (arith, f.nodes)) (node_other (omega arith)))

    -- "each node's largest magnitude and the first step where it came" (02)
    pub peak_put : (n : ℕ) → NodeOf N a n → word (new w) (peak_at N n) ≡ new_peak k (word v n) (word w (peak_at N n))
    peak_put zero h = absurd (omega (arith, h.low))
    peak_put (suc j) h =
        let e : 304 + suc j - 1 ≡ 304 + j = omega arith in
        ap (word (new w)) e ∙ section_own N a k bs v w peaks_in j (omega (arith, h.high, f.nodes)) (omega (arith, h.high, f.nodes)) (node_own N a j h)

    pub peak_step_put : (n : ℕ) → NodeOf N a n → word (new w) (peak_step_at N n) ≡ new_peak_step k (word v n) (word w (peak_at N n)) (word w (peak_step_at N n))
    peak_step_put zero h = absurd (omega (arith, h.low))
    peak_step_put (suc j) h =
        let e : 336 + suc j - 1 ≡ 336 + j = omega arith in
        ap (word (new w)) e ∙ section_own N a k bs v w peak_steps_in j (omega (arith, h.high, f.nodes)) (omega (arith, h.high, f.nodes)) (node_own N a j h)

    module _ (i : ℕ) (h : i < length N.rows) where
      pub current_put : (by i).is_from_end.own ≡ true → word (new w) (current_at i) ≡ current v (by i).is_from_end.wire
      current_put o =
          section_own N a k bs v w currents_in i (omega (arith, f.rows)) (omega (arith, f.rows)) (rw (own_branch N a k recs ears i o) (from_own N a k recs ears i o))
          ∙ ap (λ (b : Branch). current v b.is_from_end.wire) (branch_is N a k recs ears i h)

      pub to_put : is_line (row_at N i) && (by i).is_to_end.own ≡ true → word (new w) (to_current_at i) ≡ current v (by i).is_to_end.wire
      to_put o =
          let l = and_left (is_line (row_at N i)) (by i).is_to_end.own o in
          section_own N a k bs v w to_currents_in i (omega (arith, f.rows)) (omega (arith, f.rows)) (rw l (to_own N a k recs ears i l (and_right (is_line (row_at N i)) (by i).is_to_end.own o)))
          ∙ ap (λ (b : Branch). current v b.is_to_end.wire) (branch_is N a k recs ears i h)

      pub history_put : (is_l (row_at N i) || is_c (row_at N i)) && (by i).is_from_end.own ≡ true → word (new w) (history_at i) ≡ passed_on v (row_at N i) (by i).is_from_end.wire
      history_put o =
          let c = and_left (is_l (row_at N i) || is_c (row_at N i)) (by i).is_from_end.own o in
          let q = rw (line_no (row_at N i) c) at (from_own N a k recs ears i (and_right (is_l (row_at N i) || is_c (row_at N i)) (by i).is_from_end.own o)) in
          section_own N a k bs v w histories_in i (omega (arith, f.rows)) (omega (arith, f.rows)) (rw c q)
          ∙ ap (λ (b : Branch). passed_on v b.row b.is_from_end.wire) (branch_is N a k recs ears i h) ∙ rw (row_is N a k recs ears i)

      -- "a closed switch now parts after the first step k" (02)
      module _ (b : is_breaker (row_at N i) ≡ true) where
        pub latch_put : row_area N (row_at N i) ≡ a → word (new w) (latch_at i) ≡ new_latch k (row_at N i) (word w (current_at i)) (current v (by i).is_from_end.wire) (word w (latch_at i))
        latch_put o =
            section_own N a k bs v w latches_in i (omega (arith, f.rows)) (omega (arith, f.rows)) (rw b o)
            ∙ ap (λ (x : Branch). new_latch k (row_at N i) (word w (current_at i)) (current v x.is_from_end.wire) (word w (latch_at i))) (branch_is N a k recs ears i h)

        pub latch_keep : row_area N (row_at N i) ≢ a → word (new w) (latch_at i) ≡ word w (latch_at i)
        latch_keep n = section_keep N a k bs v w latches_in i (omega (arith, f.rows)) (λ e. n (rw b at e))
