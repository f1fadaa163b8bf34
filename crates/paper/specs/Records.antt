-- The records by sections, in one table: counts by area, voltages by node, then by row the from-side currents, the to-end currents and the histories,
-- by node the peaks and their steps, and by row the latches.
-- A word is used as its section says, and of no area where it is not; no word past the last section is used. Assumes nothing.
use Rattle.std.specs.Prelude.{◌+◌, ◌-◌, ◌&&◌, ◌||◌, ◌∷◌}
use Rattle.whole.specs.Plain.{ℕ, suc, Bool, false, cond, not, List, [], map, leb, ltb, ℤ}
use Rattle.whole.specs.Plain.{eqb, pos, nat_abs, lt_z, non_neg, get_or, length, replicate, take, Words, z, word, nat, up_to, every, within, numbers}
use Rattle.paper.specs.Limits as Limits
use Rattle.paper.specs.Rows.{Row, is_branch, is_line, is_breaker, is_l, is_c, from, to, steps}
use Rattle.paper.specs.Faults.{delay}
use Rattle.paper.specs.Areas.{Net, area_of, area_count, row_area, step}
use Rattle.paper.specs.Legs.{Branch, branch_in, current, passed_on}
use Rattle.paper.specs.Latch.{new_latch, latch_formed}
unfoldable pub use Rattle.paper.specs.Where.{count_at, volt_at, current_at, to_current_at, history_at, peak_at, peak_step_at, latch_at, offset, slot_count}

abbrev pub count_of : Words → ℕ → ℕ
count_of recs a = nat (word recs (count_at a))

-- ---- the table

-- what an accepted step has found: its number, its legs and voltages, and the records before it
pub record Found : Type 0 where
  pub step : ℕ
  pub legs : List Branch
  pub volts : Words
  pub before : Words

-- a section: its first word, how many it has; of the word in place j, from 0, whether it is used, the end of its magnitude, whose it is, and what an
-- accepted step of that area writes there
pub record Section : Type 0 where
  pub start : ℕ
  pub words : ℕ
  pub used : Net → ℕ → Bool
  pub end : Net → ℕ
  pub area : Net → ℕ → ℕ
  pub next : Net → Found → ℕ → ℤ

abbrev row_in : Net → ℕ → Row
row_in N j = get_or N.rows j []

-- "an accepted advance answers the area's new count"
abbrev pub counts : Section
counts = record {
  start = 0;
  words = Limits.node_end;
  used = λ N j. ltb j (area_count N);
  end = λ N. steps N.head;
  area = λ N j. suc j;
  next = λ N f j. pos f.step;
}

abbrev pub voltages : Section
voltages = record {
  start = 32;
  words = Limits.node_end;
  used = λ N j. ltb j N.nodes;
  end = λ N. Limits.voltage_end;
  area = λ N j. area_of N (suc j);
  next = λ N f j. word f.volts (suc j);
}

-- a line's from-side current is that of the area of its from node
abbrev pub currents : Section
currents = record {
  start = 64;
  words = Limits.row_end;
  used = λ N j. is_branch (row_in N j);
  end = λ N. Limits.current_end;
  area = λ N j. cond (is_line (row_in N j)) (area_of N (from (row_in N j))) (row_area N (row_in N j));
  next = λ N f j. current f.volts (branch_in f.legs j).is_from_end.wire;
}

abbrev pub to_currents : Section
to_currents = record {
  start = 144;
  words = Limits.row_end;
  used = λ N j. is_line (row_in N j);
  end = λ N. Limits.current_end;
  area = λ N j. area_of N (to (row_in N j));
  next = λ N f j. current f.volts (branch_in f.legs j).is_to_end.wire;
}

abbrev pub histories : Section
histories = record {
  start = 224;
  words = Limits.row_end;
  used = λ N j. is_l (row_in N j) || is_c (row_in N j);
  end = λ N. Limits.history_end;
  area = λ N j. row_area N (row_in N j);
  next = λ N f j. passed_on f.volts (branch_in f.legs j).row (branch_in f.legs j).is_from_end.wire;
}

-- Peaks (02): "each node's largest magnitude and the first step where it came". What stood there goes at step 1, and later where voltage v has a greater
-- magnitude than peak p: an equal one comes at a later step
unfoldable pub outdone : ℕ → ℤ → ℤ → Bool
outdone k v p = eqb k 1 || lt_z p (pos (nat_abs v))

unfoldable pub new_peak : ℕ → ℤ → ℤ → ℤ
new_peak k v p = cond (outdone k v p) (pos (nat_abs v)) p

-- s the step of p
unfoldable pub new_peak_step : ℕ → ℤ → ℤ → ℤ → ℤ
new_peak_step k v p s = cond (outdone k v p) (pos k) s

abbrev pub peaks : Section
peaks = record {
  start = 304;
  words = Limits.node_end;
  used = λ N j. ltb j N.nodes;
  end = λ N. Limits.voltage_end;
  area = λ N j. area_of N (suc j);
  next = λ N f j. new_peak f.step (word f.volts (suc j)) (word f.before (peak_at N (suc j)));
}

abbrev pub peak_steps : Section
peak_steps = record {
  start = 336;
  words = Limits.node_end;
  used = λ N j. ltb j N.nodes;
  end = λ N. steps N.head;
  area = λ N j. area_of N (suc j);
  next = λ N f j. new_peak_step f.step (word f.volts (suc j)) (word f.before (peak_at N (suc j))) (word f.before (peak_step_at N (suc j)));
}

-- "The records hold this latch for each switch" (02): each SW's, by its current of this step and the one that stands in the records, of step k - 1
abbrev pub latches : Section
latches = record {
  start = 368;
  words = Limits.row_end;
  used = λ N j. is_breaker (row_in N j);
  end = λ N. steps N.head;
  area = λ N j. row_area N (row_in N j);
  next = λ N f j. new_latch f.step (row_in N j) (word f.before (current_at j)) (current f.volts (branch_in f.legs j).is_from_end.wire) (word f.before (latch_at j));
}

unfoldable pub sections : List Section
sections = counts ∷ voltages ∷ currents ∷ to_currents ∷ histories ∷ peaks ∷ peak_steps ∷ latches ∷ []

-- the first word past them
abbrev pub sections_end : ℕ
sections_end = 448

-- ---- by words

-- a word's section, and its place there
pub record Spot : Type 0 where
  pub section : Section
  pub place : ℕ

abbrev pub spot : Section → ℕ → Spot
spot s j = record { section = s; place = j }

abbrev pub unused : Section
unused = record { start = 0; words = 0; used = λ N j. false; end = λ N. 0; area = λ N j. 0; next = λ N f j. z }

unfoldable pub spot_in : List Section → ℕ → Spot
spot_in [] j = spot unused j
spot_in (s ∷ ss) j = let rest = spot_in ss j in cond (leb s.start j && ltb j (s.start + s.words)) (spot s (j - s.start)) rest

abbrev pub spot_of : ℕ → Spot
spot_of j = spot_in sections j

-- of a spot: the end of its word, whose it is (0 for nobody's), and what an accepted step writes there
abbrev pub end_in : Net → Spot → ℕ
end_in N p = cond (p.section.used N p.place) (p.section.end N) 0

abbrev pub owner_in : Net → Spot → ℕ
owner_in N p = cond (p.section.used N p.place) (p.section.area N p.place) 0

abbrev pub next_in : Net → Found → Spot → ℤ
next_in N f p = p.section.next N f p.place

unfoldable pub end_of : Net → ℕ → ℕ
end_of N j = end_in N (spot_of j)

unfoldable pub owner_of : Net → ℕ → ℕ
owner_of N j = owner_in N (spot_of j)

unfoldable pub next_of : Net → Found → ℕ → ℤ
next_of N f j = next_in N f (spot_of j)

-- ---- 10 STATE: "Records are well formed when"

-- "counts are 0 to steps, voltages, histories and sent values are in range, current magnitudes are at most 1.4·10^17, .. and unused words are
-- zero": the end of each word's magnitude
unfoldable pub ends : Net → List ℕ
ends N = map (end_of N) (numbers 0 Limits.record_words)

-- "areas at a line's two ends differ by at most d in count": "the count difference allowed is q"
unfoldable pub near : Net → Words → Row → Bool
near N recs r =
    let f = count_of recs (area_of N (from r)) in
    let t = count_of recs (area_of N (to r)) in
    not (is_line r) || (leb f (t + delay (step N) r) && leb t (f + delay (step N) r))

-- with peaks (02), not "a peak out of range, one below the voltage's magnitude, or a step past the count": voltage v, peak p, its step s, count c
unfoldable pub peak_formed : ℤ → ℤ → ℤ → ℕ → Bool
peak_formed v p s c = non_neg p && non_neg s && up_to (nat_abs p) v && up_to c s

unfoldable pub peaked : Net → Words → ℕ → Bool
peaked N recs n =
    peak_formed (word recs (volt_at N n)) (word recs (peak_at N n)) (word recs (peak_step_at N n)) (count_of recs (area_of N n))

-- with latches (02); "one on another kind of branch" is a word that is not used
unfoldable pub latched : Net → Words → ℕ → Bool
latched N recs i = let r = row_in N i in not (is_breaker r) || latch_formed r (word recs (latch_at i)) (count_of recs (row_area N r))

-- what is asked of the records alone
unfoldable pub records_formed : Net → Words → Bool
records_formed N recs =
    every non_neg (take Limits.node_end recs)
    && within (ends N) recs
    && every (near N recs) N.rows
    && every (peaked N recs) (numbers 1 N.nodes)
    && every (latched N recs) (numbers 0 (length N.rows))

-- a line's slots "count as used before they are sent"
unfoldable pub store_formed : Net → Words → Bool
store_formed N store = within (replicate (slot_count N) Limits.history_end) store

unfoldable pub well_formed : Net → Words → Words → Words → Bool
well_formed N recs froms tos = records_formed N recs && store_formed N froms && store_formed N tos
