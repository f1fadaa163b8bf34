-- The sections of the records do not overlap: a word of a section is its first plus a place, and every word is one of these or unused. Assumes nothing.
use Rattle.std.specs.Prelude.{◌+◌, ◌-◌, ◌≤◌, ◌<◌, ◌≡◌, ◌⊎◌, ◌&&◌, ◌∷◌}
use Rattle.whole.specs.Plain.{ℕ, refl, sym, ap, ◌∙◌, inl, inr, Bool, true, false, cond}
use Rattle.whole.specs.Plain.{List, [], Mem-not_nil, Mem-cases_cons, leb, ltb, ℤ, pos, negsuc}
use Rattle.whole.specs.Plain.{nat_abs, non_neg, get_or, take, length, length-map, get_or-eq_default, leb-true, ltb-true, le-leb}
use Rattle.whole.specs.Plain.{lt-ltb, le-ltb, dec_lt, arith, Words, z, word, every, within, numbers}
use Rattle.whole.specs.Folds.{and_left, and_right, get_d_map, length_numbers, get_d_numbers}
use Rattle.whole.specs.Members.{Among, top, below, All, all_among}
use Rattle.whole.specs.Within.{within_at, at_within}
use Rattle.paper.specs.Limits as Limits
use Rattle.paper.specs.Areas.{Net}
use Rattle.paper.specs.Records.{Found, Section, spot, unused, sections, sections_end, spot_in, spot_of, end_in, owner_in, next_in, end_of, owner_of, next_of, ends, near, peaked, latched, records_formed, store_formed, well_formed}
use Rattle.paper.specs.Records.{counts, voltages, currents, to_currents, histories, peaks, peak_steps, latches}

-- each starts where the last one has ended, or later
unfoldable rising : ℕ → List Section → Bool
rising e [] = true
rising e (s ∷ ss) = leb e s.start && rising (s.start + s.words) ss

module _ (e : ℕ) (s : Section) (ss : List Section) (r : rising e (s ∷ ss) ≡ true) where
  first : e ≤ s.start
  unfolding rising
  first = leb-true e s.start (and_left (leb e s.start) _ r)

  others : rising (s.start + s.words) ss ≡ true
  unfolding rising
  others = and_right (leb e s.start) _ r

later : (e : ℕ) (ss : List Section) (s : Section) → rising e ss ≡ true → Among s ss → e ≤ s.start
later e [] s r m = absurd (Mem-not_nil m)
later e (t ∷ ss) s r m = go (Mem-cases_cons m) (later (t.start + t.words) ss s (others e t ss r))
  where
    go : (s ≡ t) ⊎ Among s ss → (Among s ss → t.start + t.words ≤ s.start) → e ≤ s.start
    go (inl q) ih = rw q (first e t ss r)
    go (inr q) ih = omega (arith, first e t ss r, ih q)

spot_in_lem : (e : ℕ) (ss : List Section) (s : Section) (j : ℕ) → rising e ss ≡ true → Among s ss → j < s.words → spot_in ss (s.start + j) ≡ spot s j
unfolding spot_in
spot_in_lem e [] s j r m h = absurd (Mem-not_nil m)
spot_in_lem e (t ∷ ss) s j r m h = go (Mem-cases_cons m) (λ q. spot_in_lem (t.start + t.words) ss s j (others e t ss r) q h)
  where
    go : (s ≡ t) ⊎ Among s ss → (Among s ss → spot_in ss (s.start + j) ≡ spot s j) → spot_in (t ∷ ss) (s.start + j) ≡ spot s j
    go (inl q) ih =
        let l : j < t.words = rw q at h in
        let d : t.start + j - t.start ≡ j = omega arith in
        rw (q, le-leb t.start (t.start + j) (omega arith), lt-ltb (t.start + j) (t.start + t.words) (omega arith), d)
    go (inr q) ih =
        let l = later (t.start + t.words) ss s (others e t ss r) q in
        rw (le-leb t.start (s.start + j) (omega arith), le-ltb (s.start + j) (t.start + t.words) (omega arith)) (ih q)

pub apart : (s : Section) → Among s sections → (j : ℕ) → j < s.words → spot_of (s.start + j) ≡ spot s j
unfolding sections rising
apart s m j h = spot_in_lem 0 sections s j refl m h

-- ---- the sections are these
pub counts_in : Among counts sections
unfolding sections
counts_in = top refl

pub voltages_in : Among voltages sections
unfolding sections
voltages_in = below (top refl)

pub currents_in : Among currents sections
unfolding sections
currents_in = below (below (top refl))

pub to_currents_in : Among to_currents sections
unfolding sections
to_currents_in = below (below (below (top refl)))

pub histories_in : Among histories sections
unfolding sections
histories_in = below (below (below (below (top refl))))

pub peaks_in : Among peaks sections
unfolding sections
peaks_in = below (below (below (below (below (top refl)))))

pub peak_steps_in : Among peak_steps sections
unfolding sections
peak_steps_in = below (below (below (below (below (below (top refl))))))

pub latches_in : Among latches sections
unfolding sections
latches_in = below (below (below (below (below (below (below (top refl)))))))

-- ---- so, of a word of a section
module _ (N : Net) {s : Section} (m : Among s sections) (j : ℕ) (h : j < s.words) where
  pub end_of_lem : end_of N (s.start + j) ≡ end_in N (spot s j)
  unfolding end_of
  end_of_lem = ap (end_in N) (apart s m j h)

  pub end_most : end_of N (s.start + j) ≤ s.end N
  end_most = rw end_of_lem (go (s.used N j))
    where
      go : (b : Bool) → cond b (s.end N) 0 ≤ s.end N
      go true = omega arith
      go false = omega arith

  pub owner_is : owner_of N (s.start + j) ≡ owner_in N (spot s j)
  unfolding owner_of
  owner_is = ap (owner_in N) (apart s m j h)

  pub next_of_lem : (f : Found) → next_of N f (s.start + j) ≡ next_in N f (spot s j)
  unfolding next_of
  next_of_lem f = ap (next_in N f) (apart s m j h)

-- ---- every word

-- word j is that in place i of a section
pub record Stands (ss : List Section) (j : ℕ) : Type 0 where
  pub section : Section
  pub place : ℕ
  pub among : Among section ss
  pub inside : place < section.words
  pub is : j ≡ section.start + place

stands_in : (ss : List Section) (j : ℕ) → Stands ss j ⊎ (spot_in ss j ≡ spot unused j)
unfolding spot_in
stands_in [] j = inr refl
stands_in (s ∷ ss) j = go (leb s.start j) (ltb j (s.start + s.words)) refl refl (stands_in ss j)
  where
    go : (x y : Bool) → leb s.start j ≡ x → ltb j (s.start + s.words) ≡ y → Stands ss j ⊎ (spot_in ss j ≡ spot unused j)
        → Stands (s ∷ ss) j ⊎ (cond (x && y) (spot s (j - s.start)) (spot_in ss j) ≡ spot unused j)
    go true true p q o =
        let l = leb-true s.start j p in
        let h = ltb-true j (s.start + s.words) q in
        inl (record { section = s; place = j - s.start; among = top refl; inside = omega arith; is = omega arith })
    go true false p q (inl o) = inl (record { section = o.section; place = o.place; among = below o.among; inside = o.inside; is = o.is })
    go false y p q (inl o) = inl (record { section = o.section; place = o.place; among = below o.among; inside = o.inside; is = o.is })
    go true false p q (inr o) = inr o
    go false y p q (inr o) = inr o

pub stands : (j : ℕ) → Stands sections j ⊎ (spot_of j ≡ spot unused j)
stands = stands_in sections

-- a word of area a's: it stands in a section, where it is used and the area's
pub record Owned (N : Net) (a j : ℕ) : Type 0 where
  pub at : Stands sections j
  pub used : at.section.used N at.place ≡ true
  pub area : at.section.area N at.place ≡ a

pub owned : (N : Net) (a j : ℕ) → 1 ≤ a → owner_of N j ≡ a → Owned N a j
unfolding owner_of
owned N a j one o = go (stands j)
  where
    used : (t : Bool) (b : ℕ) → cond t b 0 ≡ a → (t ≡ true) × (b ≡ a)
    used true b e = (refl, e)
    used false b e = absurd (omega arith)

    go : Stands sections j ⊎ (spot_of j ≡ spot unused j) → Owned N a j
    go (inl s) =
        let e : owner_in N (spot s.section s.place) ≡ a = sym (owner_is N s.among s.place s.inside) ∙ ap (owner_of N) (sym s.is) ∙ o in
        let u = used (s.section.used N s.place) (s.section.area N s.place) e in
        record { at = s; used = u.0; area = u.1 }
    go (inr s) = absurd (omega (arith, ap (owner_in N) s))

inside : {s : Section} → Among s sections → s.start + s.words ≤ sections_end
unfolding sections All
inside = all_among (λ s. s.start + s.words ≤ sections_end) sections (omega arith, (omega arith, (omega arith, (omega arith, (omega arith, (omega arith, (omega arith, (omega arith, tt))))))))

pub end_past : (N : Net) (j : ℕ) → sections_end ≤ j → end_of N j ≡ 0
unfolding end_of
end_past N j h = go (stands j)
  where
    go : Stands sections j ⊎ (spot_of j ≡ spot unused j) → end_in N (spot_of j) ≡ 0
    go (inl o) = absurd (omega (arith, inside o.among, o.inside, o.is))
    go (inr o) = ap (end_in N) o

pub ends_at : (N : Net) (j : ℕ) → get_or (ends N) j 0 ≡ end_of N j
unfolding ends
ends_at N j = go (dec_lt j Limits.record_words)
  where
    go : Dec (j < Limits.record_words) → get_or (ends N) j 0 ≡ end_of N j
    go (yes h) =
        let long = length_numbers 0 Limits.record_words in
        get_d_map (end_of N) (numbers 0 Limits.record_words) j 0 0 (omega arith) ∙ ap (end_of N) (get_d_numbers 0 Limits.record_words j 0 h ∙ omega arith)
    go (no h) = get_or-eq_default (ends N) 0 (simp (length-map, length_numbers) (omega arith)) ∙ sym (end_past N j (omega arith))

-- each word is within its end, where and only where they all are
pub words_within : (N : Net) (w : Words) → within (ends N) w ≡ true → (j : ℕ) → nat_abs (word w j) ≤ end_of N j
words_within N w e j = rw (ends_at N j) at (within_at (ends N) w e j)

pub within_words : (N : Net) (w : Words) → ((j : ℕ) → nat_abs (word w j) ≤ end_of N j) → within (ends N) w ≡ true
within_words N w h = at_within (ends N) w (λ j. rw (ends_at N j) (h j))

-- the records of a well-formed state, by themselves
pub state_records : (N : Net) (recs froms tos : Words) → well_formed N recs froms tos ≡ true → records_formed N recs ≡ true
unfolding well_formed
state_records N recs froms tos e = and_left (records_formed N recs) (store_formed N froms) (and_left (records_formed N recs && store_formed N froms) (store_formed N tos) e)

records_within : (N : Net) (recs : Words) → records_formed N recs ≡ true → within (ends N) recs ≡ true
unfolding records_formed
records_within N recs e =
    let c₁ = every non_neg (take Limits.node_end recs) in
    let c₂ = within (ends N) recs in
    let c₃ = every (near N recs) N.rows in
    let c₄ = every (peaked N recs) (numbers 1 N.nodes) in
    and_right c₁ c₂ (and_left (c₁ && c₂) c₃ (and_left (c₁ && c₂ && c₃) c₄ (and_left (c₁ && c₂ && c₃ && c₄) (every (latched N recs) (numbers 0 (length N.rows))) e)))

pub record_end : (N : Net) (recs froms tos : Words) → well_formed N recs froms tos ≡ true → (j : ℕ) → nat_abs (word recs j) ≤ end_of N j
record_end N recs froms tos e = words_within N recs (records_within N recs (state_records N recs froms tos e))

zero_size : (x : ℤ) → nat_abs x ≤ 0 → x ≡ z
zero_size (pos n) h = ap pos (omega arith)
zero_size (negsuc n) h = absurd (omega arith)

-- "unused words are zero"
pub unused_zero : (N : Net) (recs froms tos : Words) → well_formed N recs froms tos ≡ true → (j : ℕ) → end_of N j ≡ 0 → word recs j ≡ z
unused_zero N recs froms tos e j o = zero_size (word recs j) (rw o at (record_end N recs froms tos e j))
