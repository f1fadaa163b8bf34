-- A row without fault: what is seen with it stands for the rows with it. Assumes nothing.
use Rattle.std.specs.Prelude.{◌+◌, ◌≤◌, ◌<◌, ◌≡◌, ◌&&◌, ◌||◌, ◌∷◌, ◌++◌}
use Rattle.whole.specs.Plain.{ℕ, refl, sym, ◌∙◌, ap, Bool, true, false, cond, List, []}
use Rattle.whole.specs.Plain.{eqb, leb, ltb, pos, length, get_or, set, length-set, get_or-set_same}
use Rattle.whole.specs.Plain.{get_or-set_other, eqb-true, eqb-false, eq-eqb, leb-false, ltb-false, arith, Words, word}
use Rattle.whole.specs.Plain.{nat, between, empty, any, count, sum}
use Rattle.whole.specs.Truths.{or_false, or-true}
use Rattle.whole.specs.Folds.{or_left, or_right, count_append, sum_append, any_append}
use Rattle.paper.specs.Rows.{Row, bytes, kinds, kind, fields_of, branch_kind, source_kind, fixing_kind, is_study, is_branch, is_source, is_fixing, at, step_length}
use Rattle.paper.specs.Faults.{value_fault, fixes, slots}
use Rattle.paper.specs.Network.{Table, row_of_words}
use Rattle.text_kinds.specs.Table.{names_of, low, high, outside_from}
use Rattle.text_kinds.specs.Fields.{outside_values, field_in, in_range_lem}
use Rattle.text_faults.specs.declared.Seen.{Seen}
use Rattle.text_faults.specs.Seen.{head_of, seen_full, seen_fault, fixed_after, seen_after}
use Rattle.text_faults.specs.Laws.{Faultless, faultless}
use Rattle.text_faults.specs.Stands.{Stands, row_kind, row_slots, row_fixes, row_study}

-- ---- the study's row

study_range : (w : Words) → outside_from 0 (names_of 0) (length (fields_of 0)) w ≡ false → between (pos 1) (pos 1000000) (word w 1) ≡ true
unfolding names_of fields_of kinds bytes count low high
study_range w o = field_in 0 0 3 w o 0 (omega arith) (omega arith)

pub study_step : (w : Words) → 6 ≤ length w → kind w < 10 → (head : Row) → value_fault head w ≡ false → kind w ≡ 0 → (1 ≤ step_length w) × (step_length w ≤ 1000000)
unfolding value_fault
study_step w few known head f = of_study (kind w) (outside_values w few (kind w) known ∙ or_left _ _ (or_left _ _ f))
  where
    of_study : (k : ℕ) → outside_from k (names_of k) (length (fields_of k)) w ≡ false → k ≡ 0 → (1 ≤ nat (word w 1)) × (nat (word w 1) ≤ 1000000)
    of_study k o e = (in_range_lem 1 1000000 (word w 1) (study_range w (rw e at o))).1

-- ---- a further row

-- one more where there is room
room : (b : Bool) (n m : ℕ) → (b && leb m n) ≡ false → n ≤ m → n + cond b 1 0 ≤ m
room true n m f h = let l : n < m = leb-false m n f in omega arith
room false n m f h = omega arith

count_one : (p : Row → Bool) (before : List Row) (r : Row) → count p (before ++ (r ∷ [])) ≡ count p before + cond (p r) 1 0
unfolding count
count_one p before r = rw (count_append p before (r ∷ [])) (omega arith)

sum_one : (f : Row → ℕ) (before : List Row) (r : Row) → sum f (before ++ (r ∷ [])) ≡ sum f before + f r
unfolding sum
sum_one f before r = rw (sum_append f before (r ∷ [])) (omega arith)

any_one : (p : Row → Bool) (before : List Row) (r : Row) → any p (before ++ (r ∷ [])) ≡ (any p before || p r)
unfolding any
any_one p before r = any_append p before (r ∷ []) ∙ ap (λ (b : Bool). any p before || b) (or_false (p r))

-- the nodes with a VS or a VC
fixed_one : (fixed : List Bool) (w : Words) (n : ℕ) → length fixed ≡ 33 → n ≤ 32 → get_or (fixed_after fixed w) n false ≡ (get_or fixed n false || fixes n w)
unfolding fixed_after fixes
fixed_one fixed w n wide l = by_kind (is_fixing w) refl
  where
    by_node : (t : Bool) → eqb (at w) n ≡ t → get_or (set fixed (at w) true) n false ≡ (get_or fixed n false || eqb (at w) n)
    by_node true e = let i : at w ≡ n = eqb-true (at w) n e in rw (e, i) (get_or-set_same fixed n true false (omega arith) ∙ sym (or-true (get_or fixed n false)))
    by_node false e = rw e (get_or-set_other fixed (at w) n true false (λ (i : n ≡ at w). eqb-false (at w) n e (sym i)) ∙ sym (or_false (get_or fixed n false)))

    by_kind : (t : Bool) → is_fixing w ≡ t → get_or (cond (is_fixing w) (set fixed (at w) true) fixed) n false ≡ (get_or fixed n false || (is_fixing w && eqb (at w) n))
    by_kind true e = rw e (by_node (eqb (at w) n) refl)
    by_kind false e = rw e (sym (or_false (get_or fixed n false)))

fixed_wide : (fixed : List Bool) (w : Words) → length (fixed_after fixed w) ≡ length fixed
unfolding fixed_after
fixed_wide fixed w = by_test (is_fixing w)
  where
    by_test : (t : Bool) → length (cond t (set fixed (at w) true) fixed) ≡ length fixed
    by_test true = length-set fixed (at w) true
    by_test false = refl

fixes_not : (w : Words) (n : ℕ) → kind w ≡ 0 → fixes n w ≡ false
unfolding fixes fixing_kind kinds
fixes_not w n e = rw e

module _ (s : Seen) (w : Words) (few : 6 ≤ length w) (known : kind w < 10) (ok : Faultless s w) where
  further : (r : Row) (before : List Row) → Stands s (r ∷ before) → is_study w ≡ false → Stands (seen_after s w) (r ∷ (before ++ (row_of_words w ∷ [])))
  unfolding seen_after seen_full
  further r before h e =
      let a = is_branch w && leb 64 s.branches in
      let b = is_source w && leb 16 s.sources in
      let c = ltb 4096 (s.slots + slots (head_of s.step) w) in
      let full = ok.full in
      record {
        held =
            record {
              long = rw e h.held.long;
              short = rw e h.held.short;
              branches = room (is_branch w) s.branches 64 (or_left a b (or_left (a || b) c full)) h.held.branches;
              sources = room (is_source w) s.sources 16 (or_right a b (or_left (a || b) c full)) h.held.sources;
              slots = ltb-false 4096 (s.slots + slots (head_of s.step) w) (or_right (a || b) c full);
            };
        wide = fixed_wide s.fixed w ∙ h.wide;
        step = λ _. rw e (h.step refl);
        branches = rw (count_one is_branch before (row_of_words w), row_kind w few known, h.branches);
        sources = rw (count_one is_source before (row_of_words w), row_kind w few known, h.sources);
        slots = rw (e, sum_one (slots (head_of s.step)) before (row_of_words w), row_slots w few known (head_of s.step), h.slots);
        fixed = λ n l. fixed_one s.fixed w n h.wide l ∙ rw (any_one (fixes n) before (row_of_words w), row_fixes w few known n, h.fixed n l);
      }

  -- the study's row counts for nothing but its step length
  first : Stands s [] → kind w ≡ 0 → Stands (seen_after s w) (row_of_words w ∷ [])
  unfolding seen_after slots branch_kind source_kind kinds count sum any
  first h e =
      let range = study_step w few known (head_of s.step) ok.value e in
      record {
        held =
            record {
              long = rw e range.0;
              short = rw e range.1;
              branches = rw (e, h.branches) (omega arith);
              sources = rw (e, h.sources) (omega arith);
              slots = rw (e, h.slots) (omega arith);
            };
        wide = fixed_wide s.fixed w ∙ h.wide;
        step = λ _. rw (row_study w few known (eq-eqb (kind w) 0 e), e);
        branches = rw (e, h.branches);
        sources = rw (e, h.sources);
        slots = rw (e, h.slots);
        fixed = λ n l. fixed_one s.fixed w n h.wide l ∙ rw (h.fixed n l, fixes_not w n e);
      }

pub stands_after : (s : Seen) (w : Words) → 6 ≤ length w → kind w < 10 → (t : Table) → Stands s t → empty t ≡ is_study w → seen_fault s w ≡ 0 → Stands (seen_after s w) (t ++ (row_of_words w ∷ []))
stands_after s w few known [] h e f = first s w few known (faultless s w f) h (eqb-true (kind w) 0 (sym e))
stands_after s w few known (r ∷ before) h e f = further s w few known (faultless s w f) r before h (sym e)
