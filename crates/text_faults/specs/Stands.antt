-- The faults of a row by what is seen are the paper's, after the rows that it stands for. Assumes nothing.
use Rattle.std.specs.Prelude.{◌≤◌, ◌<◌, ◌≡◌, ◌&&◌, ◌∷◌}
use Rattle.whole.specs.Plain.{ℕ, refl, sym, ◌∙◌, ap, subst, Bool, true, false, false≢true}
use Rattle.whole.specs.Plain.{true≢false, List, [], tail, ℤ, pos, negsuc, length, get_or, drop, get_or-replicate}
use Rattle.whole.specs.Plain.{arith, Words, word, between, empty, any, count, sum}
use Rattle.whole.specs.Folds.{or_left}
use Rattle.paper.specs.Rows.{Row, bytes, kinds, kind, fields_of, is_study, is_branch, is_source, is_fixing, branch_kind, source_kind, fixing_kind, at, step_length}
use Rattle.paper.specs.Classes.{kind_count, by_fixing}
use Rattle.paper.specs.Conductance.{conductance, of_ohms, of_henries, of_farads}
use Rattle.paper.specs.Faults.{outside, node_fault, value_fault, travel_fault, fixes, double_fault, depth, slots, full_fault, line_fault, row_fault}
use Rattle.paper.specs.Network.{Table, row_of_words}
use Rattle.text_kinds.specs.Table.{names_of, low, high, outside_from}
use Rattle.text_kinds.specs.Fields.{each, five, outside_names, field_in, in_range_lem}
use Rattle.text_faults.specs.declared.Seen.{Seen}
use Rattle.text_faults.specs.Seen.{head_of, Held, nothing_seen, seen_double, seen_full, seen_fault}

-- what is seen of the study's row and the rows after it. Before the study's row no step length is known, and none is asked for
pub record Stands (s : Seen) (t : Table) : Type 0 where
  pub held : Held s
  pub wide : length s.fixed ≡ 33
  pub step : empty t ≡ false → s.step ≡ step_length (get_or t 0 [])
  pub branches : s.branches ≡ count is_branch (tail t)
  pub sources : s.sources ≡ count is_source (tail t)
  pub slots : s.slots ≡ sum (slots (head_of s.step)) (tail t)
  pub fixed : (n : ℕ) → n ≤ 32 → get_or s.fixed n false ≡ any (fixes n) (tail t)

pub stands_none : Stands nothing_seen []
unfolding count sum any
stands_none =
    record {
      held = record { long = omega arith; short = omega arith; branches = omega arith; sources = omega arith; slots = omega arith };
      wide = refl;
      step = λ e. absurd (true≢false e);
      branches = refl;
      sources = refl;
      slots = refl;
      fixed = λ n h. get_or-replicate 33 n false false (omega arith);
    }

-- ---- a row of the paper has the words of its kind only; its faults ask no other

kind_word : (x : ℤ) → kind (x ∷ []) < 10 → x ≡ pos (kind (x ∷ []))
kind_word (pos k) h = refl
kind_word (negsuc n) h = absurd (omega (arith, kind_count))

head_tail : (w : Words) → 6 ≤ length w → w ≡ word w 0 ∷ tail w
head_tail [] h = absurd (omega arith)
head_tail (x ∷ w) h = refl

-- the first field of a source that fixes is a node
fixing_range : (w : Words) (k : ℕ) → fixing_kind k ≡ true → outside_from k 0 (names_of k) w ≡ false → between (pos 0) (pos 32) (word w 1) ≡ true
unfolding names_of fields_of kinds bytes count low high
fixing_range w k f =
    by_fixing (λ k. outside_from k 0 (names_of k) w ≡ false → between (pos 0) (pos 32) (word w 1) ≡ true) k f
    (λ o. field_in 6 0 1 w o 0 (omega arith) (omega arith)) (λ o. field_in 8 0 1 w o 0 (omega arith) (omega arith))

-- a row by its kind and its words
unfoldable pub words : ℕ → Words → Words
words k w = pos k ∷ word w 1 ∷ word w 2 ∷ word w 3 ∷ word w 4 ∷ word w 5 ∷ drop 6 w

pub shape : (w : Words) → 6 ≤ length w → kind w < 10 → w ≡ words (kind w) w
unfolding words
shape w few known =
    head_tail w few
    ∙ ap (λ (l : Words). word w 0 ∷ l) (five w few)
    ∙ ap (λ (x : ℤ). x ∷ word w 1 ∷ word w 2 ∷ word w 3 ∷ word w 4 ∷ word w 5 ∷ drop 6 w) (kind_word (word w 0) known)

-- what holds of a row of each kind
pub by_kind : (P : Words → Type 0) (w : Words) → 6 ≤ length w → kind w < 10
    → P (words 0 w) → P (words 1 w) → P (words 2 w) → P (words 3 w) → P (words 4 w) → P (words 5 w) → P (words 6 w) → P (words 7 w) → P (words 8 w) → P (words 9 w) → P w
by_kind P w few known a b c d e f g h i j = subst P (sym (shape w few known)) (each (λ k. P (words k w)) a b c d e f g h i j (kind w) known)

module _ (w : Words) (few : 6 ≤ length w) (known : kind w < 10) where
  pub row_kind : kind (row_of_words w) ≡ kind w
  unfolding words row_of_words fields_of kinds bytes
  row_kind = by_kind (λ v. kind (row_of_words v) ≡ kind v) w few known refl refl refl refl refl refl refl refl refl refl

  pub row_line_fault : (head : Row) (before : List Row) → line_fault head before (row_of_words w) ≡ line_fault head before w
  unfolding words row_of_words fields_of kinds bytes line_fault node_fault value_fault travel_fault double_fault full_fault outside conductance of_ohms of_henries of_farads depth slots
  row_line_fault head before = by_kind (λ v. line_fault head before (row_of_words v) ≡ line_fault head before v) w few known refl refl refl refl refl refl refl refl refl refl

  pub row_slots : (head : Row) → slots head (row_of_words w) ≡ slots head w
  unfolding words row_of_words fields_of kinds bytes depth slots
  row_slots head = by_kind (λ v. slots head (row_of_words v) ≡ slots head v) w few known refl refl refl refl refl refl refl refl refl refl

  pub row_fixes : (n : ℕ) → fixes n (row_of_words w) ≡ fixes n w
  unfolding words row_of_words fields_of kinds bytes fixes
  row_fixes n = by_kind (λ v. fixes n (row_of_words v) ≡ fixes n v) w few known refl refl refl refl refl refl refl refl refl refl

  pub row_study : is_study w ≡ true → step_length (row_of_words w) ≡ step_length w
  unfolding words row_of_words fields_of kinds bytes
  row_study = by_kind (λ v. is_study v ≡ true → step_length (row_of_words v) ≡ step_length v) w few known (λ i. refl) (λ i. refl) (λ i. refl) (λ i. refl) (λ i. refl) (λ i. refl) (λ i. refl) (λ i. refl) (λ i. refl) (λ i. refl)

  -- what a row that passes has, for what is seen next
  pub source_node : node_fault w ≡ false → is_fixing w ≡ true → at w ≤ 32
  unfolding node_fault
  source_node f g = (in_range_lem 0 32 (word w 1) (fixing_range w (kind w) g (outside_names w few (kind w) known ∙ or_left _ _ (or_left _ _ (or_left _ _ f))))).1.1

-- the faults of a row, seen and of the paper
seen_double_lem : (s : Seen) (before : List Row) (w : Words) → ((n : ℕ) → n ≤ 32 → get_or s.fixed n false ≡ any (fixes n) before) → (is_fixing w ≡ true → at w ≤ 32) → seen_double s w ≡ double_fault before w
unfolding seen_double double_fault
seen_double_lem s before w h l = by_test (is_fixing w) refl
  where
    by_test : (t : Bool) → is_fixing w ≡ t → (is_fixing w && get_or s.fixed (at w) false) ≡ (is_fixing w && any (fixes (at w)) before)
    by_test true e = rw (h (at w) (l e))
    by_test false e = rw e

seen_full_lem : (s : Seen) (before : List Row) (w : Words) → s.branches ≡ count is_branch before → s.sources ≡ count is_source before → s.slots ≡ sum (slots (head_of s.step)) before
    → seen_full s w ≡ full_fault (head_of s.step) before w
unfolding seen_full full_fault
seen_full_lem s before w p q r = rw (p, q, r)

-- of the study's row its step length alone matters
by_step : (head : Row) (before : List Row) (w : Words) → line_fault (head_of (step_length head)) before w ≡ line_fault head before w
unfolding line_fault value_fault travel_fault full_fault depth slots
by_step head before w = refl

module _ (s : Seen) (w : Words) (few : 6 ≤ length w) (known : kind w < 10) where
  after_study : (before : List Row) → s.branches ≡ count is_branch before → s.sources ≡ count is_source before → s.slots ≡ sum (slots (head_of s.step)) before
      → ((n : ℕ) → n ≤ 32 → get_or s.fixed n false ≡ any (fixes n) before) → seen_fault s w ≡ line_fault (head_of s.step) before w
  unfolding seen_fault line_fault
  after_study before p q r h = by_test (node_fault w) refl
    where
      by_test : (t : Bool) → node_fault w ≡ t → seen_fault s w ≡ line_fault (head_of s.step) before w
      by_test true f = rw f
      by_test false f = rw (f, seen_double_lem s before w h (source_node w few known f), seen_full_lem s before w p q r)

  first_study : is_study w ≡ true → s.slots ≡ 0 → seen_fault s w ≡ line_fault [] [] w
  unfolding words seen_fault seen_double seen_full fields_of branch_kind source_kind fixing_kind kinds bytes line_fault node_fault value_fault travel_fault double_fault full_fault outside conductance of_ohms of_henries of_farads depth slots sum
  first_study =
      by_kind (λ v. is_study v ≡ true → s.slots ≡ 0 → seen_fault s v ≡ line_fault [] [] v) w few known
      (λ i e. rw e)
      (λ i e. absurd (false≢true i)) (λ i e. absurd (false≢true i)) (λ i e. absurd (false≢true i)) (λ i e. absurd (false≢true i))
      (λ i e. absurd (false≢true i)) (λ i e. absurd (false≢true i)) (λ i e. absurd (false≢true i)) (λ i e. absurd (false≢true i)) (λ i e. absurd (false≢true i))

  -- "in it 1 to 6 in turn": one function, and the paper's
  pub fault_is : (t : Table) → Stands s t → empty t ≡ is_study w → seen_fault s w ≡ row_fault t (row_of_words w)
  unfolding row_fault count sum
  fault_is [] h e = first_study (sym e) h.slots ∙ sym (row_line_fault w few known [] [])
  fault_is (r ∷ before) h e =
      after_study before h.branches h.sources h.slots h.fixed
      ∙ ap (λ (n : ℕ). line_fault (head_of n) before w) (h.step refl)
      ∙ by_step r before w
      ∙ sym (row_line_fault w few known r before)
