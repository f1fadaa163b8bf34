-- What a table that passes has: every row sound, at most 64 branches and 16 sources, slots that fit the stores, one VS or VC to a node. Assumes nothing.
use Rattle.std.specs.Prelude.{◌+◌, ◌≤◌, ◌<◌, ◌≡◌, ◌&&◌, ◌∷◌}
use Rattle.whole.specs.Plain.{ℕ, sym, ap, ◌∙◌, true, false, true≢false, List, [], leb}
use Rattle.whole.specs.Plain.{ltb, eqb, length, get_or, take, length-take, take-length, get_or-take, eqb-true, dec_lt, arith}
use Rattle.whole.specs.Plain.{any, count, sum}
use Rattle.whole.specs.Folds.{and_left, and_right, none_at}
use Rattle.whole.specs.Prefix.{count_room, sum_room, count_parts}
use Rattle.whole.specs.Most.{most_at, most_least}
use Rattle.paper.specs.Limits as Limits
use Rattle.paper.specs.Rows.{Row, kind, is_branch, is_source, is_fixing, at}
use Rattle.paper.specs.Classes.{one_sort}
use Rattle.paper.specs.Faults.{double_fault, full_fault, fixes, slots}
use Rattle.paper.specs.Network.{passes}
use Rattle.paper.specs.Areas.{named, node_count}
use Rattle.laws_facts.specs.Passing.{Taken, head_taken, row_taken}
use Rattle.laws_facts.specs.Fields.{none_of_three}
use Rattle.laws_facts.specs.Sound.{StudySound, RowSound, study_of, row_of_lem, named_most, sound_named}

module _ (h : Row) (rows : List Row) (e : passes (h ∷ rows) ≡ true) where
  abbrev row_at : ℕ → Row
  row_at i = get_or rows i []

  pub study_sound : StudySound h
  study_sound = study_of h (head_taken h rows e)

  taken_at : (i : ℕ) → i < length rows → Taken false h (take i rows) (row_at i)
  taken_at i k = row_taken h rows i e k

  sound_at : (i : ℕ) → i < length rows → RowSound h Limits.node_end (row_at i)
  sound_at i k = row_of_lem h (take i rows) (row_at i) study_sound.step_in.least (taken_at i k)

  pub node_most_lem : node_count rows ≤ Limits.node_end
  unfolding node_count
  node_most_lem = most_least named 0 Limits.node_end rows [] (omega arith) (λ i k. named_most h Limits.node_end (row_at i) (sound_at i k))

  pub row_sound : (i : ℕ) → i < length rows → RowSound h (node_count rows) (row_at i)
  unfolding node_count
  row_sound i k = sound_named h Limits.node_end (node_count rows) (row_at i) (sound_at i k) (most_at named 0 rows [] i k)

  -- ---- counts

  record Room (i : ℕ) : Type 0 where
    branch : (is_branch (row_at i) && leb Limits.branch_end (count is_branch (take i rows))) ≡ false
    source : (is_source (row_at i) && leb Limits.source_end (count is_source (take i rows))) ≡ false
    slot : ltb Limits.store_words (sum (slots h) (take i rows) + slots h (row_at i)) ≡ false

  room : (i : ℕ) → i < length rows → Room i
  unfolding full_fault
  room i k =
      let f = none_of_three _ _ _ (taken_at i k).clean.full in
      record { branch = f.0; source = f.1; slot = f.2 }

  pub branch_most_lem : count is_branch rows ≤ Limits.branch_end
  branch_most_lem = rw take-length at (count_room [] is_branch Limits.branch_end rows (λ i k. (room i k).branch) (length rows) (omega arith))

  pub source_most_lem : count is_source rows ≤ Limits.source_end
  source_most_lem = rw take-length at (count_room [] is_source Limits.source_end rows (λ i k. (room i k).source) (length rows) (omega arith))

  pub slot_most_lem : sum (slots h) rows ≤ Limits.store_words
  slot_most_lem = rw take-length at (sum_room [] (slots h) Limits.store_words rows (λ i k. (room i k).slot) (length rows) (omega arith))

  pub row_most_lem : length rows ≤ Limits.row_end
  row_most_lem =
      omega (arith, branch_most_lem, source_most_lem, count_parts [] is_branch is_source rows (λ i k. one_sort (kind (row_at i)) (sound_at i k).kind_least (sound_at i k).kind_most))

  -- ---- at most one VS or VC to a node

  fixes_parts : (n : ℕ) (r : Row) → fixes n r ≡ true → (is_fixing r ≡ true) × (at r ≡ n)
  unfolding fixes
  fixes_parts n r f = (and_left (is_fixing r) (eqb (at r) n) f, eqb-true (at r) n (and_right (is_fixing r) (eqb (at r) n) f))

  once_below : (i j n : ℕ) → i < j → j < length rows → fixes n (row_at i) ≡ true → fixes n (row_at j) ≡ true → ⊥
  unfolding double_fault
  once_below i j n l k f g =
      let p = fixes_parts n (row_at j) g in
      let d : any (fixes (at (row_at j))) (take j rows) ≡ false = rw p.0 at (taken_at j k).clean.double in
      let c : fixes n (get_or (take j rows) i []) ≡ false = none_at (fixes n) (take j rows) [] i (rw p.1 at d) (rw length-take (omega arith)) in
      true≢false (sym f ∙ sym (ap (fixes n) (get_or-take j rows i [] l)) ∙ c)

  pub once : (i j n : ℕ) → i < length rows → j < length rows → fixes n (row_at i) ≡ true → fixes n (row_at j) ≡ true → i ≡ j
  once i j n p q f g = go (dec_lt i j) (dec_lt j i)
    where
      go : Dec (i < j) → Dec (j < i) → i ≡ j
      go (yes l) d = absurd (once_below i j n l q f g)
      go (no l) (yes m) = absurd (once_below j i n m p g f)
      go (no l) (no m) = omega arith
