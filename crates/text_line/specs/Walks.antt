-- A line, as far as it is read. Assumes nothing.
use Rattle.std.specs.Prelude.{Option, Some, None, Result, Ok, Err, ◌+◌, ◌-◌, ◌≤◌, ◌<◌, ◌≡◌, ◌∷◌}
use Rattle.whole.specs.Plain.{ℕ, zero, suc, refl, sym, ◌∙◌, ap, Bool, true, false, cond}
use Rattle.whole.specs.Plain.{false≢true, List, [], leb, ℤ, pos, lt_z, length, drop, take, set}
use Rattle.whole.specs.Plain.{replicate, length-drop, le-leb, lt-leb}
use Rattle.whole.specs.Plain.{arith, z}
use Rattle.std.proofs.Common.{add-one}
use Rattle.paper.specs.declared.kinds.Kind.{Kind}
use Rattle.paper.specs.Kinds.{number, kind_by, number_by, number_few, none_by}
use Rattle.paper.specs.Rows.{kinds, fields_of}
use Rattle.paper.specs.Text.{LF, TAB, place_of}
use Rattle.text_kinds.specs.Table.{low}
use Rattle.text_words.specs.Numbers.{read_number}
use Rattle.text_line.specs.declared.Walk.{Walk}
use Rattle.text_line.specs.Parts.{ends, field_of, starts_with, before_length, before_taken}

-- what is left to do, where all went well so far
abbrev pub next : {A B E : Type 0} → Result A E → (A → Result B E) → Result B E
next (Err e) f = Err e
next (Ok a) f = f a

-- a number as the field i of a row
abbrev pub laid : Walk → ℕ → ℕ → ℤ → Walk
laid w i end x = record { at = end; row = set w.row (1 + i) x }

-- a misspelt one is passed too, and 0 in the row
abbrev pub passed : Walk → ℕ → ℕ → Option ℤ → Result Walk Walk
passed w i end None = Err (laid w i end z)
passed w i end (Some x) = Ok (laid w i end x)

-- the field i of a line, of a least value, after its tab
abbrev pub taken : List ℕ → ℤ → ℕ → Walk → Result Walk Walk
taken s l i w = let p = field_of (drop (w.at + 1) s) in passed w i (w.at + 1 + length p) (read_number (lt_z l z) p)

unfoldable pub field_at : List ℕ → ℤ → ℕ → Walk → Result Walk Walk
field_at s l i w = cond (starts_with TAB (drop w.at s)) (taken s l i w) (Err w)

-- the field i of a line of a kind
abbrev pub turn : List ℕ → ℕ → ℕ → Walk → Result Walk Walk
turn s k i = field_at s (low k i) i

-- n fields from the field i on
unfoldable pub fields_from_at : List ℕ → ℕ → ℕ → ℕ → Walk → Result Walk Walk
fields_from_at s k zero i w = Ok w
fields_from_at s k (suc n) i w = next (turn s k i w) (fields_from_at s k n (suc i))

unfoldable pub fields_at : List ℕ → ℕ → Walk → Result Walk Walk
fields_at s k w = fields_from_at s k (length (fields_of k)) 0 w

-- the word, with its kind as the row's first word
abbrev pub worded : List ℕ → ℕ → ℕ → Walk
worded s at k = record { at = at + length (field_of (drop at s)); row = set (replicate 8 z) 0 (pos k) }

-- the LF
abbrev pub ended_at : List ℕ → Walk → Result Walk Walk
ended_at s w = cond (starts_with LF (drop w.at s)) (Ok w) (Err w)

-- a word that names no kind is not passed
abbrev pub line_of_kind : List ℕ → ℕ → ℕ → Result Walk Walk
line_of_kind s at k = cond (leb 10 k) (Err (record { at = at; row = replicate 8 z })) (next (fields_at s k (worded s at k)) (ended_at s))

-- the place up to which the line was read and its row: all of it where it is well formed, else as far as it came
unfoldable pub line_at : List ℕ → ℕ → Result Walk Walk
line_at s at = line_of_kind s at (place_of 0 kinds (field_of (drop at s)))

-- ---- the next byte stays within the text

starts_in : (b : ℕ) (s : List ℕ) (at : ℕ) → starts_with b (drop at s) ≡ true → at < length s
starts_in b s at e =
    elim (drop at s) as (λ u. starts_with b u ≡ true → length u ≡ length s - at → at < length s)
    [ [] ↦ λ e l. absurd (false≢true e) | c ∷ u ↦ λ e l. omega arith ] e (length-drop at s)

pub word_in : (s : List ℕ) (at : ℕ) → at ≤ length s → at + length (field_of (drop at s)) ≤ length s
word_in s at h = omega (arith, before_length ends (drop at s), length-drop at s)

-- ---- the ways through the code

-- the part from the start of a field to its end
part_is : (s : List ℕ) (start end : ℕ) → end ≡ start + length (field_of (drop start s)) → take (end - start) (drop start s) ≡ field_of (drop start s)
part_is s start end e =
    let n : end - start ≡ length (field_of (drop start s)) = omega arith in
    rw n (before_taken ends (drop start s))

abbrev at_of : Result Walk Walk → ℕ
at_of (Err w) = w.at
at_of (Ok w) = w.at

module _ (s : List ℕ) (l : ℤ) (i : ℕ) (w : Walk) where
  pub field_none : {t : Bool} → t ≡ starts_with TAB (drop w.at s) → t ≡ false → Err w ≡ field_at s l i w
  unfolding field_at
  field_none e n = rw (sym e ∙ n)

  pub field_read : {t : Bool} {end : ℕ} {m : ℤ} {n : Option ℤ} → t ≡ starts_with TAB (drop w.at s) → t ≡ true
      → end ≡ w.at + 1 + length (field_of (drop (w.at + 1) s)) → m ≡ l → n ≡ read_number (lt_z m z) (take (end - (w.at + 1)) (drop (w.at + 1) s))
      → passed w i end n ≡ field_at s l i w
  unfolding field_at
  field_read {t} {end} {m} {n} e f g h j =
      rw (sym e ∙ f, j, h, part_is s (w.at + 1) end g, g)

  pub tab_in : {t : Bool} → t ≡ starts_with TAB (drop w.at s) → t ≡ true → w.at < length s
  tab_in {t} e f = starts_in TAB s w.at (sym e ∙ f)

  taken_at : (n : Option ℤ) {end : ℕ} {v : Walk} → passed w i end n ≡ Ok v → v.at ≡ end
  taken_at None e = cc
  taken_at (Some x) e = ap (λ (r : Result Walk Walk). at_of r) (sym e)

  pub field_in : w.at ≤ length s → {v : Walk} → field_at s l i w ≡ Ok v → v.at ≤ length s
  unfolding field_at
  field_in h {v} e = go (starts_with TAB (drop w.at s)) refl e
    where
      go : (t : Bool) → starts_with TAB (drop w.at s) ≡ t → ◌≡◌ {A = Result Walk Walk} (cond t (taken s l i w) (Err w)) (Ok v) → v.at ≤ length s
      go true f q = omega (arith, taken_at (read_number (lt_z l z) (field_of (drop (w.at + 1) s))) q, word_in s (w.at + 1) (omega (arith, starts_in TAB s w.at f)))
      go false f q = cc

-- a turn of the loop over the fields
module _ (s : List ℕ) (k n i : ℕ) (w : Walk) where
  pub fields_more : i < n → fields_from_at s k (n - i) i w ≡ next (turn s k i w) (fields_from_at s k (n - (i + 1)) (i + 1))
  unfolding fields_from_at
  fields_more h = let d : n - i ≡ suc (n - suc i) = omega arith in rw (add-one, d)

  pub fields_done : n ≤ i → fields_from_at s k (n - i) i w ≡ Ok w
  unfolding fields_from_at
  fields_done h = let d : n - i ≡ 0 = omega arith in rw d

module _ (s : List ℕ) (at : ℕ) {end : ℕ} (e : end ≡ at + length (field_of (drop at s))) where
  kind_part : place_of 0 kinds (take (end - at) (drop at s)) ≡ place_of 0 kinds (field_of (drop at s))
  kind_part = ap (place_of 0 kinds) (part_is s at end e)

  pub line_none : kind_by (place_of 0 kinds (take (end - at) (drop at s))) ≡ None → Err (record { at = at; row = replicate 8 z }) ≡ line_at s at
  unfolding line_at
  line_none h = let m : 10 ≤ place_of 0 kinds (field_of (drop at s)) = none_by _ (ap kind_by (sym kind_part) ∙ h) in rw (le-leb 10 _ m)

  pub line_some : {k : Kind} → kind_by (place_of 0 kinds (take (end - at) (drop at s))) ≡ Some k
      → next (fields_at s (number k) (record { at = end; row = set (replicate 8 z) 0 (pos (number k)) })) (ended_at s) ≡ line_at s at
  unfolding line_at
  line_some {k} h =
      let m : number k ≡ place_of 0 kinds (field_of (drop at s)) = number_by _ h ∙ kind_part in
      rw (← m, lt-leb 10 (number k) (number_few k), e)
