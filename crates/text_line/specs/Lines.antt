-- What is read of a line is what the paper says of it. Assumes nothing.
use Rattle.std.specs.Prelude.{Option, Some, None, Result, Ok, Err, ◌+◌, ◌-◌, ◌≤◌, ◌<◌, ◌≡◌, ◌&&◌, ◌||◌, ◌∷◌, ◌++◌}
use Rattle.whole.specs.Plain.{ℕ, suc, refl, sym, ◌∙◌, ap, Bool, true, false, not}
use Rattle.whole.specs.Plain.{false≢true, List, [], tail, eqb, ℤ, pos, lt_z, get_or, length, drop, set}
use Rattle.whole.specs.Plain.{replicate, length-replicate, drop-drop, get_or-drop, sets, sets-eq, eqb-true}
use Rattle.whole.specs.Plain.{lt-leb, ne_eqb, dec_lt, add-zero, cond, arith, Words, z, any, filled, same_bytes}
use Rattle.std.specs.Result.{result_ok}
use Rattle.std.proofs.Math.Numerals.{add-one}
use Rattle.std.proofs.Common.{one-add}
use Rattle.whole.specs.Truths.{and-false}
use Rattle.whole.specs.Repeats.{drop_replicate}
use Rattle.whole.specs.Folds.{and_right}
use Rattle.paper.specs.Rows.{Field, Kind, kinds, fields_of, no_kind, signed}
use Rattle.paper.specs.Classes.{kind_count}
use Rattle.paper.specs.Text.{TAB, split, spelt, all_spelt, number_of, place_of, line_kind}
use Rattle.paper.proofs.Kept.{either}
use Rattle.text_kinds.specs.Table.{low}
use Rattle.text_kinds.specs.Fields.{fields_few}
use Rattle.text_words.specs.Numbers.{cap_z, read_number}
use Rattle.text_line.specs.declared.Walk.{Walk}
use Rattle.text_line.specs.Parts.{is_lF, ends, line_of, field_of, rest, ended, starts_with, fields_from, stops, before, split_fields, rest_ended, rest_line, rest_stops}
use Rattle.text_line.specs.Walks.{next, laid, passed, field_at, turn, fields_from_at, fields_at, worded, ended_at, line_of_kind, line_at}

-- the numbers of a line's fields, held
unfoldable pub capped : List (List ℕ) → Words
capped [] = []
capped (p ∷ ps) = cap_z (number_of p) ∷ capped ps

-- ---- lists

drop_more : {A : Type 0} (l : List A) (i : ℕ) (a : A) (m : List A) → drop i l ≡ a ∷ m → drop (i + 1) l ≡ m
drop_more l i a m e = sym (drop-drop 1 i l) ∙ ap (drop 1) e

drop_first : {A : Type 0} (l : List A) (i : ℕ) (a d : A) (m : List A) → drop i l ≡ a ∷ m → get_or l i d ≡ a
drop_first l i a d m e = let o : i + 0 ≡ i = omega arith in sym (sym (ap (λ (u : List _). get_or u 0 d) e) ∙ get_or-drop i l 0 d ∙ ap (λ (j : ℕ). get_or l j d) o)

-- ---- the walk over the fields

module _ (s : List ℕ) (k : ℕ) where
  -- the fields left are well spelt, and the line ends after them
  abbrev well : List ℕ → List Field → Bool
  well u fs = ended u && all_spelt fs (fields_from u)

  abbrev read : Walk → List ℕ → List Field → ℕ → Option Walk
  read w u fs i = cond (well u fs) (Some (record { at = w.at + length (line_of u); row = sets w.row (1 + i) (capped (fields_from u)) })) None

  -- no field is left
  left_over : (u : List ℕ) → well (9 ∷ u) [] ≡ false
  unfolding any fields_from all_spelt
  left_over u = rw (split_fields u) (and-false (any is_lF u))

  last : (w : Walk) (i : ℕ) (u : List ℕ) → drop w.at s ≡ u → stops u ≡ true → result_ok (ended_at s w) ≡ read w u [] i
  unfolding any ends fields_from all_spelt capped before
  last w i [] e c = rw e
  last w i (b ∷ u) e c =
      elim (eqb b 9) as (λ x. eqb b 9 ≡ x → (x || eqb b 10) ≡ true → result_ok (ended_at s w) ≡ read w (b ∷ u) [] i) [
        | true ↦ λ p q. let m : b ≡ 9 = eqb-true b 9 p in rw (e, m, left_over u)
        | false ↦ λ p q. let m : b ≡ 10 = eqb-true b 10 q in rw (e, m, add-zero)
      ] refl c

  -- a tab, and a field after it
  module _ (w : Walk) (i : ℕ) (f : Field) (fs : List Field) (u : List ℕ) (e : drop w.at s ≡ 9 ∷ u) (d : drop i (fields_of k) ≡ f ∷ fs) where
    after : drop (w.at + 1) s ≡ u
    after = drop_more s w.at 9 u e

    sign : lt_z (low k i) z ≡ signed f
    unfolding low
    sign = ap (λ (g : Field). lt_z g.low z) (drop_first (fields_of k) i f (record { names = false; low = z; high = z }) fs d)

    abbrev on : Walk
    on = record { at = w.at + 1 + length (field_of u); row = set w.row (1 + i) (cap_z (number_of (field_of u))) }

    -- one that is misspelt
    abbrev off : Walk
    off = laid w i (w.at + 1 + length (field_of u)) z

    step : turn s k i w ≡ cond (spelt f (field_of u)) (Ok on) (Err off)
    unfolding field_at spelt read_number
    step = rw (e, after, sign) (either_next (spelt f (field_of u)))
      where
        either_next : (t : Bool) → passed w i (w.at + 1 + length (field_of u)) (cond t (Some (cap_z (number_of (field_of u)))) None) ≡ cond t (Ok on) (Err off)
        either_next true = refl
        either_next false = refl

    -- the field's spelling, and the rest
    whole : well (9 ∷ u) (f ∷ fs) ≡ (ended u && (spelt f (field_of u) && all_spelt fs (fields_from (rest ends u))))
    unfolding any fields_from all_spelt
    whole = rw (split_fields u)

    good : spelt f (field_of u) ≡ true → read on (rest ends u) fs (suc i) ≡ read w (9 ∷ u) (f ∷ fs) i
    unfolding fields_from capped before
    good p =
        let v : well (9 ∷ u) (f ∷ fs) ≡ well (rest ends u) fs = whole ∙ rw (p, rest_ended u) in
        let m : w.at + 1 + length (field_of u) + length (line_of (rest ends u)) ≡ w.at + length (line_of (9 ∷ u)) = omega (arith, rest_line u) in
        let n : 1 + suc i ≡ suc (1 + i) = omega arith in
        rw (v, m, split_fields u, n)

    at_TAB : ((x : Walk) (v : List ℕ) → drop x.at s ≡ v → stops v ≡ true → result_ok (next (fields_from_at s k (length fs) (suc i) x) (ended_at s)) ≡ read x v fs (suc i))
        → result_ok (next (next (turn s k i w) (fields_from_at s k (length fs) (suc i))) (ended_at s)) ≡ read w (9 ∷ u) (f ∷ fs) i
    at_TAB ih =
        let further : drop (w.at + 1 + length (field_of u)) s ≡ rest ends u = sym (drop-drop (length (field_of u)) (w.at + 1) s) ∙ ap (drop (length (field_of u))) after in
        rw step
        (elim (spelt f (field_of u)) as (λ t. spelt f (field_of u) ≡ t → result_ok (next (next (cond t (Ok on) (Err off)) (fields_from_at s k (length fs) (suc i))) (ended_at s)) ≡ read w (9 ∷ u) (f ∷ fs) i)
        [ true ↦ λ p. ih on (rest ends u) further (rest_stops u) ∙ good p | false ↦ λ p. rw (whole, p, and-false (ended u)) ] refl)

  -- no tab
  no_tab : (w : Walk) (i : ℕ) → starts_with TAB (drop w.at s) ≡ false → turn s k i w ≡ Err w
  unfolding field_at
  no_tab w i e = rw e

  walk : (fs : List Field) (i : ℕ) → drop i (fields_of k) ≡ fs → (w : Walk) (u : List ℕ) → drop w.at s ≡ u → stops u ≡ true → result_ok (next (fields_from_at s k (length fs) i w) (ended_at s)) ≡ read w u fs i
  unfolding fields_from_at any ends fields_from all_spelt
  walk [] i d w u e c = last w i u e c
  walk (f ∷ fs) i d w [] e c = rw (no_tab w i (ap (starts_with TAB) e))
  walk (f ∷ fs) i d w (b ∷ u) e c =
      elim (eqb b 9) as (λ x. eqb b 9 ≡ x → (x || eqb b 10) ≡ true → result_ok (next (next (turn s k i w) (fields_from_at s k (length fs) (suc i))) (ended_at s)) ≡ read w (b ∷ u) (f ∷ fs) i) [
        | true ↦ λ p q. let m : b ≡ 9 = eqb-true b 9 p in rw m (at_TAB w i f fs u (rw m at e) d (walk fs (suc i) (rw add-one at (drop_more (fields_of k) i f fs d))))
        | false ↦ λ p q. let m : b ≡ 10 = eqb-true b 10 q in let t : drop w.at s ≡ 10 ∷ u = rw m at e in rw (m, no_tab w i (ap (starts_with TAB) t))
      ] refl c

-- ---- a whole line

-- its word and its fields
pub line_kind_lem : (u : List ℕ) → line_kind (line_of u) ≡ place_of 0 kinds (field_of u)
unfolding line_kind
line_kind_lem u = rw (split_fields u)

pub line_fields : (u : List ℕ) → tail (split TAB (line_of u)) ≡ fields_from (rest ends u)
line_fields u = rw (split_fields u)

kind_most : (n : ℕ) (ks : List Kind) (w : List ℕ) → n + length ks ≤ 10 → place_of n ks w ≤ 10
unfolding place_of
kind_most n [] w h = omega (arith, kind_count)
kind_most n (k ∷ ks) w h = either (λ (p : ℕ). p ≤ 10) (same_bytes k.spelt w) _ _ (omega arith) (kind_most (suc n) ks w (omega arith))

pub kinds_most : (w : List ℕ) → place_of 0 kinds w ≤ 10
unfolding kinds
kinds_most w = kind_most 0 kinds w (omega arith)

spelt_length : (fs : List Field) (ss : List (List ℕ)) → all_spelt fs ss ≡ true → length (capped ss) ≡ length fs
unfolding all_spelt capped
spelt_length [] [] e = refl
spelt_length [] (s ∷ ss) e = absurd (false≢true e)
spelt_length (f ∷ fs) [] e = absurd (false≢true e)
spelt_length (f ∷ fs) (s ∷ ss) e = ap suc (spelt_length fs ss (and_right (spelt f s) (all_spelt fs ss) e))

row_filled : (x : ℤ) (vs : Words) → length vs ≤ 5 → sets (x ∷ replicate 7 z) 1 vs ≡ filled 8 z (x ∷ vs)
unfolding filled
row_filled x vs h =
    let e : 8 - suc (length vs) ≡ 7 - length vs = omega arith in
    sets-eq vs (x ∷ replicate 7 z) 1 (omega (arith, length-replicate 7 z)) ∙ rw (one-add, e) (ap (λ (l : Words). x ∷ (vs ++ l)) (drop_replicate (length vs) 7 z))

-- what is read from u on, of a line of a kind and its fields, and whether it is as the paper says
abbrev pub formed_parts : List ℕ → ℕ → List (List ℕ) → Bool
formed_parts u k ps = ended u && (not (eqb k no_kind) && all_spelt (fields_of k) ps)

abbrev pub read_parts : List ℕ → ℕ → ℕ → List (List ℕ) → Option Walk
read_parts u at k ps = cond (formed_parts u k ps) (Some (record { at = at + length (line_of u); row = filled 8 z (pos k ∷ capped ps) })) None

module _ (s : List ℕ) (at : ℕ) where
  abbrev here : List ℕ
  here = drop at s

  some_word : (k : ℕ) → k < 10 → result_ok (next (fields_at s k (worded s at k)) (ended_at s)) ≡ read_parts here at k (fields_from (rest ends here))
  unfolding fields_at
  some_word k h =
      let n : eqb k no_kind ≡ false = ne_eqb k no_kind (λ (e : k ≡ no_kind). omega (arith, kind_count)) in
      let ps = fields_from (rest ends here) in
      walk s k (fields_of k) 0 refl (worded s at k) (rest ends here) (sym (drop-drop (length (field_of here)) at s)) (rest_stops here)
      ∙ rw (n, rest_ended here)
      (elim (ended here && all_spelt (fields_of k) ps) as (λ t. (ended here && all_spelt (fields_of k) ps) ≡ t
      → cond {A = Option Walk} t (Some (record { at = (worded s at k).at + length (line_of (rest ends here)); row = sets (worded s at k).row 1 (capped ps) })) None
      ≡ cond t (Some (record { at = at + length (line_of here); row = filled 8 z (pos k ∷ capped ps) })) None) [
        | true ↦ λ t.
            let a : at + length (field_of here) + length (line_of (rest ends here)) ≡ at + length (line_of here) = omega (arith, rest_line here) in
            let few : length (capped ps) ≤ 5 = rw (spelt_length (fields_of k) ps (and_right (ended here) (all_spelt (fields_of k) ps) t)) (fields_few k h) in
            rw (a, row_filled (pos k) (capped ps) few)
        | false ↦ λ t. refl
      ] refl)

  of_kind : (k : ℕ) → k ≤ 10 → result_ok (line_of_kind s at k) ≡ read_parts here at k (fields_from (rest ends here))
  of_kind k m =
      elim (dec_lt k 10) [
        | yes l ↦ rw (lt-leb 10 k l) (some_word k l)
        | no l ↦ let e : k ≡ 10 = omega arith in rw (e, kind_count, and-false (ended here))
      ]

  pub reads_line : result_ok (line_at s at) ≡ read_parts here at (line_kind (line_of here)) (tail (split TAB (line_of here)))
  unfolding line_at
  reads_line = rw (line_kind_lem here, line_fields here) (of_kind (place_of 0 kinds (field_of here)) (kinds_most (field_of here)))

-- ---- what a line that is read tells

some_of : {A : Type 0} (t : Bool) {a b : A} → ◌≡◌ {A = Option A} (cond t (Some a) None) (Some b) → (t ≡ true) × (a ≡ b)
some_of true e = (refl, cc)
some_of false e = cc

none_of : {A : Type 0} (t : Bool) (a : A) → ◌≡◌ {A = Option A} (cond t (Some a) None) None → t ≡ false
none_of true a e = cc
none_of false a e = refl

abbrev pub formed_line : List ℕ → Bool
formed_line u = formed_parts u (line_kind (line_of u)) (tail (split TAB (line_of u)))

-- a line that is read, and one that is not
pub record ReadLine (u : List ℕ) (at : ℕ) (w : Walk) : Type 0 where
  pub verdict : formed_line u ≡ true
  pub place : w.at ≡ at + length (line_of u)
  pub row : w.row ≡ filled 8 z (pos (line_kind (line_of u)) ∷ capped (tail (split TAB (line_of u))))

pub line_good : (s : List ℕ) (at : ℕ) {w : Walk} → line_at s at ≡ Ok w → ReadLine (drop at s) at w
line_good s at {w} e =
    let v = some_of (formed_line (drop at s)) (sym (reads_line s at) ∙ ap (λ (r : Result Walk Walk). result_ok r) e) in
    record { verdict = v.0; place = ap (λ (x : Walk). x.at) (sym v.1); row = ap (λ (x : Walk). x.row) (sym v.1) }

pub line_bad : (s : List ℕ) (at : ℕ) {w : Walk} → line_at s at ≡ Err w → formed_line (drop at s) ≡ false
line_bad s at e = none_of (formed_line (drop at s)) _ (sym (reads_line s at) ∙ ap (λ (r : Result Walk Walk). result_ok r) e)
