-- No test of a row can tell a number that is held at the end from the true one. Assumes nothing.
use Rattle.std.specs.Prelude.{◌-◌, ◌≤◌, ◌<◌, ◌≡◌, ◌&&◌, ◌∷◌}
use Rattle.whole.specs.Plain.{ℕ, zero, suc, refl, sym, ◌∙◌, ap, Bool, true, false, false≢true}
use Rattle.whole.specs.Plain.{List, [], tail, map, leb, ltb, ℤ, pos, negsuc, nat_abs, le_z, length, length-map}
use Rattle.whole.specs.Plain.{get_or-map, get_or-eq_default, ext_get_or, leb-true, ltb-true, dec_lt, arith, Words, z}
use Rattle.whole.specs.Plain.{word, between, every, count}
use Rattle.whole.specs.Int.{abs_neg}
use Rattle.whole.specs.Folds.{and_left, and_right, or_left, every_at}
use Rattle.paper.specs.Rows.{Row, Field, bytes, kinds, branch_kind, source_kind, kind, fields_of}
use Rattle.paper.specs.Faults.{outside, node_fault, value_fault, line_fault}
use Rattle.text_kinds.specs.Table.{names_of, low, high, any_outside, outside_from}
use Rattle.text_faults.specs.Laws.{none_first}
use Rattle.text_faults.specs.Stands.{words, shape}
use Rattle.text_kinds.specs.Fields.{each, outside_names, outside_values, field_in}
use Rattle.text_words.specs.Numbers.{held_end, cap, cap_small, cap_large, cap_z}

-- ---- one number

pub small_same : (x : ℤ) → nat_abs x < held_end → cap_z x ≡ x
unfolding cap_z
small_same (pos n) h = rw (cap_small n h)
small_same (negsuc n) h = rw (cap_small (suc n) h)

abs_cap : (x : ℤ) → nat_abs (cap_z x) ≡ cap (nat_abs x)
unfolding cap_z
abs_cap (pos n) = refl
abs_cap (negsuc n) = abs_neg (pos (cap (suc n)))

cap_below : (n : ℕ) → cap n < held_end → n < held_end
cap_below n h = elim (dec_lt n held_end) [ yes l ↦ l | no l ↦ absurd (omega (arith, cap_large n (omega arith))) ]

in_small : (l h x : ℤ) → nat_abs l < held_end → nat_abs h < held_end → between l h x ≡ true → nat_abs x < held_end
unfolding between
in_small l (pos h) (pos n) p q e = let m : n ≤ h = leb-true n h (and_right (le_z l (pos n)) (leb n h) e) in omega arith
in_small l (negsuc h) (pos n) p q e = absurd (false≢true (and_right (le_z l (pos n)) false e))
in_small (pos l) h (negsuc n) p q e = absurd (false≢true e)
in_small (negsuc l) h (negsuc n) p q e = let m : n ≤ l = leb-true n l (and_left (leb n l) (le_z (negsuc n) h) e) in omega arith

same_range : (l h x : ℤ) → nat_abs l < held_end → nat_abs h < held_end → between l h (cap_z x) ≡ between l h x
same_range l h x p q = by_test (between l h x) refl (between l h (cap_z x)) refl
  where
    by_test : (a : Bool) → between l h x ≡ a → (b : Bool) → between l h (cap_z x) ≡ b → between l h (cap_z x) ≡ between l h x
    by_test true e b f = rw (small_same x (in_small l h x p q e))
    by_test false e true f = rw (small_same x (cap_below (nat_abs x) (rw (abs_cap x) at (in_small l h (cap_z x) p q f))))
    by_test false e false f = f ∙ sym e

-- ---- the ends of the table lie below

ends_small : (k : ℕ) → k < 10 → every (λ (f : Field). ltb (nat_abs f.low) held_end && ltb (nat_abs f.high) held_end) (fields_of k) ≡ true
unfolding every fields_of kinds bytes
ends_small = each (λ k. every (λ (f : Field). ltb (nat_abs f.low) held_end && ltb (nat_abs f.high) held_end) (fields_of k) ≡ true) refl refl refl refl refl refl refl refl refl refl

abbrev no_field : Field
no_field = record { names = false; low = z; high = z }

field_small : (k i : ℕ) → k < 10 → (ltb (nat_abs (low k i)) held_end && ltb (nat_abs (high k i)) held_end) ≡ true
unfolding low high
field_small k i h =
    elim (dec_lt i (length (fields_of k))) [
      | yes l ↦ every_at (λ (f : Field). ltb (nat_abs f.low) held_end && ltb (nat_abs f.high) held_end) (fields_of k) no_field i (ends_small k h) l
      | no l ↦ let g : length (fields_of k) ≤ i = omega arith in rw (low, high, get_or-eq_default (fields_of k) no_field g)
    ]

low_small : (k i : ℕ) → k < 10 → nat_abs (low k i) < held_end
low_small k i h = ltb-true _ held_end (and_left _ (ltb (nat_abs (high k i)) held_end) (field_small k i h))

high_small : (k i : ℕ) → k < 10 → nat_abs (high k i) < held_end
high_small k i h = ltb-true _ held_end (and_right (ltb (nat_abs (low k i)) held_end) _ (field_small k i h))

-- ---- a row's words

unfoldable pub held_row : Words → Words
held_row [] = []
held_row (x ∷ w) = x ∷ map cap_z w

held_word : (w : Words) (i : ℕ) → word (held_row w) (suc i) ≡ cap_z (word w (suc i))
unfolding held_row cap_z cap
held_word [] i = refl
held_word (x ∷ w) i = get_or-map cap_z w i z

held_first : (w : Words) → word (held_row w) 0 ≡ word w 0
unfolding held_row
held_first [] = refl
held_first (x ∷ w) = refl

pub cap_z_zero : cap_z z ≡ z
unfolding cap_z cap
cap_z_zero = refl

pub held_kind : (w : Words) → kind (held_row w) ≡ kind w
held_kind w = rw (held_first w)

pub held_length : (w : Words) → length (held_row w) ≡ length w
unfolding held_row
held_length [] = refl
held_length (x ∷ w) = ap suc (length-map w cap_z)

held_any : (k : ℕ) → k < 10 → (i n : ℕ) (w : Words) → any_outside k i n (held_row w) ≡ any_outside k i n w
unfolding any_outside
held_any k h i zero w = refl
held_any k h i (suc n) w = rw (held_word w i, same_range (low k i) (high k i) (word w (suc i)) (low_small k i h) (high_small k i h), held_any k h (suc i) n w)

held_outside : (k : ℕ) → k < 10 → (i e : ℕ) (w : Words) → outside_from k i e (held_row w) ≡ outside_from k i e w
unfolding outside_from
held_outside k h i e w = held_any k h i (e - i) w

-- ---- the faults of a row

-- NODE asks for the fields that name a node alone
nodes_alike : (k : ℕ) → k < 10 → (w v : Words) → (0 < names_of k → word w 1 ≡ word v 1) → (1 < names_of k → word w 2 ≡ word v 2) → node_fault (words k w) ≡ node_fault (words k v)
unfolding words names_of node_fault outside fields_of branch_kind source_kind kinds bytes count
nodes_alike k h w v = each (λ k. (0 < names_of k → word w 1 ≡ word v 1) → (1 < names_of k → word w 2 ≡ word v 2) → node_fault (words k w) ≡ node_fault (words k v))
    (λ p q. refl)
    (λ p q. rw (p (omega arith), q (omega arith)))
    (λ p q. rw (p (omega arith), q (omega arith)))
    (λ p q. rw (p (omega arith), q (omega arith)))
    (λ p q. rw (p (omega arith), q (omega arith)))
    (λ p q. rw (p (omega arith), q (omega arith)))
    (λ p q. rw (p (omega arith)))
    (λ p q. rw (p (omega arith)))
    (λ p q. rw (p (omega arith)))
    (λ p q. rw (p (omega arith), q (omega arith)))
    k h

node_out : (w : Words) → outside true (fields_of (kind w)) (tail w) ≡ true → node_fault w ≡ true
unfolding node_fault
node_out w e = rw e

value_out : (head : Row) (w : Words) → outside false (fields_of (kind w)) (tail w) ≡ true → value_fault head w ≡ true
unfolding value_fault
value_out head w e = rw e

module _ (w : Words) (few : 6 ≤ length w) (known : kind w < 10) where
  -- a field that passes is held as it is
  field_same : (i e j : ℕ) → outside_from (kind w) i e w ≡ false → i ≤ j → j < e → word (held_row w) (suc j) ≡ word w (suc j)
  field_same i e j o l h =
      held_word w j
      ∙ small_same (word w (suc j)) (in_small (low (kind w) j) (high (kind w) j) (word w (suc j)) (low_small (kind w) j known) (high_small (kind w) j known) (field_in (kind w) i e w o j l h))

  few_held : 6 ≤ length (held_row w)
  few_held = rw (held_length w) few

  known_held : kind (held_row w) < 10
  known_held = rw (held_kind w) known

  node_held : outside_from (kind w) 0 (names_of (kind w)) w ≡ false → node_fault (held_row w) ≡ node_fault w
  node_held o =
      ap node_fault (shape (held_row w) few_held known_held)
      ∙ rw (held_kind w) (nodes_alike (kind w) known (held_row w) w (field_same 0 (names_of (kind w)) 0 o (omega arith)) (field_same 0 (names_of (kind w)) 1 o (omega arith)))
      ∙ sym (ap node_fault (shape w few known))

  names_out : outside true (fields_of (kind (held_row w))) (tail (held_row w)) ≡ outside_from (kind w) 0 (names_of (kind w)) w
  names_out = sym (outside_names (held_row w) few_held (kind (held_row w)) known_held) ∙ rw (held_kind w) (held_outside (kind w) known 0 (names_of (kind w)) w)

  values_out : outside false (fields_of (kind (held_row w))) (tail (held_row w)) ≡ outside_from (kind w) (names_of (kind w)) (length (fields_of (kind w))) w
  values_out = sym (outside_values (held_row w) few_held (kind (held_row w)) known_held) ∙ rw (held_kind w) (held_outside (kind w) known (names_of (kind w)) (length (fields_of (kind w))) w)

  module _ (none : (j : ℕ) → length (fields_of (kind w)) ≤ j → word w (suc j) ≡ z) where
    -- where all fields pass, the row is held as it is
    all_same : outside_from (kind w) 0 (names_of (kind w)) w ≡ false → outside_from (kind w) (names_of (kind w)) (length (fields_of (kind w))) w ≡ false → held_row w ≡ w
    all_same a b = ext_get_or z (held_row w) w (held_length w) at
      where
        value : (j : ℕ) → names_of (kind w) ≤ j → Dec (j < length (fields_of (kind w))) → word (held_row w) (suc j) ≡ word w (suc j)
        value j l (yes h) = field_same (names_of (kind w)) (length (fields_of (kind w))) j b l h
        value j l (no h) = held_word w j ∙ rw (none j (omega arith)) cap_z_zero

        at : (i : ℕ) → i < length (held_row w) → word (held_row w) i ≡ word w i
        at zero h = held_first w
        at (suc j) h =
            elim (dec_lt j (names_of (kind w)))
            [ yes l ↦ field_same 0 (names_of (kind w)) j a (omega arith) l | no l ↦ value j (omega arith) (dec_lt j (length (fields_of (kind w)))) ]

    pub held_fault : (head : Row) (before : List Row) → line_fault head before (held_row w) ≡ line_fault head before w
    unfolding line_fault
    held_fault head before = by_test (outside_from (kind w) 0 (names_of (kind w)) w) refl (outside_from (kind w) (names_of (kind w)) (length (fields_of (kind w))) w) refl
      where
        by_test : (a : Bool) → outside_from (kind w) 0 (names_of (kind w)) w ≡ a → (b : Bool) → outside_from (kind w) (names_of (kind w)) (length (fields_of (kind w))) w ≡ b
            → line_fault head before (held_row w) ≡ line_fault head before w
        by_test true p b q = rw (node_out (held_row w) (names_out ∙ p), node_out w (sym (outside_names w few (kind w) known) ∙ p))
        by_test false p true q = rw (node_held p, value_out head (held_row w) (values_out ∙ q), value_out head w (sym (outside_values w few (kind w) known) ∙ q))
        by_test false p false q = rw (all_same p q)

    -- a row without fault is held as it is
    pub held_same : (head : Row) (before : List Row) → line_fault head before w ≡ 0 → held_row w ≡ w
    unfolding line_fault node_fault value_fault
    held_same head before e =
        let n = none_first (node_fault w) 1 _ e in
        let v = none_first (value_fault head w) 2 _ n.1 in
        all_same (outside_names w few (kind w) known ∙ or_left _ _ (or_left _ _ (or_left _ _ n.0))) (outside_values w few (kind w) known ∙ or_left _ _ (or_left _ _ v.0))
