-- A row without the faults NODE and VALUE has each field of its kind, in its range. Assumes nothing.
use Rattle.std.specs.Prelude.{◌≤◌, ◌<◌, ◌≡◌, ◌&&◌, ◌||◌, ◌∷◌}
use Rattle.whole.specs.Plain.{ℕ, zero, suc, refl, sym, subst, Bool, true, false, not}
use Rattle.whole.specs.Plain.{true≢false, List, [], tail, T, leb, ltb, ltb→lt, ℤ, pos, negsuc, length, get_or}
use Rattle.whole.specs.Plain.{leb-true, not-false, arith, Words, z, word, nat, between}
use Rattle.whole.specs.Folds.{and_left, and_right, or_left, or_right}
use Rattle.paper.specs.Rows.{Row, Field, fields_of, kind}
use Rattle.paper.specs.Faults.{outside, node_fault, value_fault}

abbrev pub no_field : Field
no_field = record { names = false; low = z; high = z }

abbrev pub field_at : ℕ → ℕ → Field
field_at k i = get_or (fields_of k) i no_field

inside : (b : Bool) (f : Field) (x : ℤ) → f.names ≡ b → (f.names && not (between f.low f.high x)) ≡ false → (not f.names && not (between f.low f.high x)) ≡ false
    → between f.low f.high x ≡ true
inside true f x e p q = not-false (between f.low f.high x) (rw e at p)
inside false f x e p q = not-false (between f.low f.high x) (rw e at q)

field_in : (fs : List Field) (w : Words) (i : ℕ) → outside true fs w ≡ false → outside false fs w ≡ false → i < length fs
    → between (get_or fs i no_field).low (get_or fs i no_field).high (word w i) ≡ true
unfolding outside
field_in [] w i p q h = absurd (omega arith)
field_in (f ∷ fs) [] i p q h = absurd (true≢false p)
field_in (f ∷ fs) (x ∷ w) zero p q h = inside f.names f x refl (or_left _ (outside true fs w) p) (or_left _ (outside false fs w) q)
field_in (f ∷ fs) (x ∷ w) (suc i) p q h =
    field_in fs w i (or_right (f.names && not (between f.low f.high x)) (outside true fs w) p) (or_right (not f.names && not (between f.low f.high x)) (outside false fs w) q) (omega arith)

fields_there : (fs : List Field) (w : Words) → outside true fs w ≡ false → length fs ≤ length w
unfolding outside
fields_there [] w p = omega arith
fields_there (f ∷ fs) [] p = absurd (true≢false p)
fields_there (f ∷ fs) (x ∷ w) p = let h = fields_there fs w (or_right (f.names && not (between f.low f.high x)) (outside true fs w) p) in omega arith

pub tail_word : (r : Row) (i : ℕ) → word (tail r) i ≡ word r (suc i)
tail_word [] i = refl
tail_word (x ∷ r) i = refl

-- each field of the row's kind is there and in its range
pub record InRange (r : Row) : Type 0 where
  pub there : length (fields_of (kind r)) ≤ length (tail r)
  pub holds : (i : ℕ) → i < length (fields_of (kind r)) → between (field_at (kind r) i).low (field_at (kind r) i).high (word r (suc i)) ≡ true

pub none_of_three : (a b c : Bool) → (a || b || c) ≡ false → (a ≡ false) × (b ≡ false) × (c ≡ false)
none_of_three a b c e =
    let f = or_left (a || b) c e in
    (or_left a b f, or_right a b f, or_right (a || b) c e)

pub none_of_four : (a b c d : Bool) → (a || b || c || d) ≡ false → (a ≡ false) × (b ≡ false) × (c ≡ false) × (d ≡ false)
none_of_four a b c d e =
    let f = none_of_three a b c (or_left (a || b || c) d e) in
    (f.0, f.1, f.2, or_right (a || b || c) d e)

pub in_range_lem : (head r : Row) → node_fault r ≡ false → value_fault head r ≡ false → InRange r
unfolding node_fault value_fault
in_range_lem head r p q =
    let a : outside true (fields_of (kind r)) (tail r) ≡ false = (none_of_four _ _ _ _ p).0 in
    let b : outside false (fields_of (kind r)) (tail r) ≡ false = (none_of_three _ _ _ q).0 in
    record {
      there = fields_there (fields_of (kind r)) (tail r) a;
      holds = λ i h. rw tail_word at (field_in (fields_of (kind r)) (tail r) i a b h);
    }

-- at a kind and a place that are numerals, `field k i r e f tt` computes to the range
pub field : (k i : ℕ) (r : Row) → kind r ≡ k → InRange r → T (ltb i (length (fields_of k))) → between (field_at k i).low (field_at k i).high (word r (suc i)) ≡ true
field k i r e f t =
    subst (λ (k : ℕ). i < length (fields_of k) → between (field_at k i).low (field_at k i).high (word r (suc i)) ≡ true) e (f.holds i) (ltb→lt i (length (fields_of k)) t)

-- ---- a word in a range

-- a word that is no negative number, from low to high
pub record Within (low high : ℕ) (x : ℤ) : Type 0 where
  pub is_nat : x ≡ pos (nat x)
  pub least : low ≤ nat x
  pub most : nat x ≤ high

pub within : (low high : ℕ) (x : ℤ) → between (pos low) (pos high) x ≡ true → Within low high x
unfolding between
within low high (pos n) e =
    record { is_nat = refl; least = leb-true low n (and_left (leb low n) (leb n high) e); most = leb-true n high (and_right (leb low n) (leb n high) e) }
within low high (negsuc n) e = absurd (true≢false (sym e))

pub wider : {low high a b : ℕ} {x : ℤ} → Within low high x → a ≤ low → high ≤ b → Within a b x
wider w h k = record { is_nat = w.is_nat; least = omega (arith, w.least); most = omega (arith, w.most) }
