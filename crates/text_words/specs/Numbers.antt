-- A number of any length, held at an end that lies past every field's. Assumes nothing.
use Rattle.std.proofs.Common.{add-one}
use Rattle.std.specs.Prelude.{Option, Some, None, ◌+◌, ◌*◌, ◌-◌, ◌≤◌, ◌<◌, ◌≡◌, ◌&&◌, ◌||◌, ◌∷◌}
use Rattle.whole.specs.Plain.{ℕ, zero, suc, refl, sym, ◌∙◌, ap, subst, Bool, true, false}
use Rattle.whole.specs.Plain.{not, cond, min, List, [], eqb, ℤ, pos, negsuc, neg_ℤ, get_or, length, drop}
use Rattle.whole.specs.Plain.{drop_of_length-le, drop-cons, eq-eqb, ne_eqb}
use Rattle.whole.specs.Plain.{dec_lt, ℕ_discrete, arith, empty, every, fold}
use Rattle.whole.specs.Truths.{and-false, and-true, or_false}
use Rattle.paper.specs.Text.{digit, decimal, negative, decimal_of, number_of}

-- ---- held at the end

abbrev pub held_end : ℕ
held_end = 10000000000000000

unfoldable pub cap : ℕ → ℕ
cap n = min n held_end

pub cap_small : (n : ℕ) → n < held_end → cap n ≡ n
unfolding cap
cap_small n h = omega arith

pub cap_large : (n : ℕ) → held_end ≤ n → cap n ≡ held_end
unfolding cap
cap_large n h = omega arith

pub cap_most : (n : ℕ) → cap n ≤ held_end
unfolding cap
cap_most n = omega arith

unfoldable pub cap_z : ℤ → ℤ
cap_z (pos n) = pos (cap n)
cap_z (negsuc n) = neg_ℤ (pos (cap (suc n)))

cap_neg : (n : ℕ) → cap_z (neg_ℤ (pos n)) ≡ neg_ℤ (pos (cap n))
unfolding cap_z cap
cap_neg zero = refl
cap_neg (suc n) = refl

-- one digit more
unfoldable pub held : ℕ → ℕ → ℕ
held v b = cap (10 * v + (b - 48))

held_cap : (v b : ℕ) → held (cap v) b ≡ cap (10 * v + (b - 48))
unfolding held
held_cap v b =
    elim (dec_lt v held_end)
    [ yes h ↦ rw (cap_small v h) | no h ↦ rw (cap_large v (omega arith), cap_large (10 * held_end + (b - 48)) (omega arith), cap_large (10 * v + (b - 48)) (omega arith)) ]

-- holding on the way is holding at the end
held_fold : (v : ℕ) (s : List ℕ) → fold held (cap v) s ≡ cap (fold (λ n b. 10 * n + (b - 48)) v s)
unfolding fold
held_fold v [] = refl
held_fold v (b ∷ t) = rw (held_cap v b) (held_fold (10 * v + (b - 48)) t)

pub held_decimal : (s : List ℕ) → fold held 0 s ≡ cap (decimal_of s)
unfolding decimal_of cap
held_decimal s = held_fold 0 s

-- ---- digits

-- the digits that follow a number
unfoldable pub digits_after : ℕ → List ℕ → Option ℕ
digits_after v s = cond (every digit s) (Some (fold held v s)) None

unfoldable pub digits_of : List ℕ → Option ℕ
unfolding digits_after
digits_of s = digits_after 0 s

unfoldable pub plain_of : Bool → List ℕ → Option ℕ
plain_of may [] = None
plain_of may (b ∷ t) = cond (eqb b 48) (cond (may && empty t) (Some 0) None) (digits_of (b ∷ t))

-- a field's number where it is well spelt
unfoldable pub read_number : Bool → List ℕ → Option ℤ
read_number signed s = cond (decimal s || (signed && negative s)) (Some (cap_z (number_of s))) None

-- ---- a number without a minus

decimal_is : (b : ℕ) (t : List ℕ) → eqb b 48 ≡ false → decimal (b ∷ t) ≡ every digit (b ∷ t)
unfolding decimal every
decimal_is b [] e = sym (and-true (digit b))
decimal_is b (c ∷ t) e = rw (e, and-true (digit b))

-- the digits read as a signed number
abbrev pub as_number : Option ℕ → Option ℤ
as_number None = None
as_number (Some n) = Some (pos n)

abbrev pub as_negative : Option ℕ → Option ℤ
as_negative None = None
as_negative (Some n) = Some (neg_ℤ (pos n))

abbrev plain_read : List ℕ → Option ℤ
plain_read s = cond (decimal s) (Some (cap_z (number_of s))) None

given : (b : Bool) (n : ℕ) (x : ℤ) → pos n ≡ x → as_number (cond b (Some n) None) ≡ cond b (Some x) None
given true n x h = rw h
given false n x h = refl

given_neg : (b : Bool) (n : ℕ) (x : ℤ) → neg_ℤ (pos n) ≡ x → as_negative (cond b (Some n) None) ≡ cond b (Some x) None
given_neg true n x h = rw h
given_neg false n x h = refl

zero_is : (t : List ℕ) → as_number (cond (empty t) (Some 0) None) ≡ plain_read (48 ∷ t)
unfolding decimal digit number_of decimal_of fold cap_z cap
zero_is [] = refl
zero_is (c ∷ t) = refl

digits_are : (b : ℕ) (t : List ℕ) → eqb b 45 ≡ false → eqb b 48 ≡ false → as_number (digits_of (b ∷ t)) ≡ plain_read (b ∷ t)
unfolding digits_of number_of cap_z
digits_are b t m e =
    rw (decimal_is b t e, m) (given (every digit (b ∷ t)) (fold held 0 (b ∷ t)) (pos (cap (decimal_of (b ∷ t)))) (ap pos (held_decimal (b ∷ t))))

not_decimal : (t : List ℕ) → decimal (45 ∷ t) ≡ false
unfolding decimal digit
not_decimal [] = refl
not_decimal (c ∷ t) = refl

-- a minus is no digit
no_digits : (t : List ℕ) → as_number (plain_of true (45 ∷ t)) ≡ plain_read (45 ∷ t)
unfolding plain_of digits_of every digit
no_digits t = rw (not_decimal t)

plain_is : (s : List ℕ) → as_number (plain_of true s) ≡ plain_read s
unfolding plain_of decimal
plain_is [] = refl
plain_is (b ∷ t) =
    let P : ℕ → Type 0 = λ x. as_number (plain_of true (x ∷ t)) ≡ plain_read (x ∷ t) in
    elim (ℕ_discrete b 48) [
      | yes q ↦ subst P (sym q) (zero_is t)
      | no n ↦ elim (ℕ_discrete b 45) [ yes q ↦ subst P (sym q) (no_digits t) | no m ↦ rw (ne_eqb b 48 n) (digits_are b t (ne_eqb b 45 m) (ne_eqb b 48 n)) ]
    ]

-- ---- and one with it

abbrev peak_of : List ℕ → Option ℤ
peak_of t = cond (decimal t && not (eqb (get_or t 0 48) 48)) (Some (cap_z (neg_ℤ (pos (decimal_of t))))) None

minus_is : (t : List ℕ) → as_negative (plain_of false t) ≡ peak_of t
unfolding plain_of decimal digits_of
minus_is [] = refl
minus_is (b ∷ t) =
    let neg : ℕ → ℤ = λ n. neg_ℤ (pos n) in
    let given-neg = given_neg (every digit (b ∷ t)) (fold held 0 (b ∷ t)) (cap_z (neg_ℤ (pos (decimal_of (b ∷ t))))) (ap neg (held_decimal (b ∷ t)) ∙ sym (cap_neg (decimal_of (b ∷ t)))) in
    elim (ℕ_discrete b 48)
    [ yes q ↦ rw (eq-eqb b 48 q, and-false (decimal (b ∷ t))) | no n ↦ rw (ne_eqb b 48 n, and-true (decimal (b ∷ t)), decimal_is b t (ne_eqb b 48 n)) given-neg ]

-- ---- a field

pub with_minus : (t : List ℕ) → as_negative (plain_of false t) ≡ read_number true (45 ∷ t)
unfolding read_number negative number_of
with_minus t = rw (not_decimal t) (minus_is t)

no_negative : (signed : Bool) (s : List ℕ) → (signed && eqb (get_or s 0 0) 45) ≡ false → (signed && negative s) ≡ false
unfolding negative
no_negative true [] e = refl
no_negative true (b ∷ t) e = rw e
no_negative false s e = refl

pub without_minus : (signed : Bool) (s : List ℕ) → (signed && eqb (get_or s 0 0) 45) ≡ false → as_number (plain_of true s) ≡ read_number signed s
unfolding read_number
without_minus signed s e = rw (no_negative signed s e, or_false (decimal s)) (plain_is s)

-- ---- how large it may be

fold_most : (v : ℕ) (s : List ℕ) → v ≤ held_end → fold held v s ≤ held_end
unfolding fold held
fold_most v [] h = h
fold_most v (b ∷ t) h = fold_most (held v b) t (cap_most (10 * v + (b - 48)))

some_is : (b : Bool) {v n : ℕ} → ◌≡◌ {A = Option ℕ} (cond b (Some v) None) (Some n) → v ≡ n
some_is true e = cc
some_is false e = cc

pub plain_most : (may : Bool) (s : List ℕ) {n : ℕ} → plain_of may s ≡ Some n → n ≤ held_end
unfolding plain_of digits_of
plain_most may [] e = cc
plain_most may (b ∷ t) {n} e = go (eqb b 48) e
  where
    go : (u : Bool) → ◌≡◌ {A = Option ℕ} (cond u (cond (may && empty t) (Some 0) None) (digits_of (b ∷ t))) (Some n) → n ≤ held_end
    go true q = omega (arith, some_is (may && empty t) q)
    go false q = omega (arith, some_is (every digit (b ∷ t)) q, fold_most 0 (b ∷ t) (omega arith))

-- ---- a turn of the loop over the digits

module _ (s : List ℕ) (i v : ℕ) where
  pub digits_next : i < length s → digit (get_or s i 0) ≡ true → digits_after (held v (get_or s i 0)) (drop (i + 1) s) ≡ digits_after v (drop i s)
  unfolding digits_after every fold
  digits_next h e = rw (add-one, drop-cons s i 0 h, e)

  pub digits_bad : i < length s → digit (get_or s i 0) ≡ false → None ≡ digits_after v (drop i s)
  unfolding digits_after every
  digits_bad h e = rw (drop-cons s i 0 h, e)

  pub digits_end : length s ≤ i → Some v ≡ digits_after v (drop i s)
  unfolding digits_after every fold
  digits_end h = rw (drop_of_length-le s h)

-- ---- the ways through the code

pub plain_none : (may : Bool) (s : List ℕ) → length s < 1 → None ≡ plain_of may s
unfolding plain_of
plain_none may [] h = refl
plain_none may (b ∷ t) h = absurd (omega arith)

pub plain_zero : (may : Bool) (s : List ℕ) → 1 ≤ length s → length s < 2 → get_or s 0 0 ≡ 48 → may ≡ true → Some 0 ≡ plain_of may s
unfolding plain_of
plain_zero may [] l h e m = absurd (omega arith)
plain_zero may (b ∷ []) l h e m = rw (e, m)
plain_zero may (b ∷ c ∷ t) l h e m = absurd (omega arith)

pub plain_alone : (may : Bool) (s : List ℕ) → 1 ≤ length s → get_or s 0 0 ≡ 48 → may ≡ false → None ≡ plain_of may s
unfolding plain_of
plain_alone may [] l e m = absurd (omega arith)
plain_alone may (b ∷ t) l e m = rw (e, m)

pub plain_zeros : (may : Bool) (s : List ℕ) → 2 ≤ length s → get_or s 0 0 ≡ 48 → None ≡ plain_of may s
unfolding plain_of
plain_zeros may [] l e = absurd (omega arith)
plain_zeros may (b ∷ []) l e = absurd (omega arith)
plain_zeros may (b ∷ c ∷ t) l e = rw (e, and-false may)

pub plain_more : (may : Bool) (s : List ℕ) → 1 ≤ length s → (get_or s 0 0 ≡ 48 → ⊥) → digits_of s ≡ plain_of may s
unfolding plain_of
plain_more may [] l n = absurd (omega arith)
plain_more may (b ∷ t) l n = rw (ne_eqb b 48 n)

pub ruleset plain_ways = (plain_none, plain_zero, plain_alone, plain_zeros, plain_more)
