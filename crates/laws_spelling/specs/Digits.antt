-- "Numbers are decimal without leading zeros": each number has one spelling, and each spelling is of one number. Assumes nothing.
use Rattle.std.specs.Prelude.{◌+◌, ◌*◌, ◌-◌, ◌/◌, ◌%◌, ◌^◌, ◌≤◌, ◌<◌, ◌≡◌, ◌&&◌, ◌∷◌, ◌++◌}
use Rattle.whole.specs.Plain.{ℕ, zero, suc, refl, sym, ap, ◌∙◌, subst}
use Rattle.whole.specs.Plain.{Bool, true, false, not, true≢false, List, [], append_assoc, append-nil}
use Rattle.whole.specs.Plain.{leb, eqb, length, length-append, leb-true, le-leb, eqb-false, eq-eqb, ne_eqb, not-true}
use Rattle.whole.specs.Plain.{pow-suc, dec_lt, arith, every, fold}
use Rattle.whole.specs.Folds.{and_left, and_right, both, fold_append, every_append}
use Rattle.paper.specs.Text.{digit, decimal, decimal_of}
use Rattle.paper.specs.Listing.{digits, shown_nat}

-- the spelling: as a listing shows a number, with room for every digit of it
unfoldable pub spell_nat : ℕ → List ℕ
spell_nat n = digits (suc n) true n []

-- ---- digit by digit, the last one first

pub stopped : (f n : ℕ) (rest : List ℕ) → digits f false n rest ≡ rest
unfolding digits
stopped zero n rest = refl
stopped (suc f) n rest = refl

pub before : (f : ℕ) (more : Bool) (n : ℕ) (rest : List ℕ) → digits f more n rest ≡ digits f more n [] ++ rest
unfolding digits
before zero more n rest = refl
before (suc f) false n rest = refl
before (suc f) true n rest =
    let q = n / 10 in
    let d = 48 + n % 10 in
    let m = not (eqb q 0) in
    before f m q (d ∷ rest) ∙ sym (ap (λ (l : List ℕ). l ++ rest) (before f m q (d ∷ [])) ∙ append_assoc (digits f m q []) (d ∷ []) rest)

-- n's last digit, and what stands behind it
abbrev pub last : ℕ → List ℕ → List ℕ
last n rest = (48 + n % 10) ∷ rest

-- a digit, and a number of more than one
pub one_digit : (f n : ℕ) (rest : List ℕ) → n < 10 → digits (suc f) true n rest ≡ last n rest
unfolding digits
one_digit f n rest h = ap (λ (b : Bool). digits f (not b) (n / 10) (last n rest)) (eq-eqb (n / 10) 0 (omega arith)) ∙ stopped f (n / 10) (last n rest)

pub more_digits : (f n : ℕ) (rest : List ℕ) → 10 ≤ n → digits (suc f) true n rest ≡ digits f true (n / 10) (last n rest)
unfolding digits
more_digits f n rest h = ap (λ (b : Bool). digits f (not b) (n / 10) (last n rest)) (ne_eqb (n / 10) 0 (λ e. omega arith))

-- where there is room, more of it changes nothing
pub same_room : (f g n : ℕ) (rest : List ℕ) → n < 10 ^ suc f → n < 10 ^ suc g → digits (suc f) true n rest ≡ digits (suc g) true n rest
same_room zero g n rest h k = one_digit zero n rest h ∙ sym (one_digit g n rest h)
same_room (suc f) zero n rest h k = one_digit (suc f) n rest k ∙ sym (one_digit zero n rest k)
same_room (suc f) (suc g) n rest h k = go (dec_lt n 10) (same_room f g (n / 10) (last n rest))
  where
    go : Dec (n < 10) → (n / 10 < 10 ^ suc f → n / 10 < 10 ^ suc g → digits (suc f) true (n / 10) (last n rest) ≡ digits (suc g) true (n / 10) (last n rest))
        → digits (suc (suc f)) true n rest ≡ digits (suc (suc g)) true n rest
    go (yes l) next = one_digit (suc f) n rest l ∙ sym (one_digit (suc g) n rest l)
    go (no l) next =
        more_digits (suc f) n rest (omega arith)
        ∙ next (omega (arith, pow-suc 10 (suc f))) (omega (arith, pow-suc 10 (suc g)))
        ∙ sym (more_digits (suc g) n rest (omega arith))

-- as many digits as the number is, and one, are room enough
under : (f n : ℕ) → n < suc f → n < 10 ^ suc f
under zero n h = omega arith
under (suc f) n h = omega (arith, under f (n - 1) (omega arith), pow-suc 10 (suc f))

room : (f g n : ℕ) (rest : List ℕ) → n < f → n < g → digits f true n rest ≡ digits g true n rest
room zero g n rest h k = absurd (omega arith)
room (suc f) zero n rest h k = absurd (omega arith)
room (suc f) (suc g) n rest h k = same_room f g n rest (under f n h) (under g n k)

-- as a listing shows it, with room for 20 digits
pub shown_nat_lem : (n : ℕ) → n < 10 ^ 20 → shown_nat n ≡ spell_nat n
unfolding shown_nat spell_nat
shown_nat_lem n h = same_room 19 n n [] h (under n n (omega arith))

turn : (f n q d : ℕ) → n / 10 ≡ q → n % 10 ≡ d → digits (suc f) true n [] ≡ digits f (not (eqb q 0)) q ((48 + d) ∷ [])
unfolding digits
turn f n q d e r = rw (e, r)

pub spell_digit : (n : ℕ) → n < 10 → spell_nat n ≡ (48 + n) ∷ []
unfolding spell_nat
spell_digit n h = turn n n 0 n (omega arith) (omega arith) ∙ stopped n 0 ((48 + n) ∷ [])

pub spell_more : (n d : ℕ) → 1 ≤ n → d < 10 → spell_nat (10 * n + d) ≡ spell_nat n ++ ((48 + d) ∷ [])
unfolding spell_nat
spell_more n d h k =
    turn (10 * n + d) (10 * n + d) n d (omega arith) (omega arith)
    ∙ ap (λ (b : Bool). digits (10 * n + d) (not b) n ((48 + d) ∷ [])) (ne_eqb n 0 (λ e. omega arith))
    ∙ room (10 * n + d) (suc n) n ((48 + d) ∷ []) (omega arith) (omega arith)
    ∙ before (suc n) true n ((48 + d) ∷ [])

-- ---- from the number to its spelling and back

-- every number is a digit, or ten times a smaller one over 0 and a digit
by_digits : (P : ℕ → Type 0) → ((d : ℕ) → d < 10 → P d) → ((n d : ℕ) → 1 ≤ n → d < 10 → P n → P (10 * n + d)) → (n : ℕ) → P n
by_digits P one more n = go (suc n) n (omega arith)
  where
    go : (f n : ℕ) → n < f → P n
    go zero n h = absurd (omega arith)
    go (suc f) n h =
        let e : 10 * (n / 10) + n % 10 ≡ n = omega arith in
        elim (dec_lt n 10) [ yes l ↦ one n l | no l ↦ subst P e (more (n / 10) (n % 10) (omega arith) (omega arith) (go f (n / 10) (omega arith))) ]

abbrev pushed : ℕ → ℕ → ℕ
pushed n b = 10 * n + (b - 48)

value_more : (s : List ℕ) (d : ℕ) → decimal_of (s ++ ((48 + d) ∷ [])) ≡ 10 * decimal_of s + d
unfolding decimal_of fold
value_more s d = fold_append pushed 0 s ((48 + d) ∷ []) ∙ omega arith

pub spell_value : (n : ℕ) → decimal_of (spell_nat n) ≡ n
unfolding decimal_of fold
spell_value = by_digits (λ n. decimal_of (spell_nat n) ≡ n) (λ d h. rw (spell_digit d h) (omega arith)) (λ n d h k e. rw (spell_more n d h k, value_more (spell_nat n) d, e))

-- ---- the spelling is a number's

pub digit_range : (b : ℕ) → digit b ≡ true → (48 ≤ b) × (b ≤ 57)
unfolding digit
digit_range b e = (leb-true 48 b (and_left (leb 48 b) (leb b 57) e), leb-true b 57 (and_right (leb 48 b) (leb b 57) e))

digit_is : (d : ℕ) → d < 10 → digit (48 + d) ≡ true
unfolding digit
digit_is d h = both (le-leb 48 (48 + d) (omega arith)) (le-leb (48 + d) 57 (omega arith))

-- digits, the first of them not 0
pub record Leading (s : List ℕ) : Type 0 where
  pub head : ℕ
  pub rest : List ℕ
  pub is : s ≡ head ∷ rest
  pub first : digit head ≡ true
  pub nonzero : eqb head 48 ≡ false
  pub digits : every digit rest ≡ true

leading_more : (s : List ℕ) (d : ℕ) → Leading s → d < 10 → Leading (s ++ ((48 + d) ∷ []))
unfolding every
leading_more s d l h = record {
  head = l.head;
  rest = l.rest ++ ((48 + d) ∷ []);
  is = ap (λ (t : List ℕ). t ++ ((48 + d) ∷ [])) l.is;
  first = l.first;
  nonzero = l.nonzero;
  digits = every_append digit l.rest ((48 + d) ∷ []) ∙ both l.digits (both (digit_is d h) refl);
}

pub spell_leading : (n : ℕ) → 1 ≤ n → Leading (spell_nat n)
unfolding every
spell_leading =
    by_digits (λ n. 1 ≤ n → Leading (spell_nat n))
    (λ d h k. record { head = 48 + d; rest = []; is = spell_digit d h; first = digit_is d h; nonzero = ne_eqb (48 + d) 48 (λ q. omega arith); digits = refl })
    (λ n d h k l u. rw (spell_more n d h k) (leading_more (spell_nat n) d (l h) k))

pub leading_decimal : (s : List ℕ) → Leading s → decimal s ≡ true
unfolding decimal
leading_decimal s l =
    rw l.is
    (elim l.rest as (λ t. every digit t ≡ true → decimal (l.head ∷ t) ≡ true) [ [] ↦ λ g. l.first | c ∷ t ↦ λ g. rw (l.first, l.nonzero, g) ] l.digits)

pub spell_decimal : (n : ℕ) → decimal (spell_nat n) ≡ true
unfolding decimal
spell_decimal zero = rw (spell_digit 0 (omega arith)) (digit_is 0 (omega arith))
spell_decimal (suc n) = leading_decimal (spell_nat (suc n)) (spell_leading (suc n) (omega arith))

-- ---- and each number's spelling is the only one

grown : (s : List ℕ) (p : ℕ) → 1 ≤ p → every digit s ≡ true → spell_nat (fold pushed p s) ≡ spell_nat p ++ s
unfolding fold every
grown [] p h e = sym (append-nil (spell_nat p))
grown (b ∷ s) p h e =
    let r = digit_range b (and_left (digit b) (every digit s) e) in
    let c : 48 + (b - 48) ≡ b = omega arith in
    grown s (10 * p + (b - 48)) (omega arith) (and_right (digit b) (every digit s) e)
    ∙ ap (λ (t : List ℕ). t ++ s) (spell_more p (b - 48) h (omega arith) ∙ ap (λ (x : ℕ). spell_nat p ++ (x ∷ [])) c)
    ∙ append_assoc (spell_nat p) (b ∷ []) s

pub decimal_spell : (s : List ℕ) → decimal s ≡ true → spell_nat (decimal_of s) ≡ s
unfolding decimal decimal_of fold
decimal_spell [] e = absurd (true≢false (sym e))
decimal_spell (b ∷ []) e =
    let r = digit_range b e in
    let v : 10 * 0 + (b - 48) ≡ b - 48 = omega arith in
    let c : 48 + (b - 48) ≡ b = omega arith in
    ap spell_nat v ∙ spell_digit (b - 48) (omega arith) ∙ ap (λ (x : ℕ). x ∷ []) c
decimal_spell (b ∷ (c ∷ t)) e =
    let p = and_left (digit b && not (eqb b 48)) (every digit (c ∷ t)) e in
    let q = and_right (digit b && not (eqb b 48)) (every digit (c ∷ t)) e in
    let r = digit_range b (and_left (digit b) (not (eqb b 48)) p) in
    let u = eqb-false b 48 (not-true (eqb b 48) (and_right (digit b) (not (eqb b 48)) p)) in
    let v : 10 * 0 + (b - 48) ≡ b - 48 = omega arith in
    let w : 48 + (b - 48) ≡ b = omega arith in
    grown (c ∷ t) (10 * 0 + (b - 48)) (omega arith) q
    ∙ ap (λ (x : List ℕ). x ++ (c ∷ t)) (ap spell_nat v ∙ spell_digit (b - 48) (omega arith) ∙ ap (λ (x : ℕ). x ∷ []) w)

-- ---- how long it is

last_digit : (n : ℕ) → 1 ≤ n / 10 → length (spell_nat n) ≡ length (spell_nat (n / 10)) + 1
last_digit n h =
    let e : 10 * (n / 10) + n % 10 ≡ n = omega arith in
    ap (λ (x : ℕ). length (spell_nat x)) (sym e) ∙ ap length (spell_more (n / 10) (n % 10) h (omega arith)) ∙ length-append (spell_nat (n / 10)) ((48 + n % 10) ∷ [])

pub spell_length : (k n : ℕ) → n < 10 ^ suc k → length (spell_nat n) ≤ suc k
spell_length zero n h = omega (arith, ap length (spell_digit n (omega arith)))
spell_length (suc k) n h =
    let p : 10 ^ suc (suc k) ≡ 10 ^ suc k * 10 = pow-suc 10 (suc k) in
    elim (dec_lt n 10) [ yes l ↦ omega (arith, ap length (spell_digit n l)) | no l ↦ omega (arith, spell_length k (n / 10) (omega arith), last_digit n (omega arith)) ]
