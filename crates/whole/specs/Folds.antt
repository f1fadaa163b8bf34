-- Laws of the folds of specs/Lists: over append, map and one more place; where a test fails or passes. Assumes nothing.
use Rattle.std.specs.Prelude.{◌+◌, ◌<◌, ◌≤◌, ◌≡◌, ◌&&◌, ◌||◌, ◌∷◌, ◌++◌}
use Rattle.whole.specs.Plain.{ℕ, zero, suc, refl, sym, ap, ◌∙◌, Bool, true, false, cond}
use Rattle.whole.specs.Plain.{and_assoc, and-true, or_assoc, List, [], map, length, get_or, take}
use Rattle.whole.specs.Plain.{drop, drop_of_length-le, drop-cons, take-suc, arith, every, any, count, keep, sum}
use Rattle.whole.specs.Plain.{fold, numbers}
use Rattle.std.proofs.Common.{add-one}

-- ---- tests
pub and_left : (a b : Bool) → (a && b) ≡ true → a ≡ true
and_left true b e = refl
and_left false b e = e

pub and_right : (a b : Bool) → (a && b) ≡ true → b ≡ true
and_right true b e = e
and_right false b e = cc

pub both : {a b : Bool} → a ≡ true → b ≡ true → (a && b) ≡ true
both p q = rw (p, q)

pub or_left : (a b : Bool) → (a || b) ≡ false → a ≡ false
or_left true b e = e
or_left false b e = refl

pub or_right : (a b : Bool) → (a || b) ≡ false → b ≡ false
or_right true b e = cc
or_right false b e = e

pub neither : {a b : Bool} → a ≡ false → b ≡ false → (a || b) ≡ false
neither p q = rw (p, q)

count_head : (b : Bool) (n m : ℕ) → n ≤ m → cond b 1 0 + n ≤ suc m
count_head true n m h = omega arith
count_head false n m h = omega arith

module _ {A : Type 0} where
  -- ---- of append
  pub every_append : (p : A → Bool) (l m : List A) → every p (l ++ m) ≡ (every p l && every p m)
  unfolding every
  every_append p [] m = refl
  every_append p (a ∷ l) m = rw (every_append p l m) (sym (and_assoc (p a) (every p l) (every p m)))

  pub any_append : (p : A → Bool) (l m : List A) → any p (l ++ m) ≡ (any p l || any p m)
  unfolding any
  any_append p [] m = refl
  any_append p (a ∷ l) m = rw (any_append p l m) (sym (or_assoc (p a) (any p l) (any p m)))

  pub count_append : (p : A → Bool) (l m : List A) → count p (l ++ m) ≡ count p l + count p m
  unfolding count
  count_append p [] m = omega arith
  count_append p (a ∷ l) m = omega (arith, count_append p l m)

  pub sum_append : (f : A → ℕ) (l m : List A) → sum f (l ++ m) ≡ sum f l + sum f m
  unfolding sum
  sum_append f [] m = omega arith
  sum_append f (a ∷ l) m = omega (arith, sum_append f l m)

  keep_head : (b : Bool) (a : A) (l m : List A) → cond b (a ∷ (l ++ m)) (l ++ m) ≡ cond b (a ∷ l) l ++ m
  keep_head true a l m = refl
  keep_head false a l m = refl

  pub keep_append : (p : A → Bool) (l m : List A) → keep p (l ++ m) ≡ keep p l ++ keep p m
  unfolding keep
  keep_append p [] m = refl
  keep_append p (a ∷ l) m = rw (keep_append p l m) (keep_head (p a) a (keep p l) (keep p m))

  -- ---- lengths and elements
  length_head : (b : Bool) (a : A) (l : List A) → length (cond b (a ∷ l) l) ≡ cond b 1 0 + length l
  length_head true a l = omega arith
  length_head false a l = omega arith

  pub length_keep : (p : A → Bool) (l : List A) → length (keep p l) ≡ count p l
  unfolding keep count
  length_keep p [] = refl
  length_keep p (a ∷ l) = length_head (p a) a (keep p l) ∙ ap (λ (n : ℕ). cond (p a) 1 0 + n) (length_keep p l)

  pub count_le : (p : A → Bool) (l : List A) → count p l ≤ length l
  unfolding count
  count_le p [] = omega arith
  count_le p (a ∷ l) = count_head (p a) (count p l) (length l) (count_le p l)

  pub every_at : (p : A → Bool) (l : List A) (d : A) (i : ℕ) → every p l ≡ true → i < length l → p (get_or l i d) ≡ true
  unfolding every
  every_at p [] d i e h = absurd (omega arith)
  every_at p (a ∷ l) d zero e h = and_left (p a) (every p l) e
  every_at p (a ∷ l) d (suc i) e h = every_at p l d i (and_right (p a) (every p l) e) (omega arith)

  pub none_at : (p : A → Bool) (l : List A) (d : A) (i : ℕ) → any p l ≡ false → i < length l → p (get_or l i d) ≡ false
  unfolding any
  none_at p [] d i e h = absurd (omega arith)
  none_at p (a ∷ l) d zero e h = or_left (p a) (any p l) e
  none_at p (a ∷ l) d (suc i) e h = none_at p l d i (or_right (p a) (any p l) e) (omega arith)

  -- what passes at each place passes, and what passes at each element
  pub every_if : (p : A → Bool) (l : List A) (d : A) → ((i : ℕ) → i < length l → p (get_or l i d) ≡ true) → every p l ≡ true
  unfolding every
  every_if p [] d h = refl
  every_if p (a ∷ l) d h = both (h 0 (omega arith)) (every_if p l d (λ i k. h (suc i) (omega arith)))

  pub none_if : (p : A → Bool) (l : List A) (d : A) → ((i : ℕ) → i < length l → p (get_or l i d) ≡ false) → any p l ≡ false
  unfolding any
  none_if p [] d h = refl
  none_if p (a ∷ l) d h = neither (h 0 (omega arith)) (none_if p l d (λ i k. h (suc i) (omega arith)))

  pub every_weaken : (p q : A → Bool) (l : List A) → ((a : A) → p a ≡ true → q a ≡ true) → every p l ≡ true → every q l ≡ true
  unfolding every
  every_weaken p q [] h e = refl
  every_weaken p q (a ∷ l) h e = both (h a (and_left (p a) (every p l) e)) (every_weaken p q l h (and_right (p a) (every p l) e))

  -- ---- one more place: what is left of a scan at i
  pub every_more : (p : A → Bool) (l : List A) (i : ℕ) (d : A) → i < length l → every p (drop i l) ≡ (p (get_or l i d) && every p (drop (i + 1) l))
  unfolding every
  every_more p l i d h = rw (add-one i, drop-cons l i d)

  pub every_done : (p : A → Bool) (l : List A) (i : ℕ) → length l ≤ i → every p (drop i l) ≡ true
  unfolding every
  every_done p l i h = rw (drop_of_length-le l h)

  -- ---- what is done at i
  last_count : (p : A → Bool) (n : ℕ) (a : A) → n + count p (a ∷ []) ≡ n + cond (p a) 1 0
  unfolding count
  last_count p n a = omega arith

  pub count_next : (p : A → Bool) (l : List A) (i : ℕ) (d : A) → i < length l → count p (take (i + 1) l) ≡ count p (take i l) + cond (p (get_or l i d)) 1 0
  count_next p l i d h = rw (add-one i, take-suc l i d, count_append) (last_count p (count p (take i l)) (get_or l i d))

  last_sum : (f : A → ℕ) (n : ℕ) (a : A) → n + sum f (a ∷ []) ≡ n + f a
  unfolding sum
  last_sum f n a = omega arith

  pub sum_next : (f : A → ℕ) (l : List A) (i : ℕ) (d : A) → i < length l → sum f (take (i + 1) l) ≡ sum f (take i l) + f (get_or l i d)
  sum_next f l i d h = rw (add-one i, take-suc l i d, sum_append) (last_sum f (sum f (take i l)) (get_or l i d))

-- ---- each in turn
module _ {A B : Type 0} where
  pub fold_append : (f : B → A → B) (b : B) (l m : List A) → fold f b (l ++ m) ≡ fold f (fold f b l) m
  unfolding fold
  fold_append f b [] m = refl
  fold_append f b (a ∷ l) m = fold_append f (f b a) l m

  -- a turn and the end of a loop whose invariant is `fold f s (drop i l) ≡ z`
  pub fold_next : (f : B → A → B) (l : List A) (i : ℕ) (d : A) (s s' z : B) → i < length l → s' ≡ f s (get_or l i d) → fold f s (drop i l) ≡ z → fold f s' (drop (i + 1) l) ≡ z
  unfolding fold
  fold_next f l i d s s' z h e inv =
      ap (λ (b : B). fold f b (drop (i + 1) l)) e ∙ ap (λ (n : ℕ). fold f (f s (get_or l i d)) (drop n l)) (add-one i) ∙ sym (ap (fold f s) (drop-cons l i d h)) ∙ inv

  pub fold_end : (f : B → A → B) (l : List A) (i : ℕ) (s z : B) → length l ≤ i → fold f s (drop i l) ≡ z → s ≡ z
  unfolding fold
  fold_end f l i s z h inv = sym (ap (fold f s) (drop_of_length-le l h)) ∙ inv

  -- what every turn keeps
  pub fold_keeps : (P : B → Type 0) (f : B → A → B) → ((b : B) (a : A) → P b → P (f b a)) → (b : B) (l : List A) → P b → P (fold f b l)
  unfolding fold
  fold_keeps P f h b [] p = p
  fold_keeps P f h b (a ∷ l) p = fold_keeps P f h (f b a) l (h b a p)

  pub count_map : (p : B → Bool) (f : A → B) (l : List A) → count p (map f l) ≡ count (λ a. p (f a)) l
  unfolding count
  count_map p f [] = refl
  count_map p f (a ∷ l) = rw (count_map p f l)

  keep_map_head : (b : Bool) (f : A → B) (a : A) (l : List A) → cond b (f a ∷ map f l) (map f l) ≡ map f (cond b (a ∷ l) l)
  keep_map_head true f a l = refl
  keep_map_head false f a l = refl

  pub keep_map : (p : B → Bool) (f : A → B) (l : List A) → keep p (map f l) ≡ map f (keep (λ a. p (f a)) l)
  unfolding keep
  keep_map p f [] = refl
  keep_map p f (a ∷ l) = rw (keep_map p f l) (keep_map_head (p (f a)) f a (keep (λ x. p (f x)) l))

  pub map_append : (f : A → B) (l m : List A) → map f (l ++ m) ≡ map f l ++ map f m
  map_append f [] m = refl
  map_append f (a ∷ l) m = ap (λ (t : List B). f a ∷ t) (map_append f l m)

  -- an element of a map, whatever stands past the end
  pub get_d_map : (f : A → B) (l : List A) (i : ℕ) (d : A) (e : B) → i < length l → get_or (map f l) i e ≡ f (get_or l i d)
  get_d_map f [] i d e h = absurd (omega arith)
  get_d_map f (a ∷ l) zero d e h = refl
  get_d_map f (a ∷ l) (suc i) d e h = get_d_map f l i d e (omega arith)

  pub map_cong : (f g : A → B) (l : List A) → ((a : A) → f a ≡ g a) → map f l ≡ map g l
  map_cong f g [] h = refl
  map_cong f g (a ∷ l) h = rw (h a, map_cong f g l h)

pub fold_map : {A B C : Type 0} (g : C → B → C) (f : A → B) (c : C) (l : List A) → fold g c (map f l) ≡ fold (λ x a. g x (f a)) c l
unfolding fold
fold_map g f c [] = refl
fold_map g f c (a ∷ l) = fold_map g f (g c (f a)) l

-- ---- i, i + 1, ..
pub length_numbers : (i n : ℕ) → length (numbers i n) ≡ n
unfolding numbers
length_numbers i zero = refl
length_numbers i (suc n) = ap suc (length_numbers (suc i) n)

pub get_d_numbers : (i n k d : ℕ) → k < n → get_or (numbers i n) k d ≡ i + k
unfolding numbers
get_d_numbers i zero k d h = absurd (omega arith)
get_d_numbers i (suc n) zero d h = omega arith
get_d_numbers i (suc n) (suc k) d h = let e : get_or (numbers (suc i) n) k d ≡ suc i + k = get_d_numbers (suc i) n k d (omega arith) in omega arith

pub numbers_append : (i m n : ℕ) → numbers i (m + n) ≡ numbers i m ++ numbers (i + m) n
unfolding numbers
numbers_append i zero n =
    let e : 0 + n ≡ n = omega arith in
    let g : i + 0 ≡ i = omega arith in
    rw (e, g)
numbers_append i (suc m) n =
    let e : suc m + n ≡ suc (m + n) = omega arith in
    let g : i + suc m ≡ suc i + m = omega arith in
    rw (e, g) (ap (λ (l : List ℕ). i ∷ l) (numbers_append (suc i) m n))

pub numbers_more : (i n : ℕ) → numbers i (n + 1) ≡ numbers i n ++ ((i + n) ∷ [])
unfolding numbers
numbers_more i n = numbers_append i n 1

-- a test of all so far, and of one number more
pub every_numbers : (p : ℕ → Bool) (i n : ℕ) → every p (numbers i (n + 1)) ≡ (every p (numbers i n) && p (i + n))
unfolding every
every_numbers p i n = rw (numbers_more i n, every_append, and-true)

-- of map
pub every_map : {A B : Type 0} (p : B → Bool) (f : A → B) (l : List A) → every p (map f l) ≡ every (λ a. p (f a)) l
unfolding every
every_map p f [] = refl
every_map p f (a ∷ l) = rw (every_map p f l)
