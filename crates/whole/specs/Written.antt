-- Lists written place by place, and sums, counts and tests over the parts of a list that pass. Assumes nothing.
use Rattle.std.specs.Prelude.{◌+◌, ◌<◌, ◌≤◌, ◌≡◌, ◌&&◌, ◌||◌, ◌∷◌}
use Rattle.whole.specs.Plain.{ℕ, zero, suc, refl, sym, ap, ◌∙◌, Bool, true, false, cond}
use Rattle.whole.specs.Plain.{false≢true, List, [], eqb, ℤ, length, get_or, take, drop, set, length-set}
use Rattle.whole.specs.Plain.{take-append-drop, get_or-set_same, get_or-set_other, eqb-true, eqb-false, ne_eqb, arith}
use Rattle.whole.specs.Plain.{z, any, count, keep, total, fold, numbers}
use Rattle.whole.specs.Folds.{or_left, or_right, count_append}
use Rattle.whole.specs.Totals.{total_zero}

-- what is written at a place, and what at another
pub set_at : {A : Type 0} (l : List A) (i n : ℕ) (x d : A) → n < length l → get_or (set l i x) n d ≡ cond (eqb i n) x (get_or l n d)
set_at l i n x d h = elim (eqb i n) as (λ b. eqb i n ≡ b → get_or (set l i x) n d ≡ cond b x (get_or l n d)) [
  | true ↦ λ e. let q : i ≡ n = eqb-true i n e in rw q (get_or-set_same l n x d h)
  | false ↦ λ e. get_or-set_other l i n x d (λ q. eqb-false i n e (sym q))
] refl

module _ {A : Type 0} where
  pub total_none : (p : A → Bool) (f : A → ℤ) (l : List A) → any p l ≡ false → total (λ a. cond (p a) (f a) z) l ≡ z
  unfolding total any
  total_none p f [] e = refl
  total_none p f (a ∷ l) e = rw (or_left (p a) (any p l) e, total_none p f l (or_right (p a) (any p l) e))

  pub total_if : (b : Bool) (f : A → ℤ) (l : List A) → total (λ a. cond b (f a) z) l ≡ cond b (total f l) z
  total_if true f l = refl
  total_if false f l = total_zero (λ a. z) l (λ a. refl)

  pub count_take : (p : A → Bool) (l : List A) (i : ℕ) → count p (take i l) ≤ count p l
  count_take p l i = omega (arith, ap (count p) (take-append-drop i l), count_append p (take i l) (drop i l))

  pub count_imply : (p q : A → Bool) (l : List A) → ((a : A) → p a ≡ true → q a ≡ true) → count p l ≤ count q l
  unfolding count
  count_imply p q [] h = omega arith
  count_imply p q (a ∷ l) h = elim (p a) as (λ b. p a ≡ b → (c : Bool) → count p l ≤ count q l → cond b 1 0 + count p l ≤ cond (q a) 1 0 + count q l) [
    | true ↦ λ e c k. rw (h a e) (omega arith)
    | false ↦ λ e c k. omega arith
  ] refl (q a) (count_imply p q l h)

  -- a fold that writes, at each number that passes, what belongs there
  pub fold_set : (q : ℕ → Bool) (f : ℕ → A) (w : List A) (l : List ℕ) (n : ℕ) (d : A) → n < length w
      → get_or (fold (λ v m. cond (q m) (set v m (f m)) v) w l) n d ≡ cond (any (λ m. eqb m n) l && q n) (f n) (get_or w n d)
  unfolding fold any
  fold_set q f w [] n d h = refl
  fold_set q f w (m ∷ l) n d h = fold_set q f (cond (q m) (set w m (f m)) w) l n d (longer (q m)) ∙ by_place (eqb m n) refl
    where
      longer : (b : Bool) → n < length (cond b (set w m (f m)) w)
      longer true = rw (length-set w m (f m)) h
      longer false = h

      hit : (b c : Bool) → cond (c && b) (f n) (cond b (f n) (get_or w n d)) ≡ cond b (f n) (get_or w n d)
      hit true true = refl
      hit true false = refl
      hit false true = refl
      hit false false = refl

      other : (b : Bool) → (n ≡ m → ⊥) → get_or (cond b (set w m (f m)) w) n d ≡ get_or w n d
      other true g = get_or-set_other w m n (f m) d g
      other false g = refl

      by_place : (t : Bool) → eqb m n ≡ t
          → cond (any (λ m. eqb m n) l && q n) (f n) (get_or (cond (q m) (set w m (f m)) w) n d) ≡ cond ((t || any (λ m. eqb m n) l) && q n) (f n) (get_or w n d)
      by_place true e =
          let g : m ≡ n = eqb-true m n e in
          rw (g, (elim (q n) as (λ b. get_or (cond b (set w n (f n)) w) n d ≡ cond b (f n) (get_or w n d)) [ true ↦ get_or-set_same w n (f n) d h | false ↦ refl ])) (hit (q n) (any (λ m. eqb m n) l))
      by_place false e = rw (other (q m) (λ g. eqb-false m n e (sym g)))

-- whether a number is among those kept
pub kept_out : (p : ℕ → Bool) (l : List ℕ) (n : ℕ) → p n ≡ false → any (λ m. eqb m n) (keep p l) ≡ false
unfolding any keep
kept_out p [] n e = refl
kept_out p (m ∷ l) n e = by_test (p m) refl (kept_out p l n e)
  where
    by_test : (b : Bool) → p m ≡ b → any (λ m. eqb m n) (keep p l) ≡ false → any (λ m. eqb m n) (cond b (m ∷ keep p l) (keep p l)) ≡ false
    by_test true f r = rw (ne_eqb m n (λ g. absurd (apart (sym f ∙ ap p g ∙ e)))) r
      where
        apart : true ≡ false → ⊥
        apart g = let z : ◌≡◌ {A = ℕ} 0 1 = cc in omega arith
    by_test false f r = r

pub kept_in : (p : ℕ → Bool) (i k n : ℕ) → p n ≡ true → i ≤ n → n < i + k → any (λ m. eqb m n) (keep p (numbers i k)) ≡ true
unfolding any keep numbers
kept_in p i zero n e lo hi = absurd (omega arith)
kept_in p i (suc k) n e lo hi = by_place (eqb i n) refl (λ g. kept_in p (suc i) k n e g (omega arith))
  where
    later : (b : Bool) → any (λ m. eqb m n) (keep p (numbers (suc i) k)) ≡ true → any (λ m. eqb m n) (cond b (i ∷ keep p (numbers (suc i) k)) (keep p (numbers (suc i) k))) ≡ true
    later true r = rw r (elim (eqb i n) as (λ b. (b || true) ≡ true) [ true ↦ refl | false ↦ refl ])
    later false r = r

    by_place : (t : Bool) → eqb i n ≡ t → (i < n → any (λ m. eqb m n) (keep p (numbers (suc i) k)) ≡ true)
        → any (λ m. eqb m n) (cond (p i) (i ∷ keep p (numbers (suc i) k)) (keep p (numbers (suc i) k))) ≡ true
    by_place true f next =
        let g : i ≡ n = eqb-true i n f in
        rw (ap p g ∙ e, f)
    by_place false f next = later (p i) (next (let g : i ≡ n → ⊥ = eqb-false i n f in omega arith))

-- where one passes: its place
pub record Somewhere {A : Type 0} (p : A → Bool) (l : List A) (d : A) : Type 0 where
  pub place : ℕ
  pub within : place < length l
  pub passes : p (get_or l place d) ≡ true

pub some_at : {A : Type 0} (p : A → Bool) (l : List A) (d : A) → any p l ≡ true → Somewhere p l d
unfolding any
some_at p [] d e = absurd (false≢true e)
some_at p (a ∷ l) d e = elim (p a) as (λ b. p a ≡ b → (any p l ≡ true → Somewhere p l d) → Somewhere p (a ∷ l) d) [
  | true ↦ λ f next. record { place = 0; within = omega arith; passes = f }
  | false ↦ λ f next. let s = next (rw f at e) in record { place = suc s.place; within = omega (arith, s.within); passes = s.passes }
] refl (λ r. some_at p l d r)

-- what is kept twice, and by tests that agree
pub keep_keep : {A : Type 0} (p q : A → Bool) (l : List A) → keep p (keep q l) ≡ keep (λ a. q a && p a) l
unfolding keep
keep_keep p q [] = refl
keep_keep {A = A} p q (a ∷ l) = by_test (q a) ∙ ap (λ (r : List A). cond (q a && p a) (a ∷ r) r) (keep_keep p q l)
  where
    by_test : (b : Bool) → keep p (cond b (a ∷ keep q l) (keep q l)) ≡ cond (b && p a) (a ∷ keep p (keep q l)) (keep p (keep q l))
    by_test true = refl
    by_test false = refl
