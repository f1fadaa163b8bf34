-- The tests over many words: each magnitude at most its end, each sign; place by place and piece by piece. Assumes nothing.
use Rattle.std.specs.Prelude.{◌≤◌, ◌<◌, ◌≡◌, ◌∷◌}
use Rattle.whole.specs.Plain.{ℕ, zero, suc, refl, sym, ◌∙◌, Bool, true}
use Rattle.whole.specs.Plain.{List, [], leb, eqb-zero-suc, leb-suc-zero, ℤ, pos, negsuc}
use Rattle.whole.specs.Plain.{nat_abs, length, get_or, take, leb-true}
use Rattle.whole.specs.Plain.{le-leb, arith, Words, z, word, up_to, same, every, within}
use Rattle.whole.specs.Folds.{and_left, and_right, both}

-- a word without an end is one whose end is 0
pub none_same : (x : ℤ) → same z x ≡ up_to 0 x
unfolding same up_to
none_same (pos zero) = refl
none_same (pos (suc n)) = eqb-zero-suc n ∙ sym (leb-suc-zero n)
none_same (negsuc n) = sym (leb-suc-zero n)

-- each word's magnitude is at most its end, and a word without an end is 0: whether the words or the ends end first
pub within_at : (es : List ℕ) (w : Words) → within es w ≡ true → (j : ℕ) → nat_abs (word w j) ≤ get_or es j 0
unfolding within every up_to
within_at [] [] e j = omega arith
within_at [] (x ∷ w) e zero = leb-true (nat_abs x) 0 (sym (none_same x) ∙ and_left (same z x) _ e)
within_at [] (x ∷ w) e (suc j) = within_at [] w (and_right (same z x) _ e) j
within_at (n ∷ es) [] e j = omega arith
within_at (n ∷ es) (x ∷ w) e zero = leb-true (nat_abs x) n (and_left (leb (nat_abs x) n) _ e)
within_at (n ∷ es) (x ∷ w) e (suc j) = within_at es w (and_right (leb (nat_abs x) n) _ e) j

pub at_within : (es : List ℕ) (w : Words) → ((j : ℕ) → nat_abs (word w j) ≤ get_or es j 0) → within es w ≡ true
unfolding within every up_to
at_within [] [] h = refl
at_within [] (x ∷ w) h = both (none_same x ∙ le-leb (nat_abs x) 0 (h 0)) (at_within [] w (λ j. h (suc j)))
at_within (n ∷ es) [] h = refl
at_within (n ∷ es) (x ∷ w) h = both (le-leb (nat_abs x) n (h 0)) (at_within es w (λ j. h (suc j)))

-- the words before n
pub take_every : (p : ℤ → Bool) (n : ℕ) (w : Words) → every p (take n w) ≡ true → (j : ℕ) → j < n → j < length w → p (word w j) ≡ true
unfolding every
take_every p zero w e j h l = absurd (omega arith)
take_every p (suc n) [] e j h l = absurd (omega arith)
take_every p (suc n) (x ∷ w) e zero h l = and_left (p x) _ e
take_every p (suc n) (x ∷ w) e (suc j) h l = take_every p n w (and_right (p x) _ e) j (omega arith) (omega arith)

pub every_take : (p : ℤ → Bool) (n : ℕ) (w : Words) → ((j : ℕ) → j < n → j < length w → p (word w j) ≡ true) → every p (take n w) ≡ true
unfolding every
every_take p zero w h = refl
every_take p (suc n) [] h = refl
every_take p (suc n) (x ∷ w) h = both (h 0 (omega arith) (omega arith)) (every_take p n w (λ j l q. h (suc j) (omega arith) (omega arith)))
