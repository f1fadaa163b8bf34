-- A text put four bytes at a time, some of them twice. Assumes nothing.
use Rattle.std.specs.Prelude.{◌+◌, ◌-◌, ◌≤◌, ◌<◌, ◌≡◌, ◌∷◌}
use Rattle.whole.specs.Plain.{ℕ, suc, refl, sym, ap, ◌∙◌, List, [], length}
use Rattle.whole.specs.Plain.{get_or, set, take, drop, length-take, sets, set-set, set_comm, drop-cons, take-add}
use Rattle.whole.specs.Plain.{length-take-le, get_or-take, arith}
use Rattle.list_digits.specs.Puts.{sets_append}

-- the four from j on
abbrev pub four_of : List ℕ → ℕ → List ℕ
four_of l j = get_or l j 0 ∷ get_or l (j + 1) 0 ∷ get_or l (j + 2) 0 ∷ get_or l (j + 3) 0 ∷ []

pub four_of_lem : (l : List ℕ) (j : ℕ) → j + 4 ≤ length l → four_of l j ≡ take 4 (drop j l)
four_of_lem l j h =
    let a : j + 1 ≡ suc j = omega arith in
    let b : j + 2 ≡ suc (suc j) = omega arith in
    let c : j + 3 ≡ suc (suc (suc j)) = omega arith in
    rw (a, b, c, drop-cons l j 0 (omega arith), drop-cons l (suc j) 0 (omega arith), drop-cons l (suc (suc j)) 0 (omega arith), drop-cons l (suc (suc (suc j))) 0 (omega arith))

pub four_of_take : (l : List ℕ) (n j : ℕ) → j + 4 ≤ n → four_of (take n l) j ≡ four_of l j
four_of_take l n j h =
    rw (get_or-take n l j 0 (omega arith), get_or-take n l (j + 1) 0 (omega arith), get_or-take n l (j + 2) 0 (omega arith), get_or-take n l (j + 3) 0 (omega arith))

-- ---- put twice

pub set_sets : (xs l : List ℕ) (p q v : ℕ) → p < q → set (sets l q xs) p v ≡ sets (set l p v) q xs
set_sets [] l p q v h = refl
set_sets (x ∷ xs) l p q v h =
    set_sets xs (set l q x) p (suc q) v (omega arith) ∙ ap (λ (m : List ℕ). sets m (suc q) xs) (set_comm l q p x v (λ e. omega arith))

sets_again : (xs ys l : List ℕ) (p : ℕ) → length xs ≤ length ys → sets (sets l p xs) p ys ≡ sets l p ys
sets_again [] ys l p h = refl
sets_again (x ∷ xs) [] l p h = absurd (omega arith)
sets_again (x ∷ xs) (y ∷ ys) l p h =
    ap (λ (m : List ℕ). sets m (suc p) ys) (set_sets xs (set l p x) p (suc p) y (omega arith))
    ∙ sets_again xs ys (set (set l p x) p y) (suc p) (omega arith)
    ∙ ap (λ (m : List ℕ). sets m (suc p) ys) (set-set l p x y)

-- k bytes of the text are put: four more from j on, not beyond what is put
pub sets_over : (t l : List ℕ) (at j k : ℕ) → j ≤ k → k ≤ j + 4 → j + 4 ≤ length t → sets (sets l at (take k t)) (at + j) (take 4 (drop j t)) ≡ sets l at (take (j + 4) t)
sets_over t l at j k a b h =
    let e : k ≡ j + (k - j) = omega arith in
    let n : length (take j t) ≡ j = length-take-le j t (omega arith) in
    let first : (m : ℕ) → sets l at (take (j + m) t) ≡ sets (sets l at (take j t)) (at + j) (take m (drop j t)) =
    λ m. ap (sets l at) (take-add j m t) ∙ sets_append (take j t) (take m (drop j t)) l at ∙ ap (λ (i : ℕ). sets (sets l at (take j t)) (at + i) (take m (drop j t))) n
    in
    ap (λ (m : List ℕ). sets m (at + j) (take 4 (drop j t))) (ap (λ (i : ℕ). sets l at (take i t)) e ∙ first (k - j))
    ∙ sets_again (take (k - j) (drop j t)) (take 4 (drop j t)) (sets l at (take j t)) (at + j)
    (omega (arith, length-take (k - j) (drop j t), length-take 4 (drop j t)))
    ∙ sym (first 4)
