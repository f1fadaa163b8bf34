-- Laws of `filled`: a list filled up with d has the list's own places, and d past them. Assumes nothing.
use Rattle.std.specs.Prelude.{◌-◌, ◌≤◌, ◌<◌, ◌≡◌, ◌∷◌, ◌++◌}
use Rattle.whole.specs.Plain.{ℕ, zero, suc, refl, sym, ◌∙◌, List, [], length, get_or}
use Rattle.whole.specs.Plain.{set, replicate, length-append, length-replicate, length-set, get_or-append}
use Rattle.whole.specs.Plain.{set-append_left, arith, filled}

module _ {A : Type 0} where
  pub length_filled : (n : ℕ) (d : A) (l : List A) → length l ≤ n → length (filled n d l) ≡ n
  unfolding filled
  length_filled n d l h = length-append l (replicate (n - length l) d) ∙ rw length-replicate (omega arith)

  pub filled_least : (n : ℕ) (d : A) (l : List A) → length l ≤ length (filled n d l)
  unfolding filled
  filled_least n d l = simp (length-append, length-replicate) (omega arith)

  pub get_d_same : (m k : ℕ) (d : A) → get_or (replicate m d) k d ≡ d
  get_d_same zero k d = refl
  get_d_same (suc m) zero d = refl
  get_d_same (suc m) (suc k) d = get_d_same m k d

  get_d_after : (l : List A) (m k : ℕ) (d : A) → get_or (l ++ replicate m d) k d ≡ get_or l k d
  get_d_after [] m k d = get_d_same m k d
  get_d_after (a ∷ l) m zero d = refl
  get_d_after (a ∷ l) m (suc k) d = get_d_after l m k d

  -- read with d past the end, it is the list
  pub get_d_filled : (n : ℕ) (d : A) (l : List A) (k : ℕ) → get_or (filled n d l) k d ≡ get_or l k d
  unfolding filled
  get_d_filled n d l k = get_d_after l (n - length l) k d

  -- the list's own places, whatever is read past the end
  pub get_d_filled_in : (n : ℕ) (d : A) (l : List A) (k : ℕ) (e : A) → k < length l → get_or (filled n d l) k e ≡ get_or l k e
  unfolding filled
  get_d_filled_in n d l k e h = get_or-append l (replicate (n - length l) d) e k h

  pub set_filled : (n : ℕ) (d : A) (l : List A) (k : ℕ) (x : A) → k < length l → filled n d (set l k x) ≡ set (filled n d l) k x
  unfolding filled
  set_filled n d l k x h = rw (length-set l k x) (sym (set-append_left l (replicate (n - length l) d) k x h))
