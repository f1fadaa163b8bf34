-- A system that is called by area, and lists of calls, refused ones among them. Assumes nothing.
use Rattle.std.specs.Prelude.{ℕ, ◌≡◌, Bool, true, false, ◌&&◌, length}
use Rattle.std.proofs.Math.Path.{refl}
use Rattle.std.proofs.Common.{sym}
use mathlib.Core.List.{List, [], ◌∷◌, map}
use Rattle.laws_order.specs.Same.{same}

-- what is said of orders is said of these alone: the answer and the state after a call of area a, which answers are acceptances, and
-- which are `firm`: not to be changed by waiting
pub record Moves : Type 1 where
  pub S : Type 0
  pub Ans : Type 0
  pub call : ℕ → S → Ans
  pub after : ℕ → S → S
  pub acc : Ans → Bool
  pub firm : Ans → Bool

abbrev pub put : {A : Type 0} → Bool → A → List A → List A
put true x l = x ∷ l
put false x l = l

module _ (M : Moves) where
  open M use {S, Ans, call, after, acc, firm}

  -- the state after a list of calls, refused ones among them
  unfoldable pub run : List ℕ → S → S
  run [] s = s
  run (a ∷ w) s = run w (after a s)

  -- the accepted answers of area a, in order
  unfoldable pub told : ℕ → List ℕ → S → List Ans
  told a [] s = []
  told a (c ∷ w) s = put (acc (call c s) && same a c) (call c s) (told a w (after c s))

  -- every call is accepted
  abbrev pub Good : List ℕ → S → Type 0
  Good [] s = Unit {0}
  Good (a ∷ w) s = (acc (call a s) ≡ true) × Good w (after a s)

  unfoldable pub strip : List ℕ → S → List ℕ
  strip [] s = []
  strip (a ∷ w) s = put (acc (call a s)) a (strip w (after a s))

  unfoldable pub count : ℕ → List ℕ → S → ℕ
  count a w s = length (told a w s)

  -- no area is accepted
  abbrev pub Full : S → Type 0
  Full t = (a : ℕ) → acc (call a t) ≡ false

  abbrev pub Agree : List ℕ → List ℕ → S → Type 0
  Agree w v s = (run w s ≡ run v s) × ((a : ℕ) → told a w s ≡ told a v s)

-- ---- two systems that mirror each other: the same calls over records in another order
module _ (A B : Moves) (R : A.S → B.S → Type 0) (tell : A.Ans → B.Ans)
    (same-acc : (x : A.Ans) → B.acc (tell x) ≡ A.acc x)
    (same-call : (a : ℕ) (s : A.S) (t : B.S) → R s t → B.call a t ≡ tell (A.call a s))
    (same_after : (a : ℕ) (s : A.S) (t : B.S) → R s t → R (A.after a s) (B.after a t)) where
  pub mirror : (w : List ℕ) (s : A.S) (t : B.S) → R s t → R (run A w s) (run B w t)
  unfolding run
  mirror [] s t r = r
  mirror (a ∷ w) s t r = mirror w (A.after a s) (B.after a t) (same_after a s t r)

  map_put : (p : Bool) (x : A.Ans) (l : List A.Ans) → map tell (put p x l) ≡ put p (tell x) (map tell l)
  map_put true x l = refl
  map_put false x l = refl

  pub mirror_told : (b : ℕ) (w : List ℕ) (s : A.S) (t : B.S) → R s t → told B b w t ≡ map tell (told A b w s)
  unfolding told
  mirror_told b [] s t r = refl
  mirror_told b (a ∷ w) s t r =
      rw (same-call a s t r, same-acc, mirror_told b w (A.after a s) (B.after a t) (same_after a s t r)) (sym (map_put (A.acc (A.call a s) && same b a) _ _))
