-- Turns that each write some words: what they leave, and what the last one to write a word puts there. Assumes nothing.
use Rattle.std.specs.Prelude.{◌+◌, ◌<◌, ◌≡◌, ◌≢◌, ◌∷◌}
use Rattle.whole.specs.Plain.{ℕ, zero, suc, refl, sym, ap, ◌∙◌, Bool, true, false, true≢false}
use Rattle.whole.specs.Plain.{[], ℤ, length, set, length-set, get_or-set_same, get_or-set_other, ℕ_discrete, arith}
use Rattle.whole.specs.Plain.{Words, z, word}
use Rattle.whole.specs.Turns.{turns}
use Rattle.whole.specs.TurnLaws.{turns_keeps, turns_join, turns_last}
use Rattle.paper.specs.Advance.{put_if}

pub put_length : (b : Bool) (w : Words) (i : ℕ) (x : ℤ) → length (put_if b w i x) ≡ length w
unfolding put_if
put_length true w i x = length-set w i x
put_length false w i x = refl

pub put_other : (b : Bool) (w : Words) (i j : ℕ) (x : ℤ) → (b ≡ true → j ≢ i) → word (put_if b w i x) j ≡ word w j
unfolding put_if
put_other true w i j x h = get_or-set_other w i j x z (h refl)
put_other false w i j x h = refl

pub put_same : (b : Bool) (w : Words) (i : ℕ) (x : ℤ) → b ≡ true → i < length w → word (put_if b w i x) i ≡ x
unfolding put_if
put_same true w i x e h = get_or-set_same w i x z h
put_same false w i x e h = absurd (true≢false (sym e))

-- a word that is out of reach stays 0 and a word that is put stays what it is: what a property of one word needs
pub put_with : (P : ℤ → Type 0) (b : Bool) (w : Words) (i j : ℕ) (x : ℤ) → P (word w j) → (b ≡ true → i ≡ j → P x) → P (word (put_if b w i x) j)
unfolding put_if
put_with P false w i j x p q = p
put_with P true w i j x p q = go (ℕ_discrete j i)
  where
    at : (w : Words) (i : ℕ) → P (word w i) → P x → P (word (set w i x) i)
    at [] i p q = p
    at (y ∷ w) zero p q = q
    at (y ∷ w) (suc i) p q = at w i p q

    go : Dec (j ≡ i) → P (word (set w i x) j)
    go (yes e) = rw e (at w i (rw e at p) (q refl (sym e)))
    go (no e) = rw (get_or-set_other w i j x z e) p

pub turns_length : (f : ℕ → Words → Words) (n : ℕ) → ((i : ℕ) (w : Words) → length (f i w) ≡ length w) → (w : Words) → length (turns 0 n f w) ≡ length w
turns_length f n h w = turns_keeps (λ (u : Words). length u ≡ length w) 0 n f (λ i u _ _ e. h i u ∙ e) w refl

pub turns_other : (f : ℕ → Words → Words) (n j : ℕ) → ((i : ℕ) (w : Words) → i < n → word (f i w) j ≡ word w j) → (w : Words) → word (turns 0 n f w) j ≡ word w j
turns_other f n j h w = turns_keeps (λ (u : Words). word u j ≡ word w j) 0 n f (λ i u _ l e. h i u l ∙ e) w refl

-- turn i puts x there, and no later one writes it
pub turns_put : (f : ℕ → Words → Words) (n i j : ℕ) (x : ℤ) (w : Words) → i < n → ((i : ℕ) (w : Words) → length (f i w) ≡ length w)
    → ((u : Words) → length u ≡ length w → word (f i u) j ≡ x) → ((m : ℕ) (u : Words) → i < m → m < n → word (f m u) j ≡ word u j) → word (turns 0 n f w) j ≡ x
turns_put f n i j x w h long here later =
    ap (λ (u : Words). word u j) (turns_join 0 (i + 1) n f w (omega arith) (omega arith))
    ∙ turns_keeps (λ (u : Words). word u j ≡ x) (i + 1) n f (λ m u l q e. later m u (omega arith) q ∙ e) (turns 0 (i + 1) f w)
    (ap (λ (u : Words). word u j) (turns_last 0 i f w (omega arith)) ∙ here (turns 0 i f w) (turns_length f i long w))
