-- What is within the voltage range stays within it: a double that is rounded, and a list of small words into which one more is put. Assumes nothing.
use Rattle.whole.specs.Plain.{ℕ, zero, suc, refl, Bool, true, false, cond, false≢true, [], ℤ, pos}
use Rattle.whole.specs.Plain.{neg_ℤ, nat_abs, set, leb-true, Words, word}
use Rattle.std.specs.Prelude.{Float, ◌*◌, ◌≤◌, ◌≡◌, ◌∷◌}
use Rattle.std.specs.Float.{nan, inf, fin}
use Rattle.std.specs.Float.Ieee.{up, down}
use Rattle.std.specs.Float.Ieee.Fits.{down_pos}
use Rattle.whole.specs.Int.{abs_neg}
use Rattle.whole.specs.Rounding.{nearest, nearest_most}
use Rattle.paper.specs.Doubles.{in_range, whole_of}
use Rattle.paper.specs.Limits.{voltage_end}

signed_abs : (s : Bool) (n : ℕ) → nat_abs (cond s (neg_ℤ (pos n)) (pos n)) ≡ n
signed_abs true n = abs_neg (pos n)
signed_abs false n = refl

-- a voltage that is accepted is within the range as a whole number too
pub whole_most : (x : Float) → in_range x ≡ true → nat_abs (whole_of x) ≤ voltage_end
unfolding in_range whole_of
whole_most nan e = absurd (false≢true e)
whole_most (inf s) e = absurd (false≢true e)
whole_most (fin s m d) e = rw (signed_abs s (nearest (m * up d) (down d))) (nearest_most (m * up d) (down d) voltage_end (down_pos d) (leb-true (m * up d) (voltage_end * down d) e))

-- a word put into a list, place n looked at
pub set_end : (w : Words) (i n m : ℕ) (x : ℤ) → nat_abs x ≤ m → nat_abs (word w n) ≤ m → nat_abs (word (set w i x) n) ≤ m
set_end [] i n m x p q = q
set_end (y ∷ w) zero zero m x p q = p
set_end (y ∷ w) zero (suc n) m x p q = q
set_end (y ∷ w) (suc i) zero m x p q = q
set_end (y ∷ w) (suc i) (suc n) m x p q = set_end w i n m x p q
