-- A number as it is shown, by its sign and magnitude. Assumes nothing.
use Rattle.std.specs.Prelude.{◌≡◌, ◌∷◌}
use Rattle.whole.specs.Plain.{refl, sym, ◌∙◌, true, false, true≢false, leb-zero, ℤ, pos, negsuc, nat_abs, le_z}
use Rattle.paper.specs.Text.{MINUS}
use Rattle.paper.specs.Listing.{shown_nat, shown}

pub shown_plain : (x : ℤ) → le_z (pos 0) x ≡ true → shown x ≡ shown_nat (nat_abs x)
unfolding shown
shown_plain (pos n) e = refl
shown_plain (negsuc n) e = absurd (true≢false (sym e))

pub shown_minus : (x : ℤ) → le_z (pos 0) x ≡ false → shown x ≡ MINUS ∷ shown_nat (nat_abs x)
unfolding shown
shown_minus (pos n) e = absurd (true≢false (sym (leb-zero n) ∙ e))
shown_minus (negsuc n) e = refl
