-- `call_network::is_network` meets its contract: a number of rows from 0 on, then the rows. Assumes nothing.
use Rattle.std.specs.Prelude.{◌≡◌, ◌<◌, ◌^◌}
use Rattle.std.specs.Int.{w64, FitsUnsignedBits}
use Rattle.std.proofs.Common.{to_z, of_z}
use Rattle.whole.specs.Plain.{ℕ, refl, sym, ap, ◌∙◌, true, ℤ, pos, negsuc, nat_abs, lt_z, mag, word, arith}
use Rattle.whole.specs.Int.{read64}
use Rattle.call_network.specs.Laws.{Sized}
use Rattle.call_network.specs.Refused.{negative_refused, more_refused, blank_refused}
use Rattle.call_network.proofs.is_network.Goals as goal

negative : (x : ℤ) → mag x < 2 ^ 63 → (FitsUnsignedBits 64 x → ⊥) → lt_z x (pos 0) ≡ true
negative (pos n) f h = absurd (h (omega arith))
negative (negsuc n) f h = refl

counted : (x : ℤ) {n : ℕ} → FitsUnsignedBits 64 x × (n ≡ nat_abs x) → x ≡ pos n
counted (pos k) h = ap pos (sym h.1)
counted (negsuc k) h = absurd h.0

count : (x : ℤ) {n : ℕ} → mag x < 2 ^ 63 → FitsUnsignedBits 64 (to_z w64 (of_z w64 x)) × (n ≡ nat_abs (to_z w64 (of_z w64 x))) → x ≡ pos n
count x f h = counted x (rw (read64 x f) at h)

pub returns-in_default : goal.returns-in_default
returns-in_default c =
    let x : ℤ = word c.args.net.now 3 in
    negative_refused c.args.net.now (negative x (omega arith) (rw (read64 x (omega arith)) at c.in_default.ensures))

pub returns-then-rows-gt-ROWS : goal.returns-then-rows-gt-ROWS
returns-then-rows-gt-ROWS c =
    let x : ℤ = word c.args.net.now 3 in
    more_refused c.args.net.now (rw (count x (omega arith) c.in-Ok.ensures) (omega arith))

pub returns-then-not-blank : goal.returns-then-not-blank
returns-then-not-blank c =
    let x : ℤ = word c.args.net.now 3 in
    let s : Sized c.args.net.now c.in-Ok.rows = record { long = omega arith; count = count x (omega arith) c.in-Ok.ensures; few = c.if-rows-gt-ROWS.false } in
    blank_refused c.args.net.now c.in-Ok.rows s (sym c.blank.ensures ∙ c.if-not-blank.true)

pub table_passes-requires : goal.table_passes-requires
table_passes-requires c =
    let x : ℤ = word c.args.net.now 3 in
    record {
      sized = record { long = omega arith; count = count x (omega arith) c.in-Ok.ensures; few = c.if-rows-gt-ROWS.false };
      rows_value = sym c.blank.ensures ∙ c.if-not-blank.false;
    }
