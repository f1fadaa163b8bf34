-- `num_cosine::cosine` meets its contract: an entry and its negative fit a word. Assumes nothing.
use Rattle.std.specs.Prelude.{◌≤◌, ◌^◌, ◌≡◌, ◌-ℤ◌}
use Rattle.whole.specs.Plain.{◌∙◌, ap, ℕ, ℤ, pos, neg_ℤ, +ℤ_idl, arith}
use mir.Syntax.{w64}
use mir.Val.{SFits, to_z, of_z}
use mir.Facts.{to_z-of_z, to_z_pos}
use Rattle.whole.specs.Int.{fits64, abs_sub_le}
use Rattle.num_cosine.specs.Quarter.{entry}
use Rattle.num_cosine.proofs.Entries.{entry_most}
use Rattle.num_cosine.specs.Cosine.{in_quarter, past_quarter}
use Rattle.num_cosine.proofs.cosine.Goals as goal

module _ {n : ℕ} (j : ℕ) (e : n ≡ entry j) where
  small : n ≤ 2 ^ 30
  small = rw e (entry_most j)

  read : to_z w64 n ≡ pos n
  read = to_z_pos w64 (omega (arith, small))

  negative_fits : SFits w64 (pos 0 -ℤ to_z w64 n)
  negative_fits = rw read (fits64 (pos 0 -ℤ pos n) (omega (arith, small, abs_sub_le (pos 0) (pos n) {m = 0} {n = n} (omega arith) (omega arith))))

  negative-is : to_z w64 (of_z w64 (pos 0 -ℤ to_z w64 n)) ≡ neg_ℤ (pos (entry j))
  negative-is = to_z-of_z negative_fits ∙ ap (λ (x : ℤ). pos 0 -ℤ x) read ∙ +ℤ_idl (neg_ℤ (pos n)) ∙ ap (λ (m : ℕ). neg_ℤ (pos m)) e

pub returns-then-j-le256 : goal.returns-then-j-le256
returns-then-j-le256 c =
    let found = c.quarter_at-size.ensures ∙ ap entry c.in_quarter.ensures.1 in
    read _ found ∙ ap pos found ∙ in_quarter _ c.if-j-le256.true ∙ c.in_half-j.ensures.1

pub returns : goal.returns
returns c = negative-is _ (c.quarter_at-size.ensures ∙ ap entry c.in_quarter.ensures.1) ∙ past_quarter _ c.if-j-le256.false ∙ c.in_half-j.ensures.1

pub overflow_sub-result : goal.overflow_sub-result
overflow_sub-result c = negative_fits _ (c.quarter_at-size.ensures ∙ ap entry c.in_quarter.ensures.1)
