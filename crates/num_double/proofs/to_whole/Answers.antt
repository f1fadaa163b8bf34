-- Assumes nothing.
use Rattle.std.specs.Prelude.{◌≤◌, ◌≡◌, ◌-ℤ◌}
use Rattle.whole.specs.Plain.{ℕ, zero, suc, sym, ap, ◌∙◌, ℤ, pos, neg_ℤ, +ℤ_idl, arith}
use Rattle.std.proofs.Common.{to_z-of_z, w64, SFits, to_z}
use lib.Ieee.{of_bits}
use mir.Facts.{to_z_pos}
use Rattle.paper.specs.Limits.{voltage_end}
use Rattle.num_double.proofs.Tests.{up_to, down_to, whole_up, whole_down}
use Rattle.num_double.proofs.to_whole.Goals as goal

read : (r : ℕ) → r ≤ voltage_end → to_z w64 r ≡ pos r
read r h = to_z_pos w64 (omega arith)

minus : (r : ℕ) → r ≤ voltage_end → pos 0 -ℤ to_z w64 r ≡ neg_ℤ (pos r)
minus r h = ap (λ (z : ℤ). pos 0 -ℤ z) (read r h) ∙ +ℤ_idl (neg_ℤ (pos r))

minus-fits : (r : ℕ) → r ≤ voltage_end → SFits w64 (neg_ℤ (pos r))
minus-fits zero h = record { sfits = omega arith }
minus-fits (suc r) h = record { sfits = omega arith }

pub half_up-requires : goal.half_up-requires
unfolding of_bits
half_up-requires c = down_to c.args.x c.if-x.true c.requires

pub overflow_sub-result : goal.overflow_sub-result
overflow_sub-result c = rw (minus _ c.half_up.ensures.1) (minus-fits _ c.half_up.ensures.1)

pub half_up-requires-else-x : goal.half_up-requires-else-x
unfolding of_bits
half_up-requires-else-x c = up_to c.args.x c.if-x.false c.requires

pub returns-then-x : goal.returns-then-x
unfolding of_bits
returns-then-x c =
    let s = c.before.before in
    rw (minus _ c.half_up.ensures.1, to_z-of_z (minus-fits _ c.half_up.ensures.1), c.half_up.ensures.0)
    (sym (whole_down s.args.x c.if-x.true))

pub returns-else-x : goal.returns-else-x
unfolding of_bits
returns-else-x c =
    let s = c.before.before in
    rw (read _ c.half_up-else-x.ensures.1, c.half_up-else-x.ensures.0) (sym (whole_up s.args.x c.if-x.false s.requires))
