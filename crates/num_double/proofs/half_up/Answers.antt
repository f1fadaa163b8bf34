-- Assumes nothing.
use Rattle.std.specs.Prelude.{◌+◌, ◌/◌}
use Rattle.whole.specs.Plain.{ℕ, sym, subst, ap, ◌∙◌, T, lit≤, arith}
use lib.Ieee.{add, binary64}
use lib.Ieee.Positive.{num, den, den_pos}
use Rattle.paper.specs.Limits.{voltage_end}
use Rattle.num_double.proofs.Doubled.{Cut, whole_cut, halved}
use Rattle.num_double.proofs.half_up.Goals as goal

got : (c : goal.Start) → Cut (add binary64 c.args.y c.args.y) voltage_end (num c.args.y) (den c.args.y)
got c = whole_cut voltage_end (lit≤ tt) c.args.y (subst T (sym c.well_formed.0.1) tt) c.requires

pub truncating_f64_to_u64-requires : goal.truncating_f64_to_u64-requires
truncating_f64_to_u64-requires c = record { lower_bound = (got c).over; upper_bound = (got c).under }

pub overflow_add-result : goal.overflow_add-result
overflow_add-result c = omega (arith, (got c.before).small)

pub returns : goal.returns
returns c =
    let y = c.args.y in
    (ap (λ (n : ℕ). (n + 1) / 2) (c.truncating_f64_to_u64.ensures ∙ (got c.before).is) ∙ halved (num y) (den y) (den_pos y), omega (arith, (got c.before).small))
