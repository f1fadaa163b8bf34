-- `step_histories::held` meets its contract. Assumes nothing.
use Rattle.std.specs.Prelude.{◌≤◌, ◌≡◌, ◌-ℤ◌}
use Rattle.whole.specs.Plain.{ℤ, sym, ◌∙◌, nat_abs, neg_ℤ, +ℤ_idl, arith, z, word}
use mir.Syntax.{w64}
use mir.Val.{SFits}
use mir.Facts.{to_z-of_z}
use Rattle.whole.specs.Int.{abs_neg, fits64}
use Rattle.paper.specs.Limits as Limits
use Rattle.paper.specs.Records as Records
use Rattle.step_legs.specs.Side.{from_is, to_is}
use Rattle.step_own.specs.Ends.{facing}
use Rattle.step_histories.proofs.held.Goals as goal

-- what is held, and its opposite, as the machine has them
module _ (h : ℤ) (b : nat_abs h ≤ Limits.history_end) where
  h_fits : SFits w64 h
  h_fits = fits64 h (omega arith)

  less : z -ℤ h ≡ neg_ℤ h
  less = +ℤ_idl (neg_ℤ h)

  less-fits : SFits w64 (z -ℤ h)
  less-fits = rw less (fits64 (neg_ℤ h) (omega (arith, abs_neg h)))

pub returns-in-From : goal.returns-in-From
unfolding facing
returns-in-From c =
    let h = word c.args.records.now (Records.history_at c.args.l.row) in
    rw (from_is c.args.l.end (sym c.side.ensures ∙ c.in-From.is)) (to_z-of_z (h_fits h c.requires.held_bound))

pub returns-in-To : goal.returns-in-To
unfolding facing
returns-in-To c =
    let h = word c.args.records.now (Records.history_at c.args.l.row) in
    let b = c.requires.held_bound in
    rw (to_is c.args.l.end (sym c.side.ensures ∙ c.in-To.is), to_z-of_z (h_fits h b), to_z-of_z (less-fits h b)) (less h b)
