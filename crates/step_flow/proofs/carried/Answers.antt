-- `step_flow::carried` meets its contract: current and echo share one product. Assumes nothing.
use Rattle.std.specs.Prelude.{◌+ℤ◌}
use Rattle.whole.specs.Plain.{arith, Words}
use mir.Syntax.{w64}
use mir.Val.{SFits}
use mir.Facts.{to_z-of_z}
use Rattle.whole.specs.Int.{read64}
use Rattle.whole.specs.Size.{fits}
use Rattle.paper.specs.Legs.{through, current, echo}
use Rattle.step_legs.specs.declared.Wire.{Wire}
use Rattle.step_legs.specs.Wires.{leg_of, Carries}
use Rattle.step_legs.specs.Shares.{Volts, through_size, current_size, echo_size}
use Rattle.step_flow.specs.Flown.{flown}
use Rattle.step_flow.proofs.carried.Goals as goal

-- each of the three, as the machine has them
module _ {l : Wire} {v : Words} (s : Carries l) (u : Volts v) where
  product : SFits w64 (through v (leg_of l))
  product = fits (through_size s.wired u) tt

  sum : SFits w64 (through v (leg_of l) +ℤ l.h)
  unfolding current
  sum = fits (current_size s u) tt

  sums : SFits w64 ((through v (leg_of l) +ℤ l.h) +ℤ through v (leg_of l))
  unfolding current echo
  sums = fits (echo_size s u) tt

pub overflow_add-current : goal.overflow_add-current
overflow_add-current c =
    let p = c.requires.0 in
    let u = c.requires.1 in
    rw c.through-gu.ensures (simp (to_z-of_z, product p u, fits p.h_end tt) (sum p u))

pub overflow_add-current-2 : goal.overflow_add-current-2
overflow_add-current-2 c =
    let p = c.requires.0 in
    let u = c.requires.1 in
    rw c.through-gu.ensures (simp (to_z-of_z, product p u, fits p.h_end tt, sum p u) (sums p u))

pub passed_on-passed-requires : goal.passed_on-passed-requires
unfolding current echo
passed_on-passed-requires c =
    let p = c.requires.0 in
    let u = c.requires.1 in
    rw c.through-gu.ensures (simp (to_z-of_z, product p u, fits p.h_end tt, sum p u, sums p u) (omega (arith, (echo_size p u).size)))

pub returns : goal.returns
unfolding flown current echo
returns c =
    let p = c.requires.0 in
    let u = c.requires.1 in
    rw (read64 c.passed_on-passed.result c.passed_on-passed.type_inv, c.passed_on-passed.ensures, c.through-gu.ensures)
    (simp (to_z-of_z, product p u, fits p.wired.g_end tt, fits p.h_end tt, sum p u, sums p u))
