-- `step_matrix::fill` meets its contract: the block of the first legs. Assumes nothing.
use Rattle.std.specs.Prelude.{◌<◌}
use Rattle.whole.specs.Plain.{ℕ, length, arith, List}
use mir.Syntax.{w64}
use mir.Val.{SFits}
use mir.Facts.{to_z-of_z}
use Rattle.whole.specs.Size.{fits}
use Rattle.step_legs.specs.declared.Wire.{Wire}
use Rattle.step_legs.specs.Wires.{wire_at, Wires}
use Rattle.step_matrix.specs.Exact.{in_float_lem}
use Rattle.step_matrix.specs.Block.{block_none, block_more, block_all}
use Rattle.step_matrix.proofs.fill.Goals as goal

g_fits : (legs : List Wire) (j : ℕ) → Wires legs → j < length legs → SFits w64 (wire_at legs j).g
g_fits legs j w h = fits (w.wired j h).g_end tt

pub loop-l-init : goal.loop-l-init
loop-l-init c = block_none c.args.legs.now c.requires.free_bound.0 c.clear.ensures

pub loop-l-preserved : goal.loop-l-preserved
loop-l-preserved c =
    let s = c.requires in
    let h : c.loop-l.l-index < length c.args.legs.now = omega arith in
    let g = g_fits _ _ s.wires.0 h in
    rw (simp (to_z-of_z, g) at c.join.ensures) (block_more s.wires.0 s.wires.1 s.wires.2 s.free_bound.0 c.loop-l.l-index h c.loop-l.invariant)

pub int_to_float-l : goal.int_to_float-l
int_to_float-l c =
    let w = c.requires.wires.0 in
    let h : c.loop-l.l-index < length c.args.legs.now = omega arith in
    let g = g_fits _ _ w h in
    simp (to_z-of_z, g) (in_float_lem _ (omega (arith, (w.wired c.loop-l.l-index h).g_end.size)))

pub returns : goal.returns
returns c = block_all c.args.legs.now _ (omega arith) c.clear.ensures c.loop-l.invariant
