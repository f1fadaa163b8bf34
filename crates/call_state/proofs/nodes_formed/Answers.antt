-- `call_state::nodes_formed` meets its contract. Assumes nothing.
use Rattle.std.specs.Prelude.{◌≡◌}
use Rattle.whole.specs.Plain.{pos, arith}
use mir.Facts.{to_z_pos}
use mir.Syntax.{w64}
use mir.Val.{to_z}
use Rattle.call_state.specs.Judged.{nodes_formed}
use Rattle.call_state.proofs.nodes_formed.Goals as goal

pub returns : goal.returns
unfolding nodes_formed
returns c =
    let s : to_z w64 c.args.steps ≡ pos c.args.steps = to_z_pos w64 (omega arith) in
    rw (c.section-volts.ensures, c.section-peaks.ensures, c.section-their_steps.ensures, s)
