-- `call_state::words_formed` meets its contract: each of the four words is held to the end that the row's kind gives it. Assumes nothing.
use Rattle.std.specs.Prelude.{◌≡◌}
use Rattle.whole.specs.Plain.{pos, arith}
use mir.Syntax.{w64}
use mir.Val.{to_z}
use mir.Facts.{to_z_pos}
use Rattle.call_state.specs.Judged.{words_formed}
use Rattle.call_state.proofs.words_formed.Goals as goal

pub returns : goal.returns
unfolding words_formed
returns c =
    let s : to_z w64 c.args.steps ≡ pos c.args.steps = to_z_pos w64 (omega arith) in
    rw (c.held-current.ensures, c.held-to_current.ensures, c.held-history.ensures, c.held-latch.ensures, c.is_branch-branch.ensures, s)
