-- `step_received::sent` meets its contract. Assumes nothing.
use Rattle.std.specs.Prelude.{◌+◌, ◌-◌, ◌%◌, ◌≡◌}
use Rattle.std.proofs.Common.{rules}
use Rattle.whole.specs.Plain.{◌∙◌, ap, length, arith, word}
use Rattle.whole.specs.Int.{read64}
use Rattle.step_received.specs.Received.{heard_before, heard_after}
use Rattle.step_received.proofs.sent.Goals as goal

pub returns-then-k-d : goal.returns-then-k-d
returns-then-k-d c = let a = c.args in heard_before a.part.now 0 (length a.part.now) a.k a.d c.if-k-d.true

pub returns : goal.returns
returns c =
    let a = c.args in
    let s = (a.k - a.d) % length a.part.now in
    let e : s ≡ 0 + s = omega arith in
    read64 (word a.part.now s) (search rules) ∙ ap (word a.part.now) e ∙ heard_after a.part.now 0 (length a.part.now) a.k a.d c.if-k-d.false
