-- `call_state::node_formed` meets its contract. Assumes nothing.
use Rattle.std.specs.Prelude.{◌+◌, ◌-◌}
use Rattle.whole.specs.Plain.{ℕ, ℤ, word}
use Rattle.whole.specs.Int.{read64}
use Rattle.call_state.specs.Judged.{peaked_by}
use Rattle.call_state.proofs.node_formed.Goals as goal

pub returns : goal.returns
unfolding peaked_by
returns c =
    let at : ℕ → ℤ = λ first. word c.args.records.now (first + c.args.n - 1) in
    rw (read64 (at 32) c.peak_formed-arg-1.given, read64 (at 304) c.peak_formed-arg-2-1.given, read64 (at 336) c.peak_formed-arg-3-1.given, c.count_of-count.ensures) at c.peak_formed.ensures
