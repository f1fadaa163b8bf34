-- `step_conduct::next_change` meets its contract. Assumes nothing.
use Rattle.std.specs.Prelude.{◌≡◌}
use Rattle.whole.specs.Plain.{sym, ◌∙◌, false, true≢false, not-true, arith}
use Rattle.step_conduct.specs.Conducted.{switches}
use Rattle.step_conduct.proofs.next_change.Goals as goal

pub returns-then-not-is_switch : goal.returns-then-not-is_switch
returns-then-not-is_switch c =
    let n : switches c.args.r ≡ false = sym c.is_switch.ensures ∙ not-true _ c.if-not-is_switch.true-raw in
    record { most = omega arith; on = λ h. h; closes = λ e h. absurd (true≢false (sym e ∙ n)); opens = λ e h. absurd (true≢false (sym e ∙ n)) }

pub returns : goal.returns
returns c =
    let o = c.sooner.ensures in
    let s = c.sooner-closing.ensures in
    record {
      most = omega (arith, o.most, s.most);
      on = λ h. o.on (s.on h);
      closes = λ e h. omega (arith, o.most, s.before h);
      opens = λ e h. o.before h;
    }
