-- `step_conduct::conduct_leg` meets its contract. Assumes nothing.
use Rattle.std.specs.Prelude.{◌≤◌, ◌≡◌}
use Rattle.whole.specs.Plain.{ap, ◌∙◌, ℤ, pos, arith, word}
use mir.Facts.{to_z_pos}
use mir.Syntax.{w64}
use Rattle.whole.specs.Int.{read64}
use Rattle.whole.specs.Size.{fits}
use Rattle.paper.specs.Records.{latch_at}
use Rattle.step_conduct.specs.Conducted.{row_of_wire, opening_at, conducts_of, conducted, conducts_most}
use Rattle.step_conduct.proofs.conduct_leg.Goals as goal
use Rattle.step_conduct.proofs.conduct_leg.Goals.{After-conducting}

g_is : (c : After-conducting) → c.conducting.result ≡ conducts_of c.args.k (opening_at c.args.plan.now c.args.records.now c.args.leg.now) (row_of_wire c.args.plan.now c.args.leg.now)
g_is c = rw (c.opening-opens.ensures, read64 (word c.args.records.now (latch_at c.args.leg.now.row)) c.opening-arg-1.given) at c.conducting.ensures

small : (c : After-conducting) → c.conducting.result ≤ 1000000000
small c = omega (arith, g_is c, conducts_most c.args.k (opening_at c.args.plan.now c.args.records.now c.args.leg.now) (row_of_wire c.args.plan.now c.args.leg.now), c.requires.leg_rated.g_end)

pub overflow_cast-leg : goal.overflow_cast-leg
overflow_cast-leg c = fits {m = 1000000000} (record { size = small c }) tt

pub returns-clause-leg_value : goal.returns-clause-leg_value
unfolding conducted
returns-clause-leg_value c =
    let t = c.before.before in
    ap (λ (x : ℤ). record t.args.leg.now { g = x }) (to_z_pos w64 {n = t.conducting.result} (omega (arith, small t)) ∙ ap pos (g_is t))
