-- `plan_lay::lay_legs` meets its contract: the ends of the rows passed are laid. Assumes nothing.
use Rattle.std.specs.Prelude.{◌+◌, ◌*◌, ◌≡◌}
use Rattle.whole.specs.Plain.{◌∙◌, arith}
use Rattle.plan_lay.specs.Grown.{Grown}
use Rattle.plan_lay.specs.Listed.{listed, gathered_none, gathered_room, gathered_more}
use Rattle.plan_lay.specs.Ends.{own_by, frame_by, own_at, frame_at}
use Rattle.plan_lay.proofs.lay_legs.Goals as goal
use Rattle.plan_lay.proofs.lay_legs.Goals.{After-lay_end-t}

pub loop-i-init : goal.loop-i-init
loop-i-init c = gathered_none _ _ 0 (omega (arith, c.requires.rows_in_bounds))

pub lay_end-t-requires : goal.lay_end-t-requires
lay_end-t-requires c =
    let i = c.loop-i.i in
    λ e. gathered_room _ _ 0 c.loop-i.invariant (omega arith) c.requires.rows_in_bounds (2 * i) (omega arith) (own_at c.args.plan.now i (2 * i) 1 (omega arith) (omega arith) c.args.a ∙ e)

from : (c : After-lay_end-t) → Grown c.args.legs.now c.args.m (listed (own_by c.args.plan.now c.args.a) (frame_by c.args.plan.now) 0 (2 * c.loop-i.i + 1)) c.lay_end-t.result c.lay_end-t.new.legs
from c =
    let i = c.loop-i.i in
    gathered_more _ _ 0 c.loop-i.invariant (omega arith) c.requires.rows_in_bounds (2 * i) (omega arith)
    (rw (own_at c.args.plan.now i (2 * i) 1 (omega arith) (omega arith) c.args.a, frame_at c.args.plan.now i (2 * i) 1 (omega arith) (omega arith)) c.lay_end-t.ensures)

pub lay_end-t-requires-in-loop-i : goal.lay_end-t-requires-in-loop-i
lay_end-t-requires-in-loop-i c =
    let i = c.loop-i.i in
    λ e. gathered_room _ _ 0 (from c.before.before) (omega arith) c.requires.rows_in_bounds (2 * i + 1) (omega arith) (own_at c.args.plan.now i (2 * i + 1) 2 (omega arith) (omega arith) c.args.a ∙ e)

pub loop-i-preserved : goal.loop-i-preserved
loop-i-preserved c =
    let i = c.loop-i.i in
    let e : 2 * i + 1 + 1 ≡ 2 * (i + 1) = omega arith in
    rw (← e)
    (gathered_more _ _ 0 (from c.before.before.before.before) (omega arith) c.requires.rows_in_bounds (2 * i + 1) (omega arith)
    (rw (own_at c.args.plan.now i (2 * i + 1) 2 (omega arith) (omega arith) c.args.a, frame_at c.args.plan.now i (2 * i + 1) 2 (omega arith) (omega arith)) c.lay_end-t-in-loop-i.ensures))

pub returns : goal.returns
returns c =
    let e : c.loop-i.i ≡ c.args.rows = omega arith in
    rw e at c.loop-i.invariant

pub shape_of-legs : goal.shape_of-legs
shape_of-legs c = c.loop-i.invariant.long
