-- `step_solve::solve` meets its contract: the factors serve these right sides. Assumes nothing.
use Rattle.std.specs.Prelude.{◌≤◌}
use Rattle.whole.specs.Plain.{refl, length, arith, word}
use Rattle.step_legs.specs.Wires.{legs_in}
use Rattle.step_factors.specs.Proposed.{kept_proposed}
use Rattle.step_solve.specs.Rights.{near, right_at}
use Rattle.step_solve.proofs.solve.Goals as goal

pub right_sides-requires-clause-free : goal.right_sides-requires-clause-free
right_sides-requires-clause-free c = let p = c.requires.sized in (p.3, near p.0 p.1 p.2 c.draws-drawn.ensures)

pub put_all-requires : goal.put_all-requires
put_all-requires c = let f = c.requires.sized.3 in (f, omega (arith, f.few))

pub returns : goal.returns
returns c =
    let p = c.requires.sized in
    let a = c.args in
    let f = a.free.now in
    let r = c.right_sides.ensures in
    let few : length f ≤ 32 = p.3.few in
    let e =
    kept_proposed (legs_in a.legs.now) f a.v.now (λ q. word a.inject.now q) a.base (length f) (legs_in a.legs.now) a.a.now
    c.right_sides.new.b refl few c.requires.serves refl (omega (arith, r.long)) (right_at p.0 p.1 p.2 c.draws-drawn.ensures p.3 r)
    in
    rw e at (rw c.substitute.ensures at c.put_all.ensures)
