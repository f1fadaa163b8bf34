-- `num_share::share` meets its contract: no part is more than the whole. Assumes nothing.
use Rattle.std.specs.Prelude.{◌*◌, ◌≤◌}
use Rattle.whole.specs.Plain.{le_trans, mul-le-mul_left, mul-le-mul_right, arith}
use Rattle.num_share.specs.Share.{share_is, share_steps, share_rest, share_most}
use Rattle.num_share.proofs.share.Goals as goal

pub nonzero_div-steps : goal.nonzero_div-steps
nonzero_div-steps c = omega (arith, c.requires.0.long)

pub nonzero_rem-rest : goal.nonzero_rem-rest
nonzero_rem-rest c = omega (arith, c.requires.0.long)

pub overflow_mul-result : goal.overflow_mul-result
overflow_mul-result c = record { fits = omega (arith, share_steps c.args.gap c.args.weight c.args.step c.requires.0.part, c.requires.1.0) }

square : (s : goal.Start) → s.args.step * s.args.step ≤ 1000000 * 1000000
square s = le_trans (mul-le-mul_left s.args.step s.requires.0.short) (mul-le-mul_right 1000000 s.requires.0.short)

pub overflow_mul-result-2 : goal.overflow_mul-result-2
overflow_mul-result-2 c = record { fits = omega (arith, share_rest c.args.gap c.args.weight c.args.step c.requires.0.long c.requires.0.part, square c) }

pub overflow_add-result : goal.overflow_add-result
overflow_add-result c = record { fits = omega (arith, share_rest c.args.gap c.args.weight c.args.step c.requires.0.long c.requires.0.part, square c, c.requires.0.short) }

pub nonzero_div-result : goal.nonzero_div-result
nonzero_div-result c = omega (arith, c.requires.0.long)

pub overflow_add-result-2 : goal.overflow_add-result-2
overflow_add-result-2 c =
    let a = c.args in
    record { fits = rw (share_is a.gap a.weight a.step a.more c.requires.0.long) (omega (arith, share_most a.gap a.weight a.step a.more c.requires.0.part c.requires.1.1, c.requires.1.0)) }

pub returns : goal.returns
returns c = share_is c.args.gap c.args.weight c.args.step c.args.more c.requires.0.long
