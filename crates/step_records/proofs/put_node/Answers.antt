-- `step_records::put_node` meets its contract: the peak that it compares with is that of the records as they stand. Assumes nothing.
use Rattle.std.specs.Prelude.{◌+◌, ◌-◌, ◌≡◌}
use Rattle.whole.specs.Plain.{ap, ◌∙◌, ℤ, pos, nat_abs, length-set, set, arith, word}
use mir.Syntax.{w64}
use mir.Val.{SFits, to_z, of_z}
use mir.Facts.{to_z-of_z, to_z_pos}
use Rattle.whole.specs.Int.{read64}
use Rattle.paper.specs.Records.{outdone}
use Rattle.paper.specs.Advance.{put_if}
use Rattle.step_records.specs.Records.{node_put}
use Rattle.step_records.proofs.put_node.Goals as goal

reached : (x r : ℤ) → SFits w64 x → r ≡ pos (nat_abs (to_z w64 (of_z w64 x))) → r ≡ pos (nat_abs x)
reached x r f e = e ∙ ap (λ (y : ℤ). pos (nat_abs y)) (to_z-of_z f)

pub slice_copy_out-peak : goal.slice_copy_out-peak
slice_copy_out-peak c = simp length-set (omega arith)

pub bounds-records-n-then-k-peak : goal.bounds-records-n-then-k-peak
bounds-records-n-then-k-peak c = simp length-set (omega arith)

pub bounds-records-n-then-k-peak-2 : goal.bounds-records-n-then-k-peak-2
bounds-records-n-then-k-peak-2 c = simp length-set (omega arith)

pub returns-then-k-peak : goal.returns-then-k-peak
unfolding node_put put_if outdone
returns-then-k-peak c =
    let e = to_z-of_z c.ranges.x in
    let h = read64 c.abs-reached.result c.abs-reached.type_inv ∙ reached c.args.x c.abs-reached.result c.ranges.x c.abs-reached.ensures.value in
    let n : to_z w64 c.args.k ≡ pos c.args.k = to_z_pos w64 (omega arith) in
    let w = word (set c.args.records.now (32 + c.args.n - 1) c.args.x) (304 + c.args.n - 1) in
    let b = rw (e, h, read64 w (rw e at c.peak-1.given)) at c.if-k-peak.true in
    rw (e, h, n, b)

pub returns-else-k-peak : goal.returns-else-k-peak
unfolding node_put put_if outdone
returns-else-k-peak c =
    let e = to_z-of_z c.ranges.x in
    let h = read64 c.abs-reached.result c.abs-reached.type_inv ∙ reached c.args.x c.abs-reached.result c.ranges.x c.abs-reached.ensures.value in
    let w = word (set c.args.records.now (32 + c.args.n - 1) c.args.x) (304 + c.args.n - 1) in
    let b = rw (e, h, read64 w (rw e at c.peak-1.given)) at c.if-k-peak.false in
    rw (e, b)
