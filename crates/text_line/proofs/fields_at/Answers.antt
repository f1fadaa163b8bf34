use Rattle.std.proofs.lemmas.Result.{err_from_is_err_and}
use Rattle.std.specs.Prelude.{Result, Err, ◌<◌, ◌-◌, ◌+◌, ◌≡◌}
use Rattle.whole.specs.Plain.{ℕ, List, get_or, length, sym, ap, ◌∙◌, arith, z}
use Rattle.std.proofs.Math.Nat.{sub-zero}
use Rattle.paper.specs.Kinds.{number, number_few}
use Rattle.text_kinds.specs.declared.Range.{Range}
use Rattle.text_kinds.specs.Table.{ranges_of, ranges_count, range_at}
use Rattle.text_kinds.specs.Fields.{fields_few}
use Rattle.text_line.specs.declared.Walk.{Walk}
use Rattle.text_line.specs.Walks.{next, field_at, turn, field_in, fields_at, fields_from_at, fields_more, fields_done}
use Rattle.text_line.proofs.fields_at.Goals as goal

-- a field by its range in the table
this : (s : List ℕ) (k i : ℕ) (w : Walk) {rs : List Range} {o : Result Walk Walk} → rs ≡ ranges_of k → o ≡ field_at s (get_or rs i (record { low = z; high = z })).low i w → o ≡ turn s k i w
this s k i w e f = f ∙ ap (λ (rs : List Range). field_at s (get_or rs i (record { low = z; high = z })).low i w) e ∙ ap (λ (r : Range). field_at s r.low i w) (range_at k i)

pub loop-i-init : goal.loop-i-init
unfolding fields_at
loop-i-init c = (c.requires, rw (ranges_count (number c.args.kind), sub-zero))

pub field_at-requires : goal.field_at-requires
field_at-requires c =
    let e = ap length c.ranges-range-items.ensures in
    (omega (arith, e, ranges_count (number c.args.kind), fields_few (number c.args.kind) (number_few c.args.kind), c.loop-i-test.true), c.loop-i.invariant.0)

pub returns-in_err-walk : goal.returns-in_err-walk
returns-in_err-walk c =
    let s = c.args.text.now in
    let k = number c.args.kind in
    let i = c.loop-i.i in
    let h : i < length (ranges_of k) = omega (arith, ap length c.ranges-range-items.ensures, c.loop-i-test.true) in
    let p = err_from_is_err_and c.from_residual.result c.from_residual.ensures.1 in
    p.1 ∙ ap Err p.2
    ∙ ap (λ (o : Result Walk Walk). next o (fields_from_at s k (length (ranges_of k) - (i + 1)) (i + 1))) (sym c.in_err-walk.was ∙ this s k i c.loop-i.walk c.ranges-range-items.ensures c.field_at.ensures)
    ∙ sym (fields_more s k (length (ranges_of k)) i c.loop-i.walk h) ∙ c.loop-i.invariant.1

pub loop-i-preserved : goal.loop-i-preserved
loop-i-preserved c =
    let s = c.args.text.now in
    let k = number c.args.kind in
    let i = c.loop-i.i in
    let h : i < length (ranges_of k) = omega (arith, ap length c.ranges-range-items.ensures, c.loop-i-test.true) in (
      field_in s _ i c.loop-i.walk c.loop-i.invariant.0 (sym c.field_at.ensures ∙ c.in_ok-walk.was),
      ap (λ (o : Result Walk Walk). next o (fields_from_at s k (length (ranges_of k) - (i + 1)) (i + 1))) (sym c.in_ok-walk.was ∙ this s k i c.loop-i.walk c.ranges-range-items.ensures c.field_at.ensures)
          ∙ sym (fields_more s k (length (ranges_of k)) i c.loop-i.walk h) ∙ c.loop-i.invariant.1,
    )

pub returns : goal.returns
returns c =
    let k = number c.args.kind in
    sym (fields_done c.args.text.now k (length (ranges_of k)) c.loop-i.i c.loop-i.walk (omega (arith, ap length c.ranges-range-items.ensures, c.loop-i-test.false))) ∙ c.loop-i.invariant.1
