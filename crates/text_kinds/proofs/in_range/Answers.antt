-- `text_kinds::in_range` meets its contract: from the i-th field on. Assumes nothing.
use Rattle.std.specs.Prelude.{◌+◌, ◌≡◌}
use Rattle.whole.specs.Plain.{ℕ, refl, true, false, ◌∙◌, sym, Bool, List, ℤ, get_or, arith, between, word, z}
use Rattle.std.proofs.Math.Nat.{sub-zero}
use Rattle.std.specs.Int.{w64}
use Rattle.std.proofs.Common.{SFits, to_z, of_z, to_z-of_z, rules}
use Rattle.paper.specs.Kinds.{number, number_few}
use Rattle.text_kinds.specs.declared.Range.{Range}
use Rattle.text_kinds.specs.Table.{low, high, range_at, ranges_of, ranges_count, in_range, first_here, first_next, first_done}
use Rattle.text_kinds.specs.Fields.{fields_few}
use Rattle.text_kinds.proofs.in_range.Goals as goal

-- the test of a turn
tested : (k i : ℕ) (rs : List Range) (x : ℤ) → SFits w64 x → {t : Bool} → rs ≡ ranges_of k
    → t ≡ between (get_or rs i (record { low = z; high = z })).low (get_or rs i (record { low = z; high = z })).high (to_z w64 (of_z w64 x)) → (u : Bool) → t ≡ u → between (low k i) (high k i) x ≡ u
tested k i rs x f e r u h = rw (e, range_at k i, to_z-of_z f) at (sym r ∙ h)

pub loop-i-init : goal.loop-i-init
unfolding in_range
loop-i-init c = rw (c.ranges-all.ensures, ranges_count (number c.args.kind), sub-zero) (fields_few (number c.args.kind) (number_few c.args.kind), refl)

pub returns-then-not-holds : goal.returns-then-not-holds
returns-then-not-holds c =
    let e : between _ _ (word c.args.row (1 + c.loop-i.i)) ≡ false = tested (number c.args.kind) c.loop-i.i _ (word c.args.row (1 + c.loop-i.i)) (search rules) c.ranges-all.ensures c.holds.ensures false c.if-not-holds.true in
    sym (first_here _ _ _ _ c.loop-i-test.true e) ∙ c.loop-i.invariant.1

pub loop-i-preserved : goal.loop-i-preserved
loop-i-preserved c =
    let e : between _ _ (word c.args.row (1 + c.loop-i.i)) ≡ true = tested (number c.args.kind) c.loop-i.i _ (word c.args.row (1 + c.loop-i.i)) (search rules) c.ranges-all.ensures c.holds.ensures true c.if-not-holds.false in
    (c.loop-i.invariant.0, sym (first_next _ _ _ _ c.loop-i-test.true e) ∙ c.loop-i.invariant.1)

pub returns : goal.returns
returns c = let v = c.loop-i.invariant in sym (first_done _ _ _ _ (omega arith) c.loop-i-test.false) ∙ v.1
