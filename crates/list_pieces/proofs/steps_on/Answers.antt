-- `list_pieces::steps_on` meets its contract: of every network that the tables are of, step by step. Assumes nothing.
use Rattle.std.specs.Prelude.{ℕ, ◌+◌, ◌≤◌, ◌≡◌, List, Float}
use Rattle.whole.specs.Plain.{refl, ap, ◌∙◌, [], length, get_or-replicate, arith, Words}
use Rattle.paper.specs.Advance.{Memory}
use Rattle.plan_rows.specs.declared.Totals.{Totals}
use Rattle.list_digits.specs.Puts.{puts_length}
use Rattle.list_step.specs.Bounds.{done_short}
use Rattle.list_pieces.specs.Sofar.{sofar_more, sofar_over, sofar_done}
use Rattle.list_pieces.specs.Begun.{Begins, Along, all_steps, counts_in, taken_few, along_none, left, starts, ran, listable, turned_so, along_next}
use Rattle.list_pieces.proofs.steps_on.Goals as goal
use Rattle.plan_rows.specs.declared.Row.{Row}
use Rattle.plan_own.specs.declared.Own.{Own}
use Rattle.step_legs.specs.declared.Wire.{Wire}
use Rattle.step_legs.specs.declared.Source.{Source}

few : {net : Words} {plan : List Row} {owns : List Own} {totals : Totals} {legs : List Wire} {nodes : List ℕ} {sources : List Source} {m : Memory} → Begins net plan totals owns legs nodes sources m → totals.steps ≤ 1000000
few b = omega (arith, all_steps b, b.of.sound.study.steps_in.most)

-- the buffer is as long as it was, and has room for the last line
module _ {net : Words} {plan : List Row} {nodes : List ℕ} {sources : List Source} {m now : Memory} {out c : List ℕ} {owns : List Own} {legs : List Wire} {f : List (List Float)} {at k : ℕ}
    (a : Along net plan nodes sources m out owns legs f now at k c) where
  long : length c ≡ length out
  long = puts_length a.sofar.puts

  room : at + 32 ≤ length out
  room = a.sofar.room

pub steps_taken-taken-requires : goal.steps_taken-taken-requires
steps_taken-taken-requires c = counts_in c.requires.beginning.begins

pub loop-k-init : goal.loop-k-init
loop-k-init c =
    let e = c.steps_taken-taken.ensures in (
      rw e (taken_few c.requires.beginning.begins),
      λ net b. along_none b c.args.out.now _ (record { lines = refl; line = λ p h. ap length (get_or-replicate 32 p _ [] h) }) e c.requires.in_bounds,
    )

-- ---- the next step might not fit

pub overflow_sub-out : goal.overflow_sub-out
overflow_sub-out c = let a = c.loop-k.invariant.1 _ c.requires.beginning.begins in omega (arith, long a, room a)

pub returns-then-out-at-lt-STEP_BYTES : goal.returns-then-out-at-lt-STEP_BYTES
returns-then-out-at-lt-STEP_BYTES c =
    record {
      of = λ net b.
          let a = c.loop-k.invariant.1 net b in
          sofar_more net _ _ a.sofar (left b a c.loop-k-test.true) (omega (arith, c.if-out-at-lt-STEP_BYTES.true, long a));
    }

-- ---- a step

pub all_areas-round-requires : goal.all_areas-round-requires
all_areas-round-requires c =
    let b = c.requires.beginning.begins in
    record { net = _; starts = starts b (c.loop-k.invariant.1 _ b) c.loop-k-test.true c.step_of-step.ensures }

pub put_turn-at-requires : goal.put_turn-at-requires
put_turn-at-requires c =
    let b = c.requires.beginning.begins in
    let a = c.loop-k.invariant.1 _ b in
    let r = ran b a c.loop-k-test.true c.step_of-step.ensures c.all_areas-round.ensures in
    record {
      listable = listable b a c.loop-k-test.true r (c.all_areas-round.auto.records ∙ a.level.level.inv.long.records);
      at_in_bounds = omega (arith, long a, room a);
    }

pub returns-in-Err : goal.returns-in-Err
returns-in-Err c =
    record {
      of = λ net b.
          let a = c.loop-k.invariant.1 net b in
          let h = c.loop-k-test.true in
          let r = ran b a h c.step_of-step.ensures c.all_areas-round.ensures in
          sofar_over net _ _ a.sofar (left b a h) (omega (arith, long a, room a)) c.in-Err.is (turned_so b a h r (c.put_turn-at.ensures _ b.of));
    }

pub loop-k-preserved : goal.loop-k-preserved
loop-k-preserved c =
    let h = c.loop-k-test.true in (
      omega (arith, h),
      λ net b.
          let a = c.loop-k.invariant.1 net b in
          let r = ran b a h c.step_of-step.ensures c.all_areas-round.ensures in
          along_next b a h r (c.put_turn-at.ensures _ b.of) (omega (arith, long a, room a)) c.in_default.is,
    )

-- ---- all steps are taken

pub put_done-count-requires : goal.put_done-count-requires
put_done-count-requires c = let a = c.loop-k.invariant.1 _ c.requires.beginning.begins in omega (arith, room a, long a, done_short c.args.totals.steps)

pub returns : goal.returns
returns c =
    record {
      of = λ net b.
          let q = all_steps b in
          sofar_done net _ _ (c.loop-k.invariant.1 net b).sofar (rw q at c.loop-k-test.false) (rw q at c.put_done-count.ensures);
    }
