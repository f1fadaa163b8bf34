-- `step_commit::put_legs` meets its contract: the legs that are left lead to the answer, in the records and in both stores, and no latch has changed where
-- none parted. Assumes nothing.
use Rattle.std.specs.Prelude.{◌+◌, ◌≤◌, ◌<◌, ◌≡◌}
use Rattle.whole.specs.Plain.{ℕ, refl, sym, ap, ◌∙◌, List, length, arith, Words, word, fold}
use Rattle.whole.specs.Folds.{fold_next, fold_end, or_left, or_right}
use Rattle.paper.specs.Records.{latch_at}
use Rattle.step_legs.specs.declared.Wire.{Wire}
use Rattle.step_legs.specs.Wires.{no_wire, wire_at}
use Rattle.step_records.specs.Records.{legs_put, leg_latches}
use Rattle.step_send.specs.Stores.{sent_by}
use Rattle.step_commit.proofs.put_legs.Invariants.{After}
use Rattle.step_commit.proofs.put_legs.Goals as goal

module _ {f : Words → Wire → Words} {legs : List Wire} {store₀ : Words} {j : ℕ} {store : Words} where
  more : {store' : Words} → j < length legs → length store' ≡ length store → store' ≡ f store (wire_at legs j) → After f legs store₀ j store → After f legs store₀ (j + 1) store'
  more {store'} h e g a = record { long = e ∙ a.long; left = fold_next f legs j no_wire store store' _ h g a.left }

  all : length legs ≤ j → After f legs store₀ j store → store ≡ fold f store₀ legs
  all h a = fold_end f legs j _ _ h a.left

pub loop-leg-init : goal.loop-leg-init
loop-leg-init c = record {
  put = record { long = refl; left = refl };
  unparted = record { latch = λ e i. refl };
  froms = record { long = refl; left = refl };
  tos = record { long = refl; left = refl };
}

pub put_leg-parted-requires : goal.put_leg-parted-requires
put_leg-parted-requires c =
    let p = c.requires in
    ((p.sendable.wires.wired c.loop-leg.leg-index (omega arith)).row_below, c.loop-leg.invariant.put.long ∙ p.records_len.0, p.records_len.1)

pub send_leg-requires : goal.send_leg-requires
send_leg-requires c =
    let p = c.requires.sendable in
    record {
      slotted = p.slotted c.loop-leg.leg-index (omega arith);
      froms_len = (c.loop-leg.invariant.froms.long ∙ p.froms_long, c.loop-leg.invariant.tos.long ∙ p.tos_long);
    }

pub loop-leg-preserved : goal.loop-leg-preserved
loop-leg-preserved c =
    let a = c.args in
    let w = wire_at a.legs.now c.loop-leg.leg-index in
    let h : c.loop-leg.leg-index < length a.legs.now = omega arith in
    let e = c.put_leg-parted.ensures in
    let v = c.loop-leg.invariant in
    record {
      put = more h c.put_leg-parted.auto.records e.records_value v.put;
      unparted = record {
        latch = λ f n.
            ap (λ (r : Words). word r (latch_at n)) e.records_value
            ∙ leg_latches a.plan.now a.k w c.loop-leg.records (c.requires.sendable.wires.wired c.loop-leg.leg-index h).row_below (sym e.value ∙ or_right c.loop-leg.parted c.put_leg-parted.result f) n
            ∙ v.unparted.latch (or_left c.loop-leg.parted c.put_leg-parted.result f) n;
      };
      froms = more h c.send_leg.auto.froms c.send_leg.ensures.froms_value v.froms;
      tos = more h c.send_leg.auto.tos c.send_leg.ensures.tos_value v.tos;
    }

pub returns : goal.returns
unfolding legs_put sent_by
returns c =
    let i = c.loop-leg.invariant in
    let h : length c.args.legs.now ≤ c.loop-leg.leg-index = omega arith in
    record { records_value = all h i.put; unparted = i.unparted; froms_value = all h i.froms; tos_value = all h i.tos }
