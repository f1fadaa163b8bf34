-- `step_commit::put_legs` meets its contract: the legs that are left lead to the answer, in the records and in both stores, and no latch has changed where
-- none parted. Assumes nothing.
use Rattle.std.specs.Prelude.{◌≡◌}
use Rattle.whole.specs.Plain.{ℕ, List, length, drop, Words, fold}
use Rattle.step_legs.specs.declared.Wire.{Wire}
use Rattle.step_records.specs.Records.{leg_turn, Unparted}
use Rattle.step_send.specs.Stores.{is_from_end, is_to_end, leg_sent}
use Rattle.step_commit.proofs.put_legs.Given as goal

pub record After (f : Words → Wire → Words) (legs : List Wire) (store₀ : Words) (j : ℕ) (store : Words) : Type 0 where
  pub long : length store ≡ length store₀
  pub left : fold f store (drop j legs) ≡ fold f store₀ legs

abbrev pub invariant-loop-leg : goal.invariant-loop-leg
invariant-loop-leg l = record {
  put : After (leg_turn l.plan l.k) l.legs l.initial.records l.leg-index l.records;
  unparted : Unparted l.parted l.initial.records l.records;
  froms : After (leg_sent l.plan l.k is_from_end) l.legs l.initial.froms l.leg-index l.froms;
  tos : After (leg_sent l.plan l.k is_to_end) l.legs l.initial.tos l.leg-index l.tos;
}
