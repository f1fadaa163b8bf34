-- A leg's history at a step: of a line's end what the far end sent, of another's what the records hold. Assumes nothing.
use Rattle.std.specs.Prelude.{◌+◌, ◌-◌, ◌%◌, ◌≤◌, ◌<◌, ◌≡◌}
use Rattle.whole.specs.Plain.{ℕ, refl, sym, ap, ◌∙◌, Bool, true, false, cond, List, map, eqb, ltb, ℤ, nat_abs, length}
use Rattle.whole.specs.Plain.{arith, Words, z, word}
use Rattle.whole.specs.Mixing.{mixed, mixed_none}
use Rattle.paper.specs.Limits as Limits
use Rattle.paper.specs.Records as Records
use Rattle.num_share.specs.Mixed.{Shared}
use Rattle.paper.specs.declared.Side.{Side}
use Rattle.paper.specs.declared.Side.TheVariants.{From, To}
use Rattle.paper.specs.Sides.{side_by}
use Rattle.step_received.specs.Received as Received
use Rattle.plan_rows.specs.declared.Row.{Row}
use Rattle.plan_rows.specs.Planned.{Plan, row_in}
use Rattle.step_legs.specs.declared.Wire.{Wire}
use Rattle.step_legs.specs.Wires.{wire_at, Wires}
use Rattle.step_legs.specs.Written.{SameBut, written_to, to_same, to_all}
use Rattle.step_own.specs.Ends.{facing, far_store, Kept}

-- a line's slots lie within the stores, more of them than its delay; and its rest is one of the step length
pub record Ring (r : Row) : Type 0 where
  pub some : r.delay < r.slots
  pub inside : r.place + r.slots ≤ Limits.store_words
  pub shared : Shared r.step r.rest

-- both stores, with values in their range
pub record Sent (froms tos : Words) : Type 0 where
  pub froms_long : length froms ≡ Limits.store_words
  pub tos_long : length tos ≡ Limits.store_words
  pub from_sent : (j : ℕ) → nat_abs (word froms j) ≤ Limits.history_end
  pub to_sent : (j : ℕ) → nat_abs (word tos j) ≤ Limits.history_end

pub kept_sent : {recs froms tos : Words} → Kept recs froms tos → Sent froms tos
kept_sent k = record { froms_long = k.froms_long; tos_long = k.tos_long; from_sent = k.from_sent; to_sent = k.to_sent }

-- the store that an end reads
pub far_is : (end : ℕ) (froms tos : Words) → Received.far_store (side_by end) froms tos ≡ far_store end froms tos
unfolding far_store
far_is end froms tos = by (eqb end 1)
  where
    by : (b : Bool) → Received.far_store (cond b From To) froms tos ≡ cond b tos froms
    by true = refl
    by false = refl

-- what the far end sent d steps before step k, "or 0 where k - d < 1"
unfoldable pub sent_by : Row → Side → Words → Words → ℕ → ℕ → ℤ
sent_by r side froms tos k d = Received.heard_from (Received.far_store side froms tos) r.place r.slots k d

pub sent_most : {froms tos : Words} → Sent froms tos → (r : Row) (side : Side) (k d : ℕ) → nat_abs (sent_by r side froms tos k d) ≤ Limits.history_end
unfolding sent_by Received.heard_from
sent_most {froms} {tos} s r side k d = by side (ltb 0 (k - d)) (r.place + (k - d) % r.slots)
  where
    by : (side : Side) (t : Bool) (j : ℕ) → nat_abs (cond t (word (Received.far_store side froms tos) j) z) ≤ Limits.history_end
    by From true j = s.to_sent j
    by To true j = s.from_sent j
    by side false j = omega arith

-- what an end receives at step k: of q and q + 1 steps before, as the rest has it
unfoldable pub received_by : Row → Side → Words → Words → ℕ → ℤ
received_by r side froms tos k = mixed r.step r.rest (sent_by r side froms tos k r.delay) (sent_by r side froms tos k (r.delay + 1))

-- where the rest is 0, only the first
pub received_whole : (r : Row) (side : Side) (froms tos : Words) (k : ℕ) → r.rest ≡ 0 → sent_by r side froms tos k r.delay ≡ received_by r side froms tos k
unfolding received_by
received_whole r side froms tos k e =
    let newer = sent_by r side froms tos k r.delay in
    let older = sent_by r side froms tos k (r.delay + 1) in
    sym (ap (λ (w : ℕ). mixed r.step w newer older) e ∙ mixed_none r.step newer older)

unfoldable pub history_of : Plan → Words → Words → Words → ℕ → Wire → ℤ
history_of plan recs froms tos k w =
    let r = row_in plan w.row in
    cond (eqb w.kind 4) (received_by r (side_by w.end) froms tos k) (facing w.end (word recs (Records.history_at w.row)))

-- a leg with its history
unfoldable pub heard_leg : Plan → Words → Words → Words → ℕ → Wire → Wire
heard_leg plan recs froms tos k w = record w { h = history_of plan recs froms tos k w }

-- all else of a leg stays
module _ (plan : Plan) (recs froms tos : Words) (k : ℕ) (legs : List Wire) where
  pub to_heard : (j : ℕ) → SameBut legs (written_to (heard_leg plan recs froms tos k) j legs)
  unfolding heard_leg
  to_heard j = to_same (heard_leg plan recs froms tos k) (λ w. refl) j legs

  pub all_heard : {after : List Wire} → after ≡ map (heard_leg plan recs froms tos k) legs → SameBut legs after
  all_heard e = rw (e, ← to_all (heard_leg plan recs froms tos k) legs) (to_heard (length legs))

-- what a pass over the legs goes by: the slots of each leg that is a line's end
pub record Hears (plan : Plan) (legs : List Wire) (recs froms tos : Words) : Type 0 where
  pub wires : Wires legs
  pub ring : (j : ℕ) → j < length legs → (wire_at legs j).kind ≡ 4 → Ring (row_in plan (wire_at legs j).row)
  pub kept : Kept recs froms tos
