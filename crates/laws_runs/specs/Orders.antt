-- Demand 3: any two orders of calls, refused ones among them, with equal counts of accepted advances in every area, agree in everything. Assumes
-- nothing.
use Rattle.std.specs.Prelude.{◌≡◌, ◌&&◌, ◌∷◌}
use Rattle.whole.specs.Plain.{ℕ, refl, ap, true, false, List, [], eqb, length, eqb-true}
use Rattle.whole.specs.Plain.{dec_le, Words}
use Rattle.whole.specs.Folds.{and_left, and_right}
use Rattle.paper.specs.Answers.{accepted}
use Rattle.paper.specs.Areas.{area_count}
use Rattle.paper.specs.Advance.{Memory, advance_of}
use Rattle.paper.specs.Resetting.{fresh, Reset-out}
use Rattle.laws_order.specs.Same.{same}
use Rattle.laws_order.specs.Calls as C
use Rattle.laws_order.specs.Calls.{put}
use Rattle.laws_order.specs.Diamond.{Laws}
use Rattle.laws_order.specs.Local.{laws}
use Rattle.laws_local.specs.Outcome.{Outcome}
use Rattle.laws_local.specs.Outcome as Outcome
use Rattle.laws_stays.specs.Stays.{fresh_well}
use Rattle.laws_demands.specs.Said.{IsArea}
use Rattle.laws_demands.specs.States.{fresh_long, reset_is}
use Rattle.laws_runs.specs.Runs.{Lent, from_reset, after, accepts, taken}
use Rattle.laws_runs.specs.Moves.{Inv, called, keep, moves, local}

module _ (net : Words) (lent : Memory) (ok : Lent net lent) where
  open from_reset net lent use {N, start, at}

  -- "writes the records and both line stores all zero"
  pub starts : start ≡ fresh
  starts = ap (λ (r : Reset-out). r.after) (reset_is net lent ok.lengths ok.network)

  pub start_inv : Inv net ok.network start
  start_inv = rw starts (record { long = fresh_long; good = fresh_well N })

  inv_after : (w : List ℕ) (m : Memory) → Inv net ok.network m → Inv net ok.network (after net w m)
  unfolding after
  inv_after [] m i = i
  inv_after (a ∷ w) m i = inv_after w (advance_of net a m).after (keep net ok.network a m i)

  -- the state of a run is well formed, whatever was called
  pub run_inv : (w : List ℕ) → Inv net ok.network (at w)
  run_inv w = inv_after w start start_inv

  -- ---- the moves of a run

  pub run_is : (w : List ℕ) (m : Memory) → C.run (moves net ok.network) w m ≡ after net w m
  unfolding C.run after
  run_is [] m = refl
  run_is (a ∷ w) m = run_is w (advance_of net a m).after

  pub told_is : (a : ℕ) (w : List ℕ) (m : Memory) → C.told (moves net ok.network) a w m ≡ accepts net a w m
  unfolding C.told accepts same
  told_is a [] m = refl
  told_is a (c ∷ w) m = rw (told_is a w (advance_of net c m).after)

  pub count_is : (a : ℕ) (w : List ℕ) → C.count (moves net ok.network) a w start ≡ taken net a w start
  unfolding C.count
  count_is a w = ap length (told_is a w start)

  pub diamond : Laws (moves net ok.network) (Inv net ok.network)
  diamond = laws (moves net ok.network) (Inv net ok.network) (local net ok.network)

  -- ---- a number that names no area is never accepted

  pub area_of_accepted : (a : ℕ) (m : Memory) → Inv net ok.network m → accepted (advance_of net a m).answer ≡ true → IsArea N a
  area_of_accepted a m i e =
      let t = Outcome.taken N a m i.good (rw (called net ok.network a m i) at e) in
      record { one = t.one; most = t.most }

  none_accepted : (a : ℕ) (w : List ℕ) (m : Memory) → Inv net ok.network m → (IsArea N a → ⊥) → accepts net a w m ≡ []
  unfolding accepts
  none_accepted a [] m i h = refl
  none_accepted a (c ∷ w) m i h =
      let t = accepted (advance_of net c m).answer in
      rw (none_accepted a w (advance_of net c m).after (keep net ok.network c m i) h)
      (elim (t && eqb a c) as (λ x. t && eqb a c ≡ x → put x (advance_of net c m).answer [] ≡ [])
      [ true ↦ λ p. absurd (h (rw (eqb-true a c (and_right t (eqb a c) p)) (area_of_accepted c m i (and_left t (eqb a c) p)))) | false ↦ λ p. refl ] refl)

  pub same_counts : (w v : List ℕ) → ((a : ℕ) → IsArea N a → taken net a w start ≡ taken net a v start) → (a : ℕ) → taken net a w start ≡ taken net a v start
  same_counts w v h a =
      let none : (IsArea N a → ⊥) → taken net a w start ≡ taken net a v start = λ no. rw (none_accepted a w start start_inv no, none_accepted a v start start_inv no) in
      elim (dec_le 1 a) [
        | yes l ↦ elim (dec_le a (area_count N)) [ yes u ↦ h a (record { one = l; most = u }) | no u ↦ none (λ p. u p.most) ]
        | no l ↦ none (λ p. l p.one)
      ]
