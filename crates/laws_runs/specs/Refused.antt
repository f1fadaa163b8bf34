-- What a run is answered: never 8, 9 or 10; a refusal of 14 to 17 at the same step in every order; never 13 where an area has the fewest steps.
-- Assumes nothing.
use Rattle.std.specs.Prelude.{◌+◌, ◌≤◌, ◌≡◌, ◌≢◌, ◌&&◌, ◌∷◌}
use Rattle.whole.specs.Plain.{ℕ, suc, refl, sym, ap, ◌∙◌, subst, Bool, true, false, List, []}
use Rattle.whole.specs.Plain.{eqb, length, eqb-true, eqb-false, arith, Words, nat}
use Rattle.paper.specs.Replies.{Advance}
use Rattle.paper.specs.Limits as Limits
use Rattle.paper.specs.Answers.{accepted, advance_number}
use Rattle.paper.specs.Rows.{from, to}
use Rattle.paper.specs.Areas.{area_of}
use Rattle.paper.specs.Records.{count_at, count_of}
use Rattle.paper.specs.Advance.{Memory, Advanced, advance_of}
use Rattle.paper.proofs.Kept.{advance_refused}
use Rattle.paper.specs.Resetting.{fresh}
use Rattle.laws_facts.specs.Nets.{row_at, area_of_lem}
use Rattle.laws_facts.proofs.Nets.{net_sound}
use Rattle.laws_order.specs.Calls as C
use Rattle.laws_order.specs.Calls.{put}
use Rattle.laws_order.specs.Orders as O
use Rattle.laws_local.specs.Sound.{sound}
use Rattle.laws_local.specs.Waits.{Free, late_not}
use Rattle.laws_local.specs.Outcome.{step_of, StepRefusal, floating14, range15, unbalanced16, history17, no_area, done, waits, stops, takes, outcome}
use Rattle.laws_stays.specs.Stays.{zero_word}
use Rattle.laws_runs.specs.Runs.{Lent, from_reset, after, accepts, taken, firm}
use Rattle.laws_runs.specs.Moves.{Inv, called, keep, moves, took, moved, own_count, other_count, step_firm, free_firm}
use Rattle.laws_demands.specs.Said.{IsArea}
use Rattle.laws_runs.specs.Orders.{starts, start_inv, run_inv, run_is, count_is, diamond}

-- the numbers that a run is answered
pub record RunNumber (x : Advance) : Type 0 where
  pub not8 : advance_number x ≢ 8
  pub not9 : advance_number x ≢ 9
  pub not10 : advance_number x ≢ 10

step_number : {x : Advance} → StepRefusal x → RunNumber x
step_number floating14 = omega arith
step_number range15 = omega arith
step_number unbalanced16 = omega arith
step_number history17 = omega arith

module _ (net : Words) (lent : Memory) (ok : Lent net lent) where
  open from_reset net lent use {N, start, at}

  -- the next answer of area a after the calls of w
  abbrev answers : ℕ → List ℕ → Advance
  answers a w = (advance_of net a (at w)).answer

  -- no run from a reset gets 8, 9 or 10
  pub never_8_9_10 : (a : ℕ) (w : List ℕ) → RunNumber (answers a w)
  never_8_9_10 a w =
      let i = run_inv net lent ok w in
      subst RunNumber (sym (ap (λ (r : Advanced). r.answer) (called net ok.network a (at w) i)))
      (elim (outcome N a (at w) i.good) [
        | no_area e x ↦ rw x (omega arith)
        | done e d x ↦ rw x (omega arith)
        | waits r e d l x ↦ rw x (omega arith)
        | stops y s e d l v x ↦ rw x (step_number s)
        | takes e d l v x ↦ rw x (omega arith)
      ])

  -- T-refused-step: where area a is refused by 14 to 17 after w, no order takes it further; and in an order that has taken it as far it gets that
  -- same answer, its place too, unless it is told to wait
  pub refused_step : (a : ℕ) (w v : List ℕ) → StepRefusal (answers a w)
      → (taken net a v start ≤ taken net a w start) × (taken net a v start ≡ taken net a w start → firm (answers a v) ≡ true → answers a v ≡ answers a w)
  refused_step a w v s =
      let m = moves net ok.network in
      let d = diamond net lent ok in
      let j = start_inv net lent ok in
      let f : firm (advance_of net a (C.run m w start)).answer ≡ true = rw (run_is net lent ok w start) (step_firm s).0 in
      let r : accepted (advance_of net a (C.run m w start)).answer ≡ false = rw (run_is net lent ok w start) (step_firm s).1 in (
        rw (count_is net lent ok a v, count_is net lent ok a w) at (O.orders_stop m (Inv net ok.network) d a w v start j f r),
        λ l g.
            rw (run_is net lent ok v start, run_is net lent ok w start) at (O.orders_answer m (Inv net ok.network) d a w v start j
            (count_is net lent ok a w ∙ sym l ∙ sym (count_is net lent ok a v)) f (rw (run_is net lent ok v start) g)),
      )

  -- ---- the counts of the records are the counts of accepted advances

  abbrev count : ℕ → Memory → ℕ
  count a m = count_of m.records a

  counts_from : (a : ℕ) → IsArea N a → (w : List ℕ) (m : Memory) → Inv net ok.network m → count a (after net w m) ≡ count a m + taken net a w m
  unfolding after accepts
  counts_from a h [] m i = omega arith
  counts_from a h (c ∷ w) m i = counts_from a h w (advance_of net c m).after (keep net ok.network c m i) ∙ go (accepted (advance_of net c m).answer) (eqb a c) refl refl
    where
      most : a ≤ 32
      most = omega (arith, h.most, (sound N (net_sound net ok.network)).areas)

      go : (x y : Bool) → accepted (advance_of net c m).answer ≡ x → eqb a c ≡ y
          → count a (advance_of net c m).after + length (accepts net a w (advance_of net c m).after) ≡ count a m + length (put (x && y) (advance_of net c m).answer (accepts net a w (advance_of net c m).after))
      go true true e q =
          let z : count a (advance_of net c m).after ≡ suc (count a m) = rw (eqb-true a c q, moved net ok.network c m i e) (own_count net ok.network c m i (took net ok.network c m i e)) in
          omega arith
      go true false e q =
          let z : count a (advance_of net c m).after ≡ count a m = rw (moved net ok.network c m i e) (other_count net ok.network c m i (took net ok.network c m i e) a h.one most (λ p. eqb-false a c q (sym p))) in
          omega arith
      go false y e q = let z : count a (advance_of net c m).after ≡ count a m = ap (count a) (advance_refused net c m e) in omega arith

  pub counts_are : (a : ℕ) → IsArea N a → (w : List ℕ) → count a (at w) ≡ taken net a w start
  unfolding fresh
  counts_are a h w =
      let z : count a start ≡ 0 = ap (count a) (starts net lent ok) ∙ ap nat (zero_word Limits.record_words (count_at a)) in
      counts_from a h w start (start_inv net lent ok) ∙ omega arith

  -- T-fewest: an area that no other one is behind is never told to wait
  pub fewest : (a : ℕ) (w : List ℕ) → IsArea N a → ((b : ℕ) → IsArea N b → taken net a w start ≤ taken net b w start) → firm (answers a w) ≡ true
  fewest a w h least =
      let i = run_inv net lent ok w in
      let f = sound N (net_sound net ok.network) in
      let behind : (b : ℕ) → IsArea N b → count a (at w) ≤ count b (at w) = λ b g. rw (counts_are a h w, counts_are b g w) (least b g) in
      let free : Free N a (step_of N a (at w)) (at w).records = λ j l e. record {
        at_from = λ o. omega (arith, f.travels j e, behind (area_of N (to (row_at N j))) (record { one = f.to_area j e; most = area_of_lem N (to (row_at N j)) }));
        at_to = λ o. omega (arith, f.travels j e, behind (area_of N (from (row_at N j))) (record { one = f.from_area j e; most = area_of_lem N (from (row_at N j)) }));
      } in
      ap (λ (r : Advanced). firm r.answer) (called net ok.network a (at w) i) ∙ free_firm N a (at w) i.good (λ _ _. late_not N a (step_of N a (at w)) (at w).records free)
