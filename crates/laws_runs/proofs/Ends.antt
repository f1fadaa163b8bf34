-- T-ends and T-reach: any two orders that go on until every area answers DONE, WAIT or one of 14 to 17 end alike; and an area that no chain of lines
-- ties to a stopped one has then taken all its steps. Assumes nothing.
use Rattle.std.specs.Prelude.{Err}
use Rattle.std.specs.Prelude.{◌≤◌, ◌<◌, ◌≡◌}
use Rattle.whole.specs.Plain.{ℕ, zero, suc, refl, sym, ◌∙◌, inl, inr, Bool, true, false, true≢false, List}
use Rattle.whole.specs.Plain.{length, zero-add, arith, Words}
use Rattle.std.proofs.Common.{le_antisymm}
use Rattle.paper.specs.Replies.{Advance}
use Rattle.paper.specs.declared.Refusal.TheVariants.{Done, Wait}
use Rattle.paper.specs.Answers.{accepted}
use Rattle.paper.specs.Rows.{is_line, from, to, steps}
use Rattle.paper.specs.Records.{count_at, count_of, end_of}
use Rattle.paper.proofs.Apart.{counts_in, end_most}
use Rattle.paper.specs.Advance.{Memory, advance_of}
use Rattle.laws_facts.specs.Nets.{row_at, area_of_lem}
use Rattle.laws_facts.proofs.Nets.{net_sound}
use Rattle.laws_order.specs.Calls as C
use Rattle.laws_order.specs.Orders as O
use Rattle.laws_local.specs.Sound.{Sound, sound}
use Rattle.laws_local.specs.Waits.{Behind}
use Rattle.laws_local.specs.Outcome.{StepRefusal}
use Rattle.laws_stays.specs.Formed.{Formed, formed}
use Rattle.laws_demands.specs.Said.{IsArea}
use Rattle.laws_demands.proofs.Exact.{exactly}
use Rattle.laws_runs.specs.Runs.{Lent, from_reset, accepts, taken}
use Rattle.laws_runs.specs.Moves.{Inv, moves, step_firm}
use Rattle.laws_runs.specs.Orders.{start_inv, run_inv, run_is, count_is, diamond, area_of_accepted}
use Rattle.laws_runs.proofs.Orders.{orders_agree}
use Rattle.laws_runs.specs.Received.{Side, from_side, toSide, area_at}
use Rattle.laws_runs.specs.Ends as Ends
use Rattle.laws_runs.specs.Ends.{Quits, all_taken, waiting, stopped, Tied, self, line}

quits_refused : (x : Advance) → Quits x → accepted x ≡ false
quits_refused x (all_taken e) = rw e
quits_refused x (waiting b e) = rw e
quits_refused x (stopped s) = (step_firm s).1

module _ (net : Words) (lent : Memory) (ok : Lent net lent) where
  open from_reset net lent use {N, start, at}

  abbrev answers : ℕ → List ℕ → Advance
  answers a w = (advance_of net a (at w)).answer

  abbrev Ended : List ℕ → Type 0
  Ended w = Ends.Ended net lent ok w

  no_more : (w : List ℕ) → Ended w → C.Full (moves net ok.network) (C.run (moves net ok.network) w start)
  no_more w h a = rw (run_is net lent ok w start) (go (accepted (answers a w)) refl)
    where
      go : (b : Bool) → accepted (answers a w) ≡ b → b ≡ false
      go true e = absurd (true≢false (sym e ∙ quits_refused (answers a w) (h a (area_of_accepted net lent ok a (at w) (run_inv net lent ok w) e))))
      go false e = refl

  -- "end with the same count in every area and the same records"
  pub ends_agree : (w v : List ℕ) → Ended w → Ended v
      → ((a : ℕ) → taken net a w start ≡ taken net a v start) × ((at w ≡ at v) × ((a : ℕ) → accepts net a w start ≡ accepts net a v start))
  ends_agree w v p q =
      let r = O.orders_end (moves net ok.network) (Inv net ok.network) (diamond net lent ok) w v start (start_inv net lent ok) (no_more w p) (no_more v q) in
      let c : (a : ℕ) → taken net a w start ≡ taken net a v start = λ a. sym (count_is net lent ok a w) ∙ r.0 a ∙ count_is net lent ok a v in
      (c, orders_agree net lent ok w v (λ a _. c a))

  -- ---- who has taken all steps

  abbrev count : ℕ → List ℕ → ℕ
  count a w = count_of (at w).records a

  f : Sound N
  f = sound N (net_sound net ok.network)

  is_area_lem : (s : Side) (i : ℕ) → is_line (row_at N i) ≡ true → IsArea N (area_at N s i)
  is_area_lem from_side i l = record { one = f.from_area i l; most = area_of_lem N (from (row_at N i)) }
  is_area_lem toSide i l = record { one = f.to_area i l; most = area_of_lem N (to (row_at N i)) }

  module _ (w : List ℕ) (ended : Ended w) (a : ℕ) (free : (x : ℕ) → Tied N a x → StepRefusal (answers x w) → ⊥) where
    -- "every area not stopped by 14 to 17 and not tied by a chain of lines to one that is has taken all its steps"
    pub takes_all : IsArea N a → count a w ≡ steps N.head
    takes_all o = le_antisymm most (down (suc (count a w)) a (omega arith) o self)
      where
        -- a waiting area has a line to one with a lower count; so down to one that has taken all its steps
        down : (n b : ℕ) → count b w < n → IsArea N b → Tied N a b → steps N.head ≤ count b w
        down zero b h o t = absurd (omega arith)
        down (suc n) b h o t = by (ended b o) (λ c l o' t'. down n c l o' t')
          where
            behind : (i : ℕ) → i < length N.rows → is_line (row_at N i) ≡ true → Behind N b (suc (count b w)) (at w).records i
                → ((c : ℕ) → count c w < n → IsArea N c → Tied N a c → steps N.head ≤ count c w) → steps N.head ≤ count b w
            behind i there l (inl p) more =
                let q = more (area_at N toSide i) (omega (arith, p.1, f.travels i l)) (is_area_lem toSide i l) (line from_side i t there l p.0) in omega (arith, p.1)
            behind i there l (inr p) more =
                let q = more (area_at N from_side i) (omega (arith, p.1, f.travels i l)) (is_area_lem from_side i l) (line toSide i t there l p.0) in omega (arith, p.1)

            by : Quits (answers b w) → ((c : ℕ) → count c w < n → IsArea N c → Tied N a c → steps N.head ≤ count c w) → steps N.head ≤ count b w
            by (all_taken e) more = ((exactly net b (at w) (Err Done)).0 e).2
            by (waiting r e) more = let q = ((exactly net b (at w) (Err (Wait r))).0 e).1 in behind q.row q.there q.line q.behind more
            by (stopped s) more = absurd (free b t s)

        g : Formed N (at w)
        g = formed N (at w) (run_inv net lent ok w).good

        most : count a w ≤ steps N.head
        most = let e : end_of N (count_at a) ≤ steps N.head = rw (zero-add (count_at a)) at (end_most N counts_in (count_at a) (omega (arith, o.one, o.most, f.areas))) in omega (arith, g.records (count_at a), e)
