-- T-received: what a line end hears at its area's accepted step k is what it receives of what the far end sent at its own accepted steps of that run:
-- at k - q, where the travel time lies between steps also at k - q - 1, and 0 before step 1; and there is one such step. Assumes nothing.
use Rattle.std.specs.Prelude.{Ok}
use Rattle.std.specs.Prelude.{◌+◌, ◌≤◌, ◌<◌, ◌≡◌, ◌⊎◌, ◌&&◌, ◌∷◌, ◌++◌}
use Rattle.whole.specs.Plain.{ℕ, suc, refl, sym, ap, ◌∙◌, inl, inr, Bool, true, false}
use Rattle.whole.specs.Plain.{List, [], eqb, length, eq-eqb, arith, Words, word}
use Rattle.paper.specs.Replies.{Advance}
use Rattle.paper.specs.Answers.{accepted}
use Rattle.paper.specs.Rows.{is_line}
use Rattle.paper.specs.Faults.{depth}
use Rattle.paper.specs.Records.{count_of, offset}
use Rattle.paper.specs.Legs as Legs
use Rattle.paper.specs.Advance.{Memory, Advanced, advance_of}
use Rattle.laws_facts.specs.Nets.{row_at}
use Rattle.laws_facts.proofs.Nets.{net_sound}
use Rattle.laws_facts.specs.Travels.{Reads}
use Rattle.laws_order.specs.Calls.{put}
use Rattle.laws_order.specs.Ring.{Holds, places}
use Rattle.laws_order.proofs.Ring.{holds_read}
use Rattle.laws_local.specs.Sound.{sound}
use Rattle.laws_local.specs.Slots.{delay_at, slot_of, line_slots}
use Rattle.laws_local.specs.Waits.{Allowed}
use Rattle.laws_local.proofs.Waits.{not_late}
use Rattle.laws_local.specs.Outcome.{step_of}
use Rattle.laws_stays.specs.Formed.{Formed, formed}
use Rattle.laws_runs.specs.Runs.{Lent, from_reset, after, accepts, taken}
use Rattle.laws_runs.specs.Moves.{took, call_is}
use Rattle.laws_demands.specs.Said.{IsArea}
use Rattle.laws_runs.specs.Orders.{run_inv, area_of_accepted}
use Rattle.laws_runs.specs.Refused.{counts_are}
use Rattle.laws_runs.specs.Received.{Side, from_side, toSide, far, store_of, area_at, StepIn, Sent, slots_hold}
use Rattle.laws_runs.specs.Heard.{Receives}

module _ (net : Words) (lent : Memory) (ok : Lent net lent) where
  open from_reset net lent use {N, start, at}

  abbrev count : ℕ → List ℕ → ℕ
  count a w = count_of (at w).records a

  took_accepted : (a : ℕ) (m : Memory) (k : ℕ) → (advance_of net a m).answer ≡ Ok k → accepted (advance_of net a m).answer ≡ true
  took_accepted a m k e = rw e

  -- an accepted step is the next one
  step_is : (a : ℕ) (w : List ℕ) (k : ℕ) → (advance_of net a (at w)).answer ≡ Ok k → k ≡ suc (count a w)
  step_is a w k e =
      let q : ◌≡◌ {A = Advance} (Ok k) (Ok (step_of N a (at w))) = sym e ∙ ap (λ (r : Advanced). r.answer) (call_is net ok.network a (at w) (run_inv net lent ok w) (took_accepted a (at w) k e)) in
      cc

  module _ (a : ℕ) (w : List ℕ) (k : ℕ) (e : (advance_of net a (at w)).answer ≡ Ok k) (i : ℕ) (there : i < length N.rows) (line : is_line (row_at N i) ≡ true) where
    abbrev d : ℕ
    d = delay_at N i

    free : Allowed N a (step_of N a (at w)) (at w).records i
    free = not_late N a (step_of N a (at w)) (at w).records (took net ok.network a (at w) (run_inv net lent ok w) (took_accepted a (at w) k e)).free i there line

    form : Formed N (at w)
    form = formed N (at w) (run_inv net lent ok w).good

    -- the counts at the two ends, neither of which waits
    ahead : (s : Side) → area_at N s i ≡ a → k ≤ count (area_at N (far s) i) w + d
    ahead from_side o = rw (step_is a w k e) (free.at_from o)
    ahead toSide o = rw (step_is a w k e) (free.at_to o)

    within : (s : Side) → count (area_at N (far s) i) w ≤ count (area_at N s i) w + d
    within from_side = form.to_near i there line
    within toSide = form.from_near i there line

    read : (s : Side) → area_at N s i ≡ a → (x : ℕ) → Reads N.head (row_at N i) k x → Sent net start w (far s) i x (word (store_of (far s) (at w)) (slot_of N i x))
    read s o x r =
        let own : k ≡ suc (count a w) = step_is a w k e in
        let near : count (area_at N (far s) i) w ≤ count a w + d = rw o at (within s) in
        let h = slots_hold net lent ok (far s) i there line w in
        let h' : Holds (store_of (far s) (at w)) (offset N i) (places d (depth N.head (row_at N i))) (count (area_at N (far s) i) w) (Sent net start w (far s) i) = rw (line_slots N i line) at h in
        rw (line_slots N i line)
        (holds_read (store_of (far s) (at w)) (offset N i) d (depth N.head (row_at N i)) (count (area_at N (far s) i) w) (count a w) (Sent net start w (far s) i) ((sound N (net_sound net ok.network)).travels i line) h'
        (omega (arith, ahead s o)) near x r.one (omega (arith, r.newest)) (omega (arith, r.oldest)))

    -- T-received
    pub received : (s : Side) → area_at N s i ≡ a → Receives net start w k s i
    unfolding Legs.sent_to
    received s o = record { sent = λ x. word (store_of (far s) (at w)) (slot_of N i x); steps = read s o; heard = refl }

  -- ---- there is one accepted step x of an area in a run

  abbrev Apart : ℕ → List ℕ → List ℕ → Type 0
  Apart b u v = (u ≡ v) ⊎ (((t : List ℕ) × (v ≡ u ++ (b ∷ t))) ⊎ ((t : List ℕ) × (u ≡ v ++ (b ∷ t))))

  cons_apart : (b c : ℕ) (u v : List ℕ) → Apart b u v → Apart b (c ∷ u) (c ∷ v)
  cons_apart b c u v (inl e) = inl (rw e)
  cons_apart b c u v (inr (inl p)) = inr (inl (p.0, ap (λ (l : List ℕ). c ∷ l) p.1))
  cons_apart b c u v (inr (inr p)) = inr (inr (p.0, ap (λ (l : List ℕ). c ∷ l) p.1))

  -- two places of b in one list
  two_places : (b : ℕ) (u v x y : List ℕ) → u ++ (b ∷ x) ≡ v ++ (b ∷ y) → Apart b u v
  two_places b [] [] x y e = inl refl
  two_places b [] (c ∷ v) x y e = let q : b ≡ c = cc in inr (inl (v, rw q))
  two_places b (c ∷ u) [] x y e = let q : c ≡ b = cc in inr (inr (u, rw q))
  two_places b (c ∷ u) (d ∷ v) x y e =
      let q : c ≡ d = cc in
      let r : u ++ (b ∷ x) ≡ v ++ (b ∷ y) = cc in
      rw q (cons_apart b d u v (two_places b u v x y r))

  put_grows : (p : Bool) (y : Advance) (l r : List Advance) → suc (length l) ≤ length r → suc (length (put p y l)) ≤ length (put p y r)
  put_grows true y l r h = omega arith
  put_grows false y l r h = h

  -- a later accepted step of the same area is a larger one
  module _ (b : ℕ) (x : ℕ) where
    grown : (u t : List ℕ) (m : Memory) → (advance_of net b (after net u m)).answer ≡ Ok x → suc (taken net b u m) ≤ taken net b (u ++ (b ∷ t)) m
    unfolding after accepts
    grown [] t m e = rw (e, eq-eqb b b refl) (omega arith)
    grown (c ∷ u) t m e = put_grows (accepted (advance_of net c m).answer && eqb b c) _ _ _ (grown u t (advance_of net c m).after e)

    later_steps : (u t : List ℕ) → (advance_of net b (at u)).answer ≡ Ok x → x ≤ count b (u ++ (b ∷ t))
    later_steps u t e =
        let h : IsArea N b = area_of_accepted net lent ok b (at u) (run_inv net lent ok u) (took_accepted b (at u) x e) in
        let p : count b u ≡ taken net b u start = counts_are net lent ok b h u in
        let q : count b (u ++ (b ∷ t)) ≡ taken net b (u ++ (b ∷ t)) start = counts_are net lent ok b h (u ++ (b ∷ t)) in
        let s : x ≡ suc (count b u) = step_is b u x e in
        let g : suc (taken net b u start) ≤ taken net b (u ++ (b ∷ t)) start = grown u t start e in
        omega arith

    pub once : (w : List ℕ) (p q : StepIn net start w b x) → p.before ≡ q.before
    once w p q = go (two_places b p.before q.before p.behind q.behind (sym p.calls ∙ q.calls))
      where
        no : (u v t : List ℕ) → v ≡ u ++ (b ∷ t) → (advance_of net b (at u)).answer ≡ Ok x → (advance_of net b (at v)).answer ≡ Ok x → ⊥
        no u v t e p q = let g : x ≤ count b v = rw e (later_steps u t p) in omega (arith, step_is b v x q)

        go : Apart b p.before q.before → p.before ≡ q.before
        go (inl e) = e
        go (inr (inl t)) = absurd (no p.before q.before t.0 t.1 p.answer q.answer)
        go (inr (inr t)) = absurd (no q.before p.before t.0 t.1 q.answer p.answer)
