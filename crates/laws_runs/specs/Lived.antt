-- What an area lives through in a run: only its own accepted steps change its words. So what holds of them is shown by a fold over these steps: at the
-- reset, at a call that is refused or of another area, and at each accepted step. Assumes nothing.
use Rattle.std.specs.Prelude.{Ok}
use Rattle.std.specs.Prelude.{◌≡◌, ◌≢◌, ◌∷◌, ◌++◌}
use Rattle.whole.specs.Plain.{ℕ, refl, sym, ap, ◌∙◌, subst, Bool, true, false, true≢false, List, []}
use Rattle.whole.specs.Plain.{append_assoc, append-nil, length, length-append, append_snoc, ℕ_discrete, arith, Words, nat}
use Rattle.paper.specs.Answers.{accepted}
use Rattle.paper.specs.Records.{count_at, count_of}
use Rattle.paper.specs.Advance.{Memory, Advanced, advance_of}
use Rattle.paper.proofs.Kept.{advance_refused}
use Rattle.laws_facts.specs.Nets.{net_in}
use Rattle.laws_facts.proofs.Nets.{net_sound}
use Rattle.laws_local.specs.Sound.{sound}
use Rattle.laws_local.specs.Own.{own_count}
use Rattle.laws_local.specs.Outcome.{step_of}
use Rattle.laws_demands.specs.Said.{IsArea, Stepped}
use Rattle.laws_demands.proofs.Step.{step}
use Rattle.laws_runs.specs.Runs.{Lent, from_reset, after}
use Rattle.laws_runs.specs.Moves.{Cell, record_word, owner_in, writes, call_is}
use Rattle.laws_runs.specs.Moves as Moves
use Rattle.laws_runs.specs.Orders.{run_inv}
use Rattle.laws_runs.specs.Received.{StepIn, after_snoc}

-- ---- a list with one more element, split at one of its elements

-- in the first part, or at the last
pub data Split (w p : List ℕ) (b c : ℕ) : Type 0 where
  inside : (r : List ℕ) → w ≡ p ++ (b ∷ r) → Split w p b c
  last : c ≡ b → p ≡ w → Split w p b c

split : (w p q : List ℕ) (b c : ℕ) → w ++ (c ∷ []) ≡ p ++ (b ∷ q) → Split w p b c
split [] [] q b c e = let h : c ≡ b = cc in last h refl
split [] (y ∷ p) q b c e = absurd (omega (arith, simp length-append at (ap length e)))
split (x ∷ w) [] q b c e = let h : x ≡ b = cc in inside w (ap (λ (y : ℕ). y ∷ w) h)
split (x ∷ w) (y ∷ p) q b c e =
    let h : x ≡ y = cc in
    let t : w ++ (c ∷ []) ≡ p ++ (b ∷ q) = cc in
    go h (split w p q b c t)
  where
    go : x ≡ y → Split w p b c → Split (x ∷ w) (y ∷ p) b c
    go h (inside r u) = inside r (rw (h, ← u))
    go h (last u v) = last u (rw (h, v))

-- ---- the steps of a longer run

unfoldable pub step_more : {net : Words} {m : Memory} {w : List ℕ} {b x : ℕ} (c : ℕ) → StepIn net m w b x → StepIn net m (w ++ (c ∷ [])) b x
step_more {b = b} c s = record {
  before = s.before;
  behind = s.behind ++ (c ∷ []);
  calls = ap (λ (u : List ℕ). u ++ (c ∷ [])) s.calls ∙ append_assoc s.before (b ∷ s.behind) (c ∷ []);
  answer = s.answer;
}

module _ (net : Words) (lent : Memory) (ok : Lent net lent) (a : ℕ) (area : IsArea (net_in net) a) where
  open from_reset net lent use {N, start, at}

  -- an accepted step of the area's, after the calls of w and c: one of w's, or c's own
  pub data Which (w : List ℕ) (c x : ℕ) (before : List ℕ) : Type 0 where
    older : (t : StepIn net start w a x) → t.before ≡ before → Which w c x before
    newest : c ≡ a → before ≡ w → Which w c x before

  pub which : (w : List ℕ) (c x : ℕ) (s : StepIn net start (w ++ (c ∷ [])) a x) → Which w c x s.before
  which w c x s = go (split w s.before s.behind a c s.calls)
    where
      go : Split w s.before a c → Which w c x s.before
      go (inside r e) = older (record { before = s.before; behind = r; calls = e; answer = s.answer }) refl
      go (last e p) = newest e p

  -- a call that leaves the area's words and brings it no step
  pub record Idle (w : List ℕ) (c : ℕ) : Type 0 where
    pub words : (x : Cell) → owner_in N x ≡ a → Moves.at (at (w ++ (c ∷ []))) x ≡ Moves.at (at w) x
    pub count : count_of (at (w ++ (c ∷ []))).records a ≡ count_of (at w).records a
    pub steps : (x : ℕ) (s : StepIn net start (w ++ (c ∷ [])) a x) → (t : StepIn net start w a x) × (t.before ≡ s.before)

  -- its accepted step k
  pub record OwnStep (w : List ℕ) (k : ℕ) : Type 0 where
    pub answer : (advance_of net a (at w)).answer ≡ Ok k
    pub stepped : Stepped N a k (at w) (at (w ++ (a ∷ [])))

  counted : owner_in N (record_word (count_at a)) ≡ a
  counted = own_count N a area.one (omega (arith, area.most, (sound N (net_sound net ok.network)).areas)) area.most

  idle : (w : List ℕ) (c : ℕ) → ((x : Cell) → owner_in N x ≡ a → Moves.at (advance_of net c (at w)).after x ≡ Moves.at (at w) x)
      → ((x : ℕ) → c ≡ a → (advance_of net a (at w)).answer ≡ Ok x → ⊥) → Idle w c
  idle w c same none = record { words = words; count = ap nat (words (record_word (count_at a)) counted); steps = λ x s. go x s (which w c x s) }
    where
      words : (x : Cell) → owner_in N x ≡ a → Moves.at (at (w ++ (c ∷ []))) x ≡ Moves.at (at w) x
      words x o = ap (λ (m : Memory). Moves.at m x) (after_snoc net w c start) ∙ same x o

      go : (x : ℕ) (s : StepIn net start (w ++ (c ∷ [])) a x) → Which w c x s.before → (t : StepIn net start w a x) × (t.before ≡ s.before)
      go x s (older t q) = (t, q)
      go x s (newest e p) = absurd (none x e (subst (λ (u : List ℕ). (advance_of net a (after net u start)).answer ≡ Ok x) p s.answer))

  refused_idle : (w : List ℕ) (c : ℕ) → accepted (advance_of net c (at w)).answer ≡ false → Idle w c
  refused_idle w c e =
      idle w c (λ x o. ap (λ (m : Memory). Moves.at m x) (advance_refused net c (at w) e))
      (λ x d q. true≢false (sym (ap accepted q) ∙ ap (λ (b : ℕ). accepted (advance_of net b (at w)).answer) (sym d) ∙ e))

  other_idle : (w : List ℕ) (c : ℕ) → c ≢ a → Idle w c
  other_idle w c n = idle w c (λ x o. writes net ok.network c (at w) x (run_inv net lent ok w) (λ q. n (sym q ∙ o))) (λ x d q. n d)

  own_step : (w : List ℕ) → accepted (advance_of net a (at w)).answer ≡ true → OwnStep w (step_of N a (at w))
  own_step w e =
      let k = step_of N a (at w) in
      let q : (advance_of net a (at w)).answer ≡ Ok k = ap (λ (r : Advanced). r.answer) (call_is net ok.network a (at w) (run_inv net lent ok w) e) in
      record { answer = q; stepped = subst (λ (n : Memory). Stepped N a k (at w) n) (sym (after_snoc net w a start)) (step net a (at w) k q) }

  -- the fold
  module _ (P : List ℕ → Type 0) (on-idle : (w : List ℕ) (c : ℕ) → Idle w c → P w → P (w ++ (c ∷ []))) (on_step : (w : List ℕ) (k : ℕ) → OwnStep w k → P w → P (w ++ (a ∷ []))) where
    one_more : (w : List ℕ) (c : ℕ) → P w → P (w ++ (c ∷ []))
    one_more w c p = go (accepted (advance_of net c (at w)).answer) refl (ℕ_discrete c a)
      where
        go : (b : Bool) → accepted (advance_of net c (at w)).answer ≡ b → Dec (c ≡ a) → P (w ++ (c ∷ []))
        go false e d = on-idle w c (refused_idle w c e) p
        go true e (no n) = on-idle w c (other_idle w c n) p
        go true e (yes d) = subst (λ (x : ℕ). P (w ++ (x ∷ []))) (sym d) (on_step w _ (own_step w (rw d at e)) p)

    from_on : (u w : List ℕ) → P u → P (u ++ w)
    from_on u [] p = subst P (sym (append-nil u)) p
    from_on u (c ∷ w) p = subst P (append_snoc u c w) (from_on (u ++ (c ∷ [])) w (one_more u c p))

    pub lived : P [] → (w : List ℕ) → P w
    lived p w = from_on [] w p
