-- T-peak: over every run from a reset, a node's peak and its step "equal the maximum over all accepted steps of that node's area and its first place;
-- before any step both are 0". Assumes nothing.
use Rattle.std.specs.Prelude.{Ok}
use Rattle.std.specs.Prelude.{◌≤◌, ◌<◌, ◌≡◌, ◌≢◌, ◌⊎◌, ◌||◌, ◌∷◌, ◌++◌}
use Rattle.whole.specs.Plain.{ℕ, suc, refl, sym, ap, ◌∙◌, subst, inl, inr, Bool, true, false, cond}
use Rattle.whole.specs.Plain.{true≢false, List, [], eqb, ℤ, pos, negsuc, nat_abs, lt_z, non_neg, length}
use Rattle.whole.specs.Plain.{length-append, eqb-true, eqb-false, ltb-true, ltb-false, arith, Words, z, word, nat}
use Rattle.paper.specs.Limits as Limits
use Rattle.paper.specs.Areas.{area_of}
use Rattle.paper.specs.Records.{count_at, peak_at, peak_step_at, count_of, outdone, new_peak, new_peak_step}
use Rattle.paper.specs.Advance.{Memory, advance_of}
use Rattle.paper.specs.Resetting.{fresh}
use Rattle.laws_facts.specs.Nets.{NetSound, net_in, area_of_lem}
use Rattle.laws_facts.proofs.Nets.{net_sound}
use Rattle.laws_local.specs.Sound.{Sound, sound}
use Rattle.laws_local.specs.Nodes.{NodeOf}
use Rattle.laws_local.specs.Written.{peak_own, peak_step_own}
use Rattle.laws_stays.specs.Formed.{formed}
use Rattle.laws_stays.specs.Stays.{zero_word}
use Rattle.laws_demands.specs.Said.{IsArea, voltage, peak_in, peak_step_in}
use Rattle.laws_runs.specs.Runs.{Lent, from_reset, after}
use Rattle.laws_runs.specs.Moves.{record_word}
use Rattle.laws_runs.specs.Orders.{starts, run_inv}
use Rattle.laws_runs.specs.Received.{StepIn, after_snoc}
use Rattle.laws_runs.specs.Lived.{step_more, Which, older, newest, which, Idle, OwnStep, lived}
use Rattle.laws_peaks.specs.Peaks as Peaks

-- ---- one peak renewed, or not

rose : (b : Bool) (k : ℕ) (x p : ℤ) → non_neg p ≡ true → eqb k 1 ≡ b → (b || lt_z p (pos (nat_abs x))) ≡ true → (k ≡ 1) ⊎ (nat p < nat_abs x)
rose true k x p s q e = inl (eqb-true k 1 q)
rose false k x (pos p) s q e = inr (ltb-true p (nat_abs x) e)
rose false k x (negsuc p) s q e = absurd (true≢false (sym s))

kept : (b : Bool) (k : ℕ) (x p : ℤ) → non_neg p ≡ true → eqb k 1 ≡ b → (b || lt_z p (pos (nat_abs x))) ≡ false → (k ≢ 1) × (nat_abs x ≤ nat p)
kept true k x p s q e = absurd (true≢false e)
kept false k x (pos p) s q e = (eqb-false k 1 q, ltb-false p (nat_abs x) e)
kept false k x (negsuc p) s q e = absurd (true≢false (sym s))

not_below : (x : ℤ) → non_neg x ≡ true → x ≡ pos (nat x)
not_below (pos x) s = refl
not_below (negsuc x) s = absurd (true≢false (sym s))

module _ (net : Words) (lent : Memory) (ok : Lent net lent) (n : ℕ) (low : 1 ≤ n) (high : n ≤ (net_in net).nodes) where
  open from_reset net lent use {N, start, at}

  s : NetSound N
  s = net_sound net ok.network

  snd : Sound N
  snd = sound N s

  abbrev a : ℕ
  a = area_of N n

  area : IsArea N a
  area = record { one = s.area_least n low high; most = area_of_lem N n }

  node : NodeOf N a n
  node = record { area = refl; low = low; high = high }

  -- after the calls of w: the steps that the node's area has taken, the node's peak and the peak's step
  abbrev count : List ℕ → ℕ
  count w = count_of (at w).records a

  abbrev peak : List ℕ → ℕ
  peak w = nat (peak_in N (at w) n)

  abbrev peak_step : List ℕ → ℕ
  peak_step w = nat (peak_step_in N (at w) n)

  -- the magnitude of the node's voltage right after its area's call that follows those of u
  abbrev size : List ℕ → ℕ
  size u = nat_abs (voltage N (advance_of net a (at u)).after n)

  abbrev At : List ℕ → ℕ → ℕ → Type 0
  At = Peaks.At net lent ok n low high

  abbrev Peak : List ℕ → Type 0
  Peak = Peaks.Peak net lent ok n low high

  at_more : {w : List ℕ} {x y : ℕ} (c : ℕ) → At w x y → At (w ++ (c ∷ [])) x y
  unfolding step_more
  at_more c t = record { step = step_more c t.step; reached = t.reached }

  in_words : (w : List ℕ) → (peak_in N (at w) n ≡ pos (peak w)) × (peak_step_in N (at w) n ≡ pos (peak_step w))
  in_words w =
      let f = (formed N (at w) (run_inv net lent ok w).good).peaks n low high in
      (not_below (peak_in N (at w) n) f.peak_sign, not_below (peak_step_in N (at w) n) f.step_sign)

  -- ---- at the reset

  no_step : (x : ℕ) → StepIn net start [] a x → ⊥
  no_step x t = omega (arith, simp length-append at (ap length t.calls))

  reset_word : (j : ℕ) → word (at []).records j ≡ z
  unfolding after fresh
  reset_word j = ap (λ (m : Memory). word m.records j) (starts net lent ok) ∙ zero_word Limits.record_words j

  at_reset : Peak []
  at_reset =
      let c : count [] ≡ 0 = ap nat (reset_word (count_at a)) in
      record {
        words = in_words [];
        inside = λ x t. absurd (no_step x t);
        most = λ x t. absurd (no_step x t);
        there = λ h. absurd (omega arith);
        first = λ x t h. absurd (no_step x t);
        none = λ h. (ap nat (reset_word (peak_at N n)), ap nat (reset_word (peak_step_at N n)));
      }

  -- ---- at a call that leaves the area's words

  at_idle : (w : List ℕ) (c : ℕ) → Idle net lent ok a area w c → Peak w → Peak (w ++ (c ∷ []))
  at_idle w c i p =
      let e : peak (w ++ (c ∷ [])) ≡ peak w = ap nat (i.words (record_word (peak_at N n)) (peak_own N a snd n node)) in
      let f : peak_step (w ++ (c ∷ [])) ≡ peak_step w = ap nat (i.words (record_word (peak_step_at N n)) (peak_step_own N a snd n node)) in
      record {
        words = in_words (w ++ (c ∷ []));
        inside = λ x t. rw i.count (p.inside x (i.steps x t).0);
        most = λ x t. let o = i.steps x t in rw (e, ← o.1) (p.most x o.0);
        there = λ h. rw (e, f) (at_more c (p.there (rw i.count at h)));
        first = λ x t h. let o = i.steps x t in rw (e, ← o.1) (p.first x o.0 (rw f at h));
        none = λ h. rw (e, f) (p.none (rw i.count at h));
      }

  -- ---- at an accepted step of its own

  module _ (w : List ℕ) (k : ℕ) (o : OwnStep net lent ok a area w k) (p : Peak w) where
    abbrev new : List ℕ
    new = w ++ (a ∷ [])

    abbrev v : ℤ
    v = voltage N (at new) n

    counted : count new ≡ k
    counted = ap nat o.stepped.offered.count

    next : k ≡ suc (count w)
    next = o.stepped.offered.next

    here : size w ≡ nat_abs v
    here = ap (λ (m : Memory). nat_abs (voltage N m n)) (sym (after_snoc net w a start))

    -- the step itself
    this : At new k (nat_abs v)
    this = record { step = record { before = w; behind = []; calls = refl; answer = o.answer }; reached = here }

    -- each step is this one or one before it
    by_step : (Q : ℕ → ℕ → Type 0) → ((x : ℕ) (t : StepIn net start w a x) → Q x (size t.before)) → Q k (nat_abs v) → (x : ℕ) (t : StepIn net start new a x) → Q x (size t.before)
    by_step Q before it x t = go (which net lent ok a area w a x t)
      where
        same : t.before ≡ w → k ≡ x
        same q = let e : Ok k ≡ Ok x = sym o.answer ∙ subst (λ (u : List ℕ). (advance_of net a (at u)).answer ≡ Ok x) q t.answer in cc

        go : Which net lent ok a area w a x t.before → Q x (size t.before)
        go (older u q) = subst (λ (b : List ℕ). Q x (size b)) q (before x u)
        go (newest e q) = rw (q, ← same q, here) it

    sign : non_neg (peak_in N (at w) n) ≡ true
    sign = ((formed N (at w) (run_inv net lent ok w).good).peaks n low high).peak_sign

    inside_new : (x : ℕ) → StepIn net start new a x → (1 ≤ x) × (x ≤ count new)
    inside_new = by_step (λ x y. (1 ≤ x) × (x ≤ count new)) (λ x t. let i = p.inside x t in (i.0, omega (arith, i.1, counted, next))) (omega (arith, next), omega (arith, counted))

    -- the magnitude is greater than all before
    risen : (k ≡ 1) ⊎ (peak w < nat_abs v) → (x : ℕ) (t : StepIn net start w a x) → size t.before < nat_abs v
    risen (inl e) x t = absurd (omega (arith, p.inside x t, next))
    risen (inr l) x t = omega (arith, p.most x t)

    at_rise : (k ≡ 1) ⊎ (peak w < nat_abs v) → peak new ≡ nat_abs v → peak_step new ≡ k → Peak new
    at_rise r e f = record {
      words = in_words new;
      inside = inside_new;
      most = by_step (λ x y. y ≤ peak new) (λ x t. omega (arith, risen r x t, e)) (omega (arith, e));
      there = λ h. rw (e, f) this;
      first = by_step (λ x y. x < peak_step new → y < peak new) (λ x t h. rw e (risen r x t)) (λ h. absurd (omega (arith, f)));
      none = λ h. absurd (omega (arith, counted, next));
    }

    -- or it is not, and there were steps before
    at_rest : (k ≢ 1) × (nat_abs v ≤ peak w) → peak new ≡ peak w → peak_step new ≡ peak_step w → Peak new
    at_rest r e f =
        let some : 1 ≤ count w = omega (arith, next, r.0) in
        let before = p.there some in
        record {
          words = in_words new;
          inside = inside_new;
          most = by_step (λ x y. y ≤ peak new) (λ x t. rw e (p.most x t)) (rw e r.1);
          there = λ h. rw (e, f) (at_more a before);
          first = by_step (λ x y. x < peak_step new → y < peak new) (λ x t h. rw e (p.first x t (rw f at h))) (λ h. absurd (omega (arith, f, p.inside (peak_step w) before.step, next)));
          none = λ h. absurd (omega (arith, counted, next));
        }

    at_step : Peak new
    unfolding outdone new_peak new_peak_step
    at_step = go (outdone k v (peak_in N (at w) n)) refl (o.stepped.offered.peak n node) (o.stepped.offered.peak_step_lem n node)
      where
        go : (b : Bool) → outdone k v (peak_in N (at w) n) ≡ b → peak_in N (at new) n ≡ cond b (pos (nat_abs v)) (peak_in N (at w) n)
            → peak_step_in N (at new) n ≡ cond b (pos k) (peak_step_in N (at w) n) → Peak new
        go true q e f = at_rise (rose (eqb k 1) k v (peak_in N (at w) n) sign refl q) (ap nat e) (ap nat f)
        go false q e f = at_rest (kept (eqb k 1) k v (peak_in N (at w) n) sign refl q) (ap nat e) (ap nat f)

  -- T-peak
  pub peaks : (w : List ℕ) → Peak w
  peaks = lived net lent ok a area Peak at_idle at_step at_reset
