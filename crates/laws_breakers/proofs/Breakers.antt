-- T-parts: over every run from a reset, an SW's latch is the first accepted step x of its area, "at or after open - 1 and later than its closing step, at which
-- its current is zero or of opposite sign to that of step" x - 1; it is 0 while there is none; and "it is open from step" x "+ 1 and stays so". Assumes nothing.
use Rattle.std.specs.Prelude.{Ok}
use Rattle.std.specs.Prelude.{◌-◌, ◌≤◌, ◌<◌, ◌≡◌, ◌⊎◌, ◌&&◌, ◌∷◌, ◌++◌}
use Rattle.whole.specs.Plain.{ℕ, suc, max, refl, sym, ap, ◌∙◌, subst, inl, inr, Bool, true, false, cond, not}
use Rattle.whole.specs.Plain.{true≢false, List, [], leb, ltb, ℤ, pos, lt_z, length, length-append, leb-true, ltb-true}
use Rattle.whole.specs.Plain.{ltb-false, le-leb, lt-ltb, lt-leb, not-true, not-false, dec_le, arith, Words, z, word, nat}
use Rattle.whole.specs.Folds.{and_left, and_right, both}
use Rattle.paper.specs.Limits as Limits
use Rattle.paper.specs.Rows.{Row, is_breaker, from, to, closes, opens}
use Rattle.paper.specs.Classes.{breaker_branch, breaker_line}
use Rattle.paper.specs.Areas.{row_area, step}
use Rattle.paper.specs.Records.{count_at, current_at, latch_at, count_of}
use Rattle.paper.specs.Latch.{may_part, parts, new_latch, holds}
use Rattle.paper.specs.Legs.{is_open}
use Rattle.paper.specs.Advance.{Memory, advance_of}
use Rattle.paper.specs.Resetting.{fresh}
use Rattle.laws_facts.specs.Sound.{BranchSound}
use Rattle.laws_facts.specs.Nets.{NetSound, net_in, row_at, area_of_lem}
use Rattle.laws_facts.proofs.Nets.{net_sound}
use Rattle.laws_local.specs.Sound.{Sound, sound}
use Rattle.laws_local.specs.Written.{latch_own, breaker_own}
use Rattle.laws_stays.specs.Stays.{zero_word}
use Rattle.laws_demands.specs.Said.{IsArea, from_current, latch}
use Rattle.laws_runs.specs.Runs.{Lent, from_reset, after}
use Rattle.laws_runs.specs.Moves.{record_word}
use Rattle.laws_runs.specs.Orders.{starts}
use Rattle.laws_runs.specs.Received.{StepIn, after_snoc}
use Rattle.laws_runs.specs.Lived.{step_more, Which, older, newest, which, Idle, OwnStep, lived}
use Rattle.laws_breakers.specs.Breakers as Breakers

module _ (net : Words) (lent : Memory) (ok : Lent net lent) (i : ℕ) (there : i < length (net_in net).rows) (b : is_breaker (row_at (net_in net) i) ≡ true) where
  open from_reset net lent use {N, start, at}

  s : NetSound N
  s = net_sound net ok.network

  snd : Sound N
  snd = sound N s

  abbrev r : Row
  r = row_at N i

  abbrev a : ℕ
  a = row_area N r

  ends : BranchSound (step N) N.nodes r
  ends = (s.row i there).branch (breaker_branch r b)

  area : IsArea N a
  area = record { one = s.area_least (max (from r) (to r)) (omega (arith, ends.apart)) (omega (arith, ends.from_in.most, ends.to_in.most)); most = area_of_lem N (max (from r) (to r)) }

  -- after the calls of w: the steps that the switch's area has taken, its current and its latch
  abbrev count : List ℕ → ℕ
  count w = count_of (at w).records a

  abbrev current : List ℕ → ℤ
  current w = from_current (at w) i

  abbrev set : List ℕ → ℕ
  set w = nat (latch (at w) i)

  abbrev At : List ℕ → ℕ → ℤ → Type 0
  At = Breakers.At net lent ok i there b

  abbrev Parts : List ℕ → ℕ → Type 0
  Parts = Breakers.Parts net lent ok i there b

  abbrev StaysOpen : List ℕ → Type 0
  StaysOpen = Breakers.StaysOpen net lent ok i there b

  abbrev Breaker : List ℕ → Type 0
  Breaker = Breakers.Breaker net lent ok i there b

  at_more : {w : List ℕ} {x : ℕ} {c : ℤ} (e : ℕ) → At w x c → At (w ++ (e ∷ [])) x c
  unfolding step_more
  at_more e t = record { step = step_more e t.step; flows = t.flows }

  parts_more : {w : List ℕ} {x : ℕ} (e : ℕ) → Parts w x → Parts (w ++ (e ∷ [])) x
  parts_more e p = record { opening = p.opening; closed = p.closed; before = p.before; now = p.now; last = at_more e p.last; this = at_more e p.this; crossing = p.crossing }

  -- ---- at the reset

  no_step : (x : ℕ) → StepIn net start [] a x → ⊥
  no_step x t = omega (arith, simp length-append at (ap length t.calls))

  reset_word : (j : ℕ) → word (at []).records j ≡ z
  unfolding after fresh
  reset_word j = ap (λ (m : Memory). word m.records j) (starts net lent ok) ∙ zero_word Limits.record_words j

  at_reset : Breaker []
  at_reset =
      let c : count [] ≡ 0 = ap nat (reset_word (count_at a)) in
      let p = reset_word (latch_at i) in
      record {
        inside = λ x t. absurd (no_step x t);
        there_is = λ h. absurd (omega arith);
        only = λ c t. absurd (no_step _ t.step);
        sign = rw p;
        parted = λ h. absurd (omega (arith, ap nat p));
        first = λ x q. absurd (no_step x q.this.step);
        stays = λ h x c t l. absurd (no_step x t.step);
      }

  -- ---- at a call that leaves the area's words

  module _ (w : List ℕ) (e : ℕ) (d : Idle net lent ok a area w e) (p : Breaker w) where
    at_back : {x : ℕ} {c : ℤ} → At (w ++ (e ∷ [])) x c → At w x c
    at_back {x} t = let o = d.steps x t.step in record { step = o.0; flows = ap (λ (u : List ℕ). from_current (advance_of net a (at u)).after i) o.1 ∙ t.flows }

    parts_back : {x : ℕ} → Parts (w ++ (e ∷ [])) x → Parts w x
    parts_back q = record { opening = q.opening; closed = q.closed; before = q.before; now = q.now; last = at_back q.last; this = at_back q.this; crossing = q.crossing }

    at_idle : Breaker (w ++ (e ∷ []))
    at_idle =
        let f : current (w ++ (e ∷ [])) ≡ current w = d.words (record_word (current_at i)) (breaker_own N a snd i there b refl) in
        let g : latch (at (w ++ (e ∷ []))) i ≡ latch (at w) i = d.words (record_word (latch_at i)) (latch_own N a snd i there b refl) in
        record {
          inside = λ x t. rw d.count (p.inside x (d.steps x t).0);
          there_is = λ h. rw (d.count, f) (at_more e (p.there_is (rw d.count at h)));
          only = λ c t. p.only c (at_back (rw d.count at t)) ∙ sym f;
          sign = rw g p.sign;
          parted = λ h. rw g (parts_more e (p.parted (rw g at h)));
          first = λ x q. rw g (p.first x (parts_back q));
          stays = λ h x c t l. p.stays (rw g at h) x c (at_back t) (rw g at l);
        }

  -- ---- at an accepted step of its own

  module _ (w : List ℕ) (k : ℕ) (o : OwnStep net lent ok a area w k) (p : Breaker w) where
    abbrev new : List ℕ
    new = w ++ (a ∷ [])

    counted : count new ≡ k
    counted = ap nat o.stepped.offered.count

    next : k ≡ suc (count w)
    next = o.stepped.offered.next

    -- the latch after it
    latched : latch (at new) i ≡ new_latch k r (current w) (current new) (latch (at w) i)
    latched = (o.stepped.offered.plain i there (breaker_branch r b) (breaker_line r b) refl).parted b

    here : from_current (advance_of net a (at w)).after i ≡ current new
    here = ap (λ (m : Memory). from_current m i) (sym (after_snoc net w a start))

    -- the step itself
    this : At new k (current new)
    this = record { step = record { before = w; behind = []; calls = refl; answer = o.answer }; flows = here }

    -- a step of the longer run is one of the shorter, or this one
    module _ {x : ℕ} {c : ℤ} (t : At new x c) where
      same : t.step.before ≡ w → k ≡ x
      same q = let e : Ok k ≡ Ok x = sym o.answer ∙ subst (λ (u : List ℕ). (advance_of net a (at u)).answer ≡ Ok x) q t.step.answer in cc

      flow : t.step.before ≡ w → c ≡ current new
      flow q = sym t.flows ∙ ap (λ (u : List ℕ). from_current (advance_of net a (at u)).after i) q ∙ here

      at_older : x < k → At w x c
      at_older h = go (which net lent ok a area w a x t.step)
        where
          go : Which net lent ok a area w a x t.step.before → At w x c
          go (older u q) = record { step = u; flows = ap (λ (u : List ℕ). from_current (advance_of net a (at u)).after i) q ∙ t.flows }
          go (newest e q) = absurd (omega (arith, same q))

      at_newest : k ≤ x → (x ≡ k) × (c ≡ current new)
      at_newest h = go (which net lent ok a area w a x t.step)
        where
          go : Which net lent ok a area w a x t.step.before → (x ≡ k) × (c ≡ current new)
          go (older u q) = absurd (omega (arith, p.inside x u, next))
          go (newest e q) = (sym (same q), flow q)

    parts_older : {x : ℕ} → x < k → Parts new x → Parts w x
    parts_older h q = record { opening = q.opening; closed = q.closed; before = q.before; now = q.now; last = at_older q.last (omega arith); this = at_older q.this h; crossing = q.crossing }

    -- at this step, by the two currents that the latch goes by
    parts_newest : {x : ℕ} → k ≤ x → Parts new x → (x ≡ k) × (parts k r (current w) (current new) ≡ true)
    unfolding parts may_part
    parts_newest {x} h q =
        let n = at_newest q.this h in
        let l : At w (x - 1) q.before = at_older q.last (omega (arith, n.0, next)) in
        let e : x - 1 ≡ count w = omega (arith, n.0, next) in
        let f : q.before ≡ current w = p.only q.before (subst (λ (y : ℕ). At w y q.before) e l) in
        (n.0, both (both (le-leb (opens r - 1) k (omega (arith, q.opening, n.0))) (lt-ltb (closes r) k (omega (arith, q.closed, n.0)))) (rw (f, n.1) at q.crossing))

    newest_parts : parts k r (current w) (current new) ≡ true → Parts new k
    unfolding parts may_part
    newest_parts e =
        let m = and_left (leb (opens r - 1) k && ltb (closes r) k) _ e in
        let c : closes r < k = ltb-true (closes r) k (and_right (leb (opens r - 1) k) _ m) in
        let one : 1 ≤ count w = omega (arith, ((s.row i there).switch (rw b)).closes_in.least, next) in
        let d : count w ≡ k - 1 = omega (arith, next) in
        record {
          opening = leb-true (opens r - 1) k (and_left (leb (opens r - 1) k) _ m);
          closed = c;
          before = current w;
          now = current new;
          last = subst (λ (y : ℕ). At new y (current w)) d (at_more a (p.there_is one));
          this = this;
          crossing = and_right (leb (opens r - 1) k && ltb (closes r) k) _ e;
        }

    inside_new : (x : ℕ) → StepIn net start new a x → (1 ≤ x) × (x ≤ count new)
    inside_new x t = go (dec_le k x)
      where
        it : At new x (from_current (advance_of net a (at t.before)).after i)
        it = record { step = t; flows = refl }

        go : Dec (k ≤ x) → (1 ≤ x) × (x ≤ count new)
        go (yes h) = let e = (at_newest it h).0 in (omega (arith, next), omega (arith, counted))
        go (no h) = let l = p.inside x (at_older it (omega arith)).step in (l.0, omega (arith, l.1, counted, next))

    -- the latch is 0 where it is not over it
    unset : not (lt_z z (latch (at w) i)) ≡ true → set w ≡ 0
    unset e = let q : ltb 0 (set w) ≡ false = not-true (ltb 0 (set w)) (rw p.sign at e) in omega (arith, ltb-false 0 (set w) q)

    over : not (lt_z z (latch (at w) i)) ≡ false → 1 ≤ set w
    over e = let q : ltb 0 (set w) ≡ true = not-false (ltb 0 (set w)) (rw p.sign at e) in ltb-true 0 (set w) q

    -- the switch that parted before is open at this step
    let_go : 1 ≤ set w → set w < k → holds r (latch (at w) i) k ≡ false
    unfolding holds
    let_go one l = rw (b, p.sign, lt-ltb 0 (set w) one, lt-leb k (set w) l)

    is_open_lem : 1 ≤ set w → set w < k → is_open N (at w).records k i ≡ true
    unfolding is_open
    is_open_lem one l = rw (b, let_go one l) (by (leb (closes r) k))
      where
        by : (x : Bool) → not (x && false) ≡ true
        by true = refl
        by false = refl

    no_current : 1 ≤ set w → set w < k → current new ≡ z
    no_current one l = (o.stepped.offered.plain i there (breaker_branch r b) (breaker_line r b) refl).opened (rw b) (is_open_lem one l)

    at_step : Breaker new
    unfolding new_latch
    at_step = go (not (lt_z z (latch (at w) i))) (parts k r (current w) (current new)) refl refl latched
      where
        made : latch (at new) i ≡ pos (set new) → (1 ≤ set new → Parts new (set new)) → ((x : ℕ) → Parts new x → (1 ≤ set new) × (set new ≤ x)) → StaysOpen new → Breaker new
        made q u f g = record {
          inside = inside_new;
          there_is = λ h. rw counted this;
          only = λ c t. (at_newest (rw counted at t) (omega arith)).1;
          sign = q;
          parted = u;
          first = f;
          stays = g;
        }

        -- it parts now, for the first time
        now_parts : set w ≡ 0 → parts k r (current w) (current new) ≡ true → latch (at new) i ≡ pos k → Breaker new
        now_parts n e q =
            let u : set new ≡ k = ap nat q in
            made (rw u q) (λ h. rw u (newest_parts e)) (λ x y. (omega (arith, u, next), rw u (late x y (dec_le k x))))
            (λ h x c t l. absurd (omega (arith, u, (at_newest t (omega (arith, u, l))).0)))
          where
            late : (x : ℕ) → Parts new x → Dec (k ≤ x) → k ≤ x
            late x y (yes h) = h
            late x y (no h) = absurd (omega (arith, (p.first x (parts_older (omega arith) y)).0))

        -- it does not, or has parted before
        unmoved : (1 ≤ set w) ⊎ (parts k r (current w) (current new) ≡ false) → latch (at new) i ≡ latch (at w) i → Breaker new
        unmoved d q =
            let u : set new ≡ set w = ap nat q in
            made (rw u (q ∙ p.sign)) (λ h. rw u (parts_more a (p.parted (rw u at h)))) (λ x y. rw u (either x y (dec_le k x) d))
            (λ h x c t l. after_it (rw u at h) x c t (rw u at l) (dec_le k x))
          where
            after_it : 1 ≤ set w → (x : ℕ) (c : ℤ) → At new x c → set w < x → Dec (k ≤ x) → c ≡ z
            after_it h x c t l (yes y) = let n = at_newest t y in n.1 ∙ no_current h (omega (arith, n.0))
            after_it h x c t l (no y) = p.stays h x c (at_older t (omega arith)) l

            either : (x : ℕ) → Parts new x → Dec (k ≤ x) → (1 ≤ set w) ⊎ (parts k r (current w) (current new) ≡ false) → (1 ≤ set w) × (set w ≤ x)
            either x y (no h) d = p.first x (parts_older (omega arith) y)
            either x y (yes h) (inl l) = (l, omega (arith, p.inside (set w) (p.parted l).this.step, next))
            either x y (yes h) (inr n) = absurd (true≢false (sym (parts_newest h y).1 ∙ n))

        go : (x y : Bool) → not (lt_z z (latch (at w) i)) ≡ x → parts k r (current w) (current new) ≡ y → latch (at new) i ≡ cond (x && y) (pos k) (latch (at w) i) → Breaker new
        go true true e f q = now_parts (unset e) f q
        go true false e f q = unmoved (inr f) q
        go false y e f q = unmoved (inl (over e)) q

  -- T-parts
  pub breakers : (w : List ℕ) → Breaker w
  breakers = lived net lent ok a area Breaker at_idle at_step at_reset
