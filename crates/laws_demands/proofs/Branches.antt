-- "Branch equations": the memory that a step proposes obeys them, accepted or not. Assumes nothing.
use Rattle.std.specs.Prelude.{◌≤◌, ◌<◌, ◌≡◌, ◌⊎◌, ◌||◌, ◌+ℤ◌, ◌-ℤ◌}
use Rattle.whole.specs.Plain.{ℕ, zero, suc, refl, sym, ap, ◌∙◌, inl, inr, Bool, true}
use Rattle.whole.specs.Plain.{false, cond, or-true, eqb, ℤ, neg_ℤ, +ℤ_comm}
use Rattle.whole.specs.Plain.{+ℤ_idr, zero-*ℤ, neg_ℤ-+ℤ, length, get_or, eq-eqb, eqb-true, arith}
use Rattle.whole.specs.Plain.{z, word}
use Rattle.whole.specs.Folds.{both}
use Rattle.paper.specs.Limits as Limits
use Rattle.paper.specs.Rows.{kind, is_branch, is_l, is_c, is_line, is_breaker, is_switch, from, to}
use Rattle.paper.specs.Conductance.{conductance}
use Rattle.paper.specs.Areas.{Net, area_of, row_area, step}
use Rattle.paper.specs.Records.{history_at, slot_count}
use Rattle.paper.specs.Legs.{Leg, leg, End, own_end, Branch, Heard, received, sent_to, heard_by, is_open, conducts, plain_legs, through, current, echo, passed_on}
use Rattle.paper.proofs.Apart.{histories_in, end_of_lem, unused_zero}
use Rattle.paper.specs.Advance.{Memory, written}
use Rattle.laws_facts.specs.Nets.{row_at, row_area_from, row_area_to}
use Rattle.paper.specs.Classes.{line_branch, by_switch}
use Rattle.paper.specs.Latch.{new_latch}
use Rattle.laws_local.specs.Sound.{Sound}
use Rattle.laws_local.specs.Own.{deaf}
use Rattle.laws_local.specs.Nodes.{NodeOf}
use Rattle.laws_local.specs.Written.{current_put, to_put, history_put, latch_put}
use Rattle.laws_local.specs.Slots.{sent_put}
use Rattle.laws_local.specs.Outcome.{legs_now}
use Rattle.laws_demands.specs.Said.{voltage, from_current, to_current, history, latch, from_sent, to_sent, gu, gv, offer, Obeys, EndObeys}
use Rattle.laws_demands.specs.Judged.{Asked}
use Rattle.laws_demands.specs.Volts.{ground_volt}
use Rattle.laws_demands.specs.Branches as Legs
use Rattle.laws_demands.specs.Branches.{now, from_leg, to_leg, plain_legs_lem, ear_is}

minus_zero : (x : ℤ) → x -ℤ z ≡ x
minus_zero x = +ℤ_idr x

module _ (N : Net) (a : ℕ) (m : Memory) (ok : Asked N a m) where
  open now N a m use {k, ears, v, by}

  snd : Sound N
  snd = Legs.snd N a m ok

  volt_of : (p : ℕ) → (p ≡ 0) ⊎ NodeOf N a p → voltage N (offer N a m) p ≡ word v p
  volt_of = Legs.volt_of N a m ok

  -- ---- R, L, C, SW, SWT

  module _ (i : ℕ) (there : i < length N.rows) (b : is_branch (row_at N i) ≡ true) (l : is_line (row_at N i) ≡ false) (mine : row_area N (row_at N i) ≡ a) where
    near : (p : ℕ) → (1 ≤ p → row_area N (row_at N i) ≡ area_of N p) → p ≤ N.nodes → (p ≡ 0) ⊎ NodeOf N a p
    near zero h t = inl refl
    near (suc p) h t = inr (record { area = sym (h (omega arith)) ∙ mine; low = omega arith; high = t })

    from_near : (from (row_at N i) ≡ 0) ⊎ NodeOf N a (from (row_at N i))
    from_near = near (from (row_at N i)) (row_area_from N ok.net i there b l) ((ok.net.row i there).branch b).from_in.most

    to_near : (to (row_at N i) ≡ 0) ⊎ NodeOf N a (to (row_at N i))
    to_near = near (to (row_at N i)) (row_area_to N ok.net i there b l) ((ok.net.row i there).branch b).to_in.most

    abbrev wire : Leg
    wire = leg (from (row_at N i)) (to (row_at N i)) (conducts N m.records k i) (history m i)

    own_from : (by i).is_from_end ≡ own_end wire
    unfolding plain_legs
    own_from = ap (λ (b : Branch). b.is_from_end) (plain_legs_lem N a k m.records ears i l b mine)

    gu_of : is_open N m.records k i ≡ false → through v wire ≡ gu N (offer N a m) i
    unfolding through conducts
    gu_of o = rw (o, volt_of (from (row_at N i)) from_near, volt_of (to (row_at N i)) to_near)

    current_of : from_current (offer N a m) i ≡ current v wire
    unfolding written
    current_of =
        current_put N a k m.records ears v snd m.records ok.long.records i there (ap (λ (e : End). e.own) own_from)
        ∙ ap (λ (e : End). current v e.wire) own_from

    -- i = g·u + h
    closed_current : is_open N m.records k i ≡ false → from_current (offer N a m) i ≡ gu N (offer N a m) i +ℤ history m i
    unfolding current
    closed_current o = current_of ∙ ap (λ (x : ℤ). x +ℤ history m i) (gu_of o)

    no_history : is_l (row_at N i) || is_c (row_at N i) ≡ false → history m i ≡ z
    no_history e =
        unused_zero N m.records m.froms m.tos ok.good (history_at i) (end_of_lem N histories_in i (omega (arith, snd.rows)) ∙ ap (λ (b : Bool). cond b Limits.history_end 0) e)

    resistive : is_open N m.records k i ≡ false → is_l (row_at N i) || is_c (row_at N i) ≡ false → from_current (offer N a m) i ≡ gu N (offer N a m) i
    resistive o e = closed_current o ∙ rw (no_history e) (+ℤ_idr (gu N (offer N a m) i))

    open_current : is_open N m.records k i ≡ true → is_l (row_at N i) || is_c (row_at N i) ≡ false → from_current (offer N a m) i ≡ z
    unfolding current through conducts
    open_current o e = current_of ∙ rw (o, no_history e) (ap (λ (x : ℤ). x +ℤ z) (zero-*ℤ (word v (from (row_at N i)) -ℤ word v (to (row_at N i)))))

    next_history : is_l (row_at N i) || is_c (row_at N i) ≡ true → history (offer N a m) i ≡ passed_on v (row_at N i) wire
    unfolding written
    next_history e =
        history_put N a k m.records ears v snd m.records ok.long.records i there (both e (ap (λ (e : End). e.own) own_from))
        ∙ ap (λ (e : End). passed_on v (row_at N i) e.wire) own_from

    -- i + g·u
    echo_of : is_open N m.records k i ≡ false → echo v wire ≡ from_current (offer N a m) i +ℤ gu N (offer N a m) i
    unfolding echo
    echo_of o = rw (← current_of, gu_of o)

    kind_is_lem : (j : ℕ) → eqb (kind (row_at N i)) j ≡ true → kind (row_at N i) ≡ j
    kind_is_lem j e = eqb-true (kind (row_at N i)) j e

    never_open : (j : ℕ) → (eqb j 5 || eqb j 9) ≡ false → kind (row_at N i) ≡ j → is_open N m.records k i ≡ false
    unfolding is_open
    never_open j e q = rw (q, e)

    keeps_none : (j : ℕ) → eqb j 2 ≡ false → eqb j 3 ≡ false → kind (row_at N i) ≡ j → is_l (row_at N i) || is_c (row_at N i) ≡ false
    keeps_none j p q e = rw (e, p, q)

    switch_keeps_none : is_switch (row_at N i) ≡ true → is_l (row_at N i) || is_c (row_at N i) ≡ false
    switch_keeps_none e = by_switch (λ j. (eqb j 2 || eqb j 3) ≡ false) (row_at N i) e refl refl

    latch_of : is_breaker (row_at N i) ≡ true → latch (offer N a m) i ≡ new_latch k (row_at N i) (from_current m i) (from_current (offer N a m) i) (latch m i)
    unfolding written
    latch_of e =
        latch_put N a k m.records ears v snd m.records ok.long.records i there e mine
        ∙ ap (λ (x : ℤ). new_latch k (row_at N i) (from_current m i) x (latch m i))
        (sym (current_put N a k m.records ears v snd m.records ok.long.records i there (ap (λ (e : End). e.own) own_from)))

    passes_L : is_l (row_at N i) ≡ true → passed_on v (row_at N i) wire ≡ echo v wire
    unfolding passed_on
    passes_L e = rw e

    passes_C : is_c (row_at N i) ≡ true → passed_on v (row_at N i) wire ≡ neg_ℤ (echo v wire)
    unfolding passed_on
    passes_C e = let q : is_l (row_at N i) ≡ false = rw (kind_is_lem 3 e) in rw (q, e)

    pub plain_obeys : Obeys N k m (offer N a m) i
    plain_obeys = record {
      resistor = λ e. resistive (never_open 1 refl (kind_is_lem 1 e)) (keeps_none 1 refl refl (kind_is_lem 1 e));
      closed = λ e o. resistive o (switch_keeps_none e);
      opened = λ e o. open_current o (switch_keeps_none e);
      parted = λ e. latch_of e;
      inductor = λ e. closed_current (never_open 2 refl (kind_is_lem 2 e));
      inductor_next = λ e. next_history (rw e) ∙ passes_L e ∙ echo_of (never_open 2 refl (kind_is_lem 2 e));
      capacitor = λ e. closed_current (never_open 3 refl (kind_is_lem 3 e));
      capacitor_next = λ e.
          next_history (rw e (or-true (is_l (row_at N i)))) ∙ passes_C e ∙ ap neg_ℤ (echo_of (never_open 3 refl (kind_is_lem 3 e)))
          ∙ neg_ℤ-+ℤ (from_current (offer N a m) i) (gu N (offer N a m) i);
    }

  -- ---- the two ends of a LINE

  end_through : (p i : ℕ) (h : ℤ) → NodeOf N a p → through v (leg p 0 (conductance (step N) (row_at N i)) h) ≡ gv N (offer N a m) i p
  unfolding through
  end_through p i h n = rw (ground_volt N ok.net a k (legs_now N a m), minus_zero (word v p), volt_of p (inr n))

  -- the current, and what is sent, at an end whose leg is known and which hears h
  end_current : (p i : ℕ) (h : ℤ) → NodeOf N a p → current v (leg p 0 (conductance (step N) (row_at N i)) h) ≡ gv N (offer N a m) i p +ℤ h
  unfolding current
  end_current p i h n = ap (λ (x : ℤ). x +ℤ h) (end_through p i h n)

  passes_line : (i : ℕ) (w : Leg) → is_line (row_at N i) ≡ true → passed_on v (row_at N i) w ≡ neg_ℤ (echo v w)
  unfolding passed_on
  passes_line i w e =
      let q : is_l (row_at N i) ≡ false = rw (eqb-true (kind (row_at N i)) 4 e) in
      let c : is_c (row_at N i) ≡ false = rw (eqb-true (kind (row_at N i)) 4 e) in
      rw (q, c, e)

  end_sends : (p i : ℕ) (h : ℤ) → NodeOf N a p → is_line (row_at N i) ≡ true
      → passed_on v (row_at N i) (leg p 0 (conductance (step N) (row_at N i)) h) ≡ neg_ℤ (gv N (offer N a m) i p +ℤ (gv N (offer N a m) i p +ℤ h))
  unfolding echo
  end_sends p i h n e =
      let w = leg p 0 (conductance (step N) (row_at N i)) h in
      let sum : through v w +ℤ current v w ≡ gv N (offer N a m) i p +ℤ (gv N (offer N a m) i p +ℤ h) = rw (end_through p i h n, end_current p i h n) in
      passes_line i w e ∙ ap neg_ℤ (+ℤ_comm (current v w) (through v w) ∙ sum)

  -- what an end hears
  module _ (i : ℕ) (h : ℤ) (far : ℕ → ℤ) (heardIs : h ≡ received N.head (row_at N i) k far) where
    end_obeys : (p : ℕ) (current sends : ℤ) → current ≡ gv N (offer N a m) i p +ℤ h → sends ≡ neg_ℤ (gv N (offer N a m) i p +ℤ (gv N (offer N a m) i p +ℤ h)) → EndObeys N k i p (offer N a m) current sends far
    end_obeys p current sends c d = record {
      equation = c ∙ ap (λ (x : ℤ). gv N (offer N a m) i p +ℤ x) heardIs;
      sent = d ∙ ap (λ (x : ℤ). neg_ℤ (gv N (offer N a m) i p +ℤ x)) (sym c);
    }

  module _ (i : ℕ) (there : i < length N.rows) (l : is_line (row_at N i) ≡ true) where
    node_at : (p : ℕ) → area_of N p ≡ a → 1 ≤ p → p ≤ N.nodes → NodeOf N a p
    node_at p e x y = record { area = e; low = x; high = y }

    abbrev ear : Heard
    ear = get_or ears i deaf

    room : slot_count N ≤ length m.froms
    room = rw ok.long.froms snd.slots

    room_to : slot_count N ≤ length m.tos
    room_to = rw ok.long.tos snd.slots

    pub from_obeys : area_of N (from (row_at N i)) ≡ a → EndObeys N k i (from (row_at N i)) (offer N a m) (from_current (offer N a m) i) (from_sent N (offer N a m) i k) (to_sent N m i)
    unfolding written heard_by sent_to
    from_obeys e =
        end_obeys i ear.at_from (to_sent N m i) (ap (λ (x : Heard). x.at_from) (ear_is N a k m.froms m.tos i there) ∙ rw (l, eq-eqb (area_of N (from (row_at N i))) a e))
        (from (row_at N i)) (from_current (offer N a m) i) (from_sent N (offer N a m) i k)
        (current_put N a k m.records ears v snd m.records ok.long.records i there (ap (λ (x : End). x.own) is) ∙ ap (λ (x : End). current v x.wire) is ∙ end_current (from (row_at N i)) i ear.at_from n)
        (sent_put N a k m.records ears v (λ b. b.is_from_end) snd m.froms room i there (both l (ap (λ (x : End). x.own) is)) ∙ ap (λ (x : End). passed_on v (row_at N i) x.wire) is ∙ end_sends (from (row_at N i)) i ear.at_from n l)
      where
        is : (by i).is_from_end ≡ own_end (leg (from (row_at N i)) 0 (conductance (step N) (row_at N i)) ear.at_from)
        is = from_leg N a k m.records ears i l e

        n : NodeOf N a (from (row_at N i))
        n = node_at (from (row_at N i)) e ((ok.net.row i there).line l).from_off ((ok.net.row i there).branch (line_branch (row_at N i) l)).from_in.most

    pub to_obeys : area_of N (to (row_at N i)) ≡ a → EndObeys N k i (to (row_at N i)) (offer N a m) (to_current (offer N a m) i) (to_sent N (offer N a m) i k) (from_sent N m i)
    unfolding written heard_by sent_to
    to_obeys e =
        end_obeys i ear.at_to (from_sent N m i) (ap (λ (x : Heard). x.at_to) (ear_is N a k m.froms m.tos i there) ∙ rw (l, eq-eqb (area_of N (to (row_at N i))) a e))
        (to (row_at N i)) (to_current (offer N a m) i) (to_sent N (offer N a m) i k)
        (to_put N a k m.records ears v snd m.records ok.long.records i there (both l (ap (λ (x : End). x.own) is)) ∙ ap (λ (x : End). current v x.wire) is ∙ end_current (to (row_at N i)) i ear.at_to n)
        (sent_put N a k m.records ears v (λ b. b.is_to_end) snd m.tos room_to i there (both l (ap (λ (x : End). x.own) is)) ∙ ap (λ (x : End). passed_on v (row_at N i) x.wire) is ∙ end_sends (to (row_at N i)) i ear.at_to n l)
      where
        is : (by i).is_to_end ≡ own_end (leg (to (row_at N i)) 0 (conductance (step N) (row_at N i)) ear.at_to)
        is = to_leg N a k m.records ears i l e

        n : NodeOf N a (to (row_at N i))
        n = node_at (to (row_at N i)) e ((ok.net.row i there).line l).to_off ((ok.net.row i there).branch (line_branch (row_at N i) l)).to_in.most
