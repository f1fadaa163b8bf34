-- T-step: the step that 16 and 17 judge is the offer of the branch equations, and an accepted step writes it. Assumes nothing.
use Rattle.std.specs.Prelude.{Ok}
use Rattle.std.specs.Prelude.{◌≡◌}
use Rattle.whole.specs.Plain.{ℕ, refl, sym, ap, ◌∙◌, inr, ℤ, get_or, eq-eqb, Words, word}
use Rattle.paper.specs.Doubles.{as_voltage}
use Rattle.whole.specs.Folds.{and_left, and_right, both}
use Rattle.whole.specs.Members.{among_at}
use Rattle.paper.specs.Answers.{accepted}
use Rattle.paper.specs.Rows.{is_line, at}
use Rattle.paper.specs.Faults.{fixes}
use Rattle.paper.specs.Areas.{Net, free_of}
use Rattle.paper.specs.Records.{new_peak, new_peak_step}
use Rattle.paper.specs.Advance.{Memory, Advanced, written, advance_of}
use Rattle.laws_facts.specs.Nets.{row_at, net_in}
use Rattle.laws_local.specs.Own.{from_own, to_own}
use Rattle.laws_local.specs.Nodes.{NodeOf, free_of_lem}
use Rattle.laws_local.specs.Written.{count_put, peak_put, peak_step_put, records_keep}
use Rattle.laws_local.specs.Slots.{sent_other}
use Rattle.laws_local.specs.Outcome.{step_of, legs_now, taken}
use Rattle.laws_demands.specs.Said.{voltage, peak_in, peak_step_in, offer, Offered, Stepped}
use Rattle.laws_demands.specs.Judged.{Asked, asked, call_of}
use Rattle.laws_demands.specs.Volts.{fixed_volt, free_whole}
use Rattle.laws_demands.specs.Branches.{now, snd, volt_of}
use Rattle.laws_demands.proofs.Branches.{plain_obeys, from_obeys, to_obeys}
use Rattle.laws_demands.specs.Passing.{AllInRange, all_inside}
use Rattle.laws_demands.specs.Says.{Ready}
use Rattle.laws_demands.proofs.Exact.{exactly}

module _ (N : Net) (a : ℕ) (m : Memory) (ok : Asked N a m) where
  open now N a m use {k, ears, v}

  volt : (p : ℕ) → NodeOf N a p → voltage N (offer N a m) p ≡ word v p
  volt p h = volt_of N a m ok p (inr h)

  offer_is : AllInRange N a k m → Offered N a k m (offer N a m)
  unfolding written fixes
  offer_is r = record {
    next = refl;
    count = count_put N a k m.records ears v (snd N a m ok) m.records ok.long.records ok.area.one ok.area.most;
    fixed_node = λ p i h l e q. volt p h ∙ fixed_volt N ok.net a k (legs_now N a m) p i h l (both e (eq-eqb (at (row_at N i)) p q));
    free_node = λ q h. free_whole N ok.net a k (legs_now N a m) (all_inside N a m ok r) q h ∙ ap as_voltage (sym (volt (get_or (free_of N a) q 0) (free_of_lem N a (among_at (free_of N a) q 0 h)).0));
    peak = λ p h. peak_put N a k m.records ears v (snd N a m ok) m.records ok.long.records p h ∙ ap (λ (x : ℤ). new_peak k x (peak_in N m p)) (sym (volt p h));
    peak_step_lem = λ p h. peak_step_put N a k m.records ears v (snd N a m ok) m.records ok.long.records p h ∙ ap (λ (x : ℤ). new_peak_step k x (peak_in N m p) (peak_step_in N m p)) (sym (volt p h));
    plain = plain_obeys N a m ok;
    from_end = from_obeys N a m ok;
    to_end = to_obeys N a m ok;
    records = records_keep N a k (legs_now N a m) v m.records;
    froms = λ j h. sent_other N a k m.records ears v (λ b. b.is_from_end) j
        (λ i l o. let e = and_left (is_line (row_at N i)) _ o in h i l e (rw e at (from_own N a k m.records ears i (and_right (is_line (row_at N i)) _ o)))) m.froms;
    tos = λ j h. sent_other N a k m.records ears v (λ b. b.is_to_end) j
        (λ i l o. let e = and_left (is_line (row_at N i)) _ o in h i l e (to_own N a k m.records ears i e (and_right (is_line (row_at N i)) _ o))) m.tos;
  }

module _ (net : Words) (a : ℕ) (m : Memory) where
  abbrev N : Net
  N = net_in net

  -- what 16 and 17 weigh, once 14 and 15 are passed
  pub offered : Ready net a m → AllInRange N a (step_of N a m) m → Offered N a (step_of N a m) m (offer N a m)
  offered r = offer_is N a m (asked net a m r.next.judged r.next.area)

  -- an accepted step writes it
  pub writes_offer : (k : ℕ) → (advance_of net a m).answer ≡ Ok k → (advance_of net a m).after ≡ offer N a m
  writes_offer k e =
      let j = ((exactly net a m (Ok k)).0 e).0.next.judged in
      let c = call_of net a m j in
      ap (λ (r : Advanced). r.after) (c ∙ (taken N a m j.formed (ap (λ (r : Advanced). accepted r.answer) (sym c) ∙ ap accepted e)).is)

  -- T-step
  pub step : (k : ℕ) → (advance_of net a m).answer ≡ Ok k → Stepped N a k m (advance_of net a m).after
  step k e =
      let h = (exactly net a m (Ok k)).0 e in
      rw (writes_offer k e, h.1) (record { offered = offered h.0 h.3; balance = h.4 })
