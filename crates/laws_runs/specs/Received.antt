-- What a line end sent in a run: of the steps that its area has taken, the last are in their slots, each as it stood right after that accepted step.
-- Assumes nothing.
use Rattle.std.specs.Prelude.{Ok}
use Rattle.std.specs.Prelude.{◌+◌, ◌%◌, ◌≤◌, ◌<◌, ◌≡◌, ◌≢◌, ◌∷◌, ◌++◌}
use Rattle.whole.specs.Plain.{ℕ, suc, refl, sym, ap, ◌∙◌, subst, Bool, true, false}
use Rattle.whole.specs.Plain.{List, [], append_assoc, append-nil, ℤ, length, append_snoc, mod-lt, ℕ_discrete}
use Rattle.whole.specs.Plain.{arith, Words, word}
use Rattle.whole.specs.Folds.{and_left}
use Rattle.paper.specs.Answers.{accepted}
use Rattle.paper.specs.Rows.{Row, is_line, from, to}
use Rattle.paper.specs.Areas.{Net, area_of}
use Rattle.paper.specs.Records.{count_of, offset}
use Rattle.paper.specs.Legs.{End, Branch}
use Rattle.paper.specs.Advance.{Memory, Advanced, written, advance_of}
use Rattle.paper.proofs.Kept.{advance_refused}
use Rattle.laws_facts.specs.Nets.{net_in, row_at, area_of_lem}
use Rattle.laws_facts.proofs.Nets.{net_sound}
use Rattle.laws_order.specs.Ring.{slot, Holds, holds_still, holds_sent}
use Rattle.laws_local.specs.Sound.{Sound, sound}
use Rattle.laws_local.specs.Owners.{keeper_of_lem}
use Rattle.laws_local.specs.Slots.{slots_at, slot_of, some_slots, apart, sent, sent_other}
use Rattle.laws_local.specs.Outcome.{step_of, Taken}
use Rattle.laws_demands.specs.Branches.{now}
use Rattle.laws_runs.specs.Runs.{Lent, from_reset, after, accepts}
use Rattle.laws_runs.specs.Moves.{fromWord, toWord, Inv, writes, took, call_is, moved, next, own_count, other_count}
use Rattle.laws_runs.specs.Orders.{run_inv}
use Rattle.laws_runs.specs.Refused.{counts_are}

-- ---- the two ends of a line, each with its node and its store

pub data Side : Type 0 where
  from_side toSide : Side

abbrev pub far : Side → Side
far from_side = toSide
far toSide = from_side

abbrev pub node_at : Side → Row → ℕ
node_at from_side r = from r
node_at toSide r = to r

abbrev pub store_of : Side → Memory → Words
store_of from_side m = m.froms
store_of toSide m = m.tos

-- the area that has that end of line i
abbrev pub area_at : Net → Side → ℕ → ℕ
area_at N s i = area_of N (node_at s (row_at N i))

-- ---- the steps of a run

-- area b's accepted step x, among the calls of w from m on
pub record StepIn (net : Words) (m : Memory) (w : List ℕ) (b x : ℕ) : Type 0 where
  pub before : List ℕ
  pub behind : List ℕ
  pub calls : w ≡ before ++ (b ∷ behind)
  pub answer : (advance_of net b (after net before m)).answer ≡ Ok x

-- the memory right after it
abbrev pub right_after : (net : Words) (m : Memory) (w : List ℕ) (b x : ℕ) → StepIn net m w b x → Memory
right_after net m w b x s = (advance_of net b (after net s.before m)).after

-- y is what the end at side s of line i sent at its area's accepted step x: the word of step x in its store, right after that step
pub record Sent (net : Words) (m : Memory) (w : List ℕ) (s : Side) (i x : ℕ) (y : ℤ) : Type 0 where
  pub step : StepIn net m w (area_at (net_in net) s i) x
  pub value : y ≡ word (store_of s (right_after net m w (area_at (net_in net) s i) x step)) (slot_of (net_in net) i x)

pub after_snoc : (net : Words) (w : List ℕ) (c : ℕ) (m : Memory) → after net (w ++ (c ∷ [])) m ≡ (advance_of net c (after net w m)).after
unfolding after
after_snoc net [] c m = refl
after_snoc net (a ∷ w) c m = after_snoc net w c (advance_of net a m).after

sent_more : (net : Words) (m : Memory) (w : List ℕ) (c : ℕ) (s : Side) (i x : ℕ) (y : ℤ) → Sent net m w s i x y → Sent net m (w ++ (c ∷ [])) s i x y
sent_more net m w c s i x y h = record {
  step = record {
    before = h.step.before;
    behind = h.step.behind ++ (c ∷ []);
    calls = ap (λ (u : List ℕ). u ++ (c ∷ [])) h.step.calls ∙ append_assoc h.step.before (area_at (net_in net) s i ∷ h.step.behind) (c ∷ []);
    answer = h.step.answer;
  };
  value = h.value;
}

module _ (net : Words) (lent : Memory) (ok : Lent net lent) where
  open from_reset net lent use {N, start, at}

  f : Sound N
  f = sound N (net_sound net ok.network)

  abbrev inv : (w : List ℕ) → Inv net ok.network (at w)
  inv w = run_inv net lent ok w

  module _ (s : Side) (i : ℕ) (here : i < length N.rows) (line : is_line (row_at N i) ≡ true) where
    abbrev b : ℕ
    b = area_at N s i

    least : (s : Side) → 1 ≤ area_at N s i
    least from_side = f.from_area i line
    least toSide = f.to_area i line

    -- another area's step leaves the ring alone
    kept : (s : Side) (c : ℕ) (m : Memory) (r : ℕ) → Inv net ok.network m → area_at N s i ≢ c → r < slots_at N i
        → word (store_of s (advance_of net c m).after) (offset N i + r) ≡ word (store_of s m) (offset N i + r)
    kept from_side c m r j n l = writes net ok.network c m (fromWord (offset N i + r)) j (λ e. n (sym (keeper_of_lem N from i r here l) ∙ e))
    kept toSide c m r j n l = writes net ok.network c m (toWord (offset N i + r)) j (λ e. n (sym (keeper_of_lem N to i r here l) ∙ e))

    -- its own area's step writes one slot of it
    module _ (m : Memory) (j : Inv net ok.network m) (c : ℕ) (t : Taken N c m j.good) where
      open now N c m use {k, ears, v}

      miss : (end : Branch → End) (r : ℕ) → r < slots_at N i → r ≢ k % slots_at N i → (w : Words) → word (sent N c k m.records ears v end w) (offset N i + r) ≡ word w (offset N i + r)
      miss end r l n = sent_other N c k m.records ears v end (offset N i + r)
          (λ p h o. apart N i p r (k % slots_at N p) here h l (mod-lt k (some_slots N p f (and_left (is_line (row_at N p)) _ o))) (λ e. subst (λ (q : ℕ). r ≢ k % slots_at N q) e n))

      missed : (s : Side) (r : ℕ) → r < slots_at N i → r ≢ k % slots_at N i → word (store_of s (next net ok.network c m j t)) (offset N i + r) ≡ word (store_of s m) (offset N i + r)
      unfolding written
      missed from_side r l n = miss (λ b. b.is_from_end) r l n m.froms
      missed toSide r l n = miss (λ b. b.is_to_end) r l n m.tos

    -- of the steps that its area has taken in the run, as many of the last as there are slots are in them
    abbrev Kept : List ℕ → Type 0
    Kept w = Holds (store_of s (at w)) (offset N i) (slots_at N i) (count_of (at w).records b) (Sent net start w s i)

    zero_count : count_of (at []).records b ≡ 0
    unfolding accepts
    zero_count = counts_are net lent ok b (record { one = least s; most = area_of_lem N (node_at s (row_at N i)) }) []

    kept_none : Kept []
    kept_none = record { holds = λ x p q r. absurd (omega (arith, zero_count)) }

    module _ (w : List ℕ) (c : ℕ) (h : Kept w) where
      abbrev m : Memory
      m = at w

      abbrev n : Memory
      n = (advance_of net c m).after

      abbrev Sent' : ℕ → ℤ → Type 0
      Sent' = Sent net start (w ++ (c ∷ [])) s i

      more : (x : ℕ) (y : ℤ) → Sent net start w s i x y → Sent' x y
      more x y = sent_more net start w c s i x y

      some : 0 < slots_at N i
      some = some_slots N i f line

      -- a refused call, a step of another area, and a step of this one
      refused_call : accepted (advance_of net c m).answer ≡ false → Holds (store_of s n) (offset N i) (slots_at N i) (count_of n.records b) Sent'
      refused_call e =
          subst (λ (n : Memory). Holds (store_of s n) (offset N i) (slots_at N i) (count_of n.records b) Sent') (sym (advance_refused net c m e))
          (holds_still (store_of s m) (store_of s m) (offset N i) (slots_at N i) (count_of m.records b) (Sent net start w s i) Sent' some h more (λ r _. refl))

      other_area : accepted (advance_of net c m).answer ≡ true → c ≢ b → Holds (store_of s n) (offset N i) (slots_at N i) (count_of n.records b) Sent'
      other_area e d =
          let q : count_of n.records b ≡ count_of m.records b =
          ap (λ (m : Memory). count_of m.records b) (moved net ok.network c m (inv w) e) ∙ other_count net ok.network c m (inv w) (took net ok.network c m (inv w) e) b (least s) (omega (arith, area_of_lem N (node_at s (row_at N i)), f.areas)) d in
          rw q
          (holds_still (store_of s m) (store_of s n) (offset N i) (slots_at N i) (count_of m.records b) (Sent net start w s i) Sent' some h more
          (λ r l. kept s c m r (inv w) (λ p. d (sym p)) l))

      own_area : accepted (advance_of net c m).answer ≡ true → c ≡ b → Holds (store_of s n) (offset N i) (slots_at N i) (count_of n.records b) Sent'
      own_area e d =
          let t = took net ok.network c m (inv w) e in
          let mv = moved net ok.network c m (inv w) e in
          let k = suc (count_of m.records b) in
          let is : step_of N c m ≡ k = ap (λ (a : ℕ). suc (count_of m.records a)) d in
          let q : count_of n.records b ≡ k = ap (λ (m : Memory). count_of m.records b) mv ∙ subst (λ (a : ℕ). count_of (next net ok.network c m (inv w) t).records a ≡ step_of N c m) d (own_count net ok.network c m (inv w) t) ∙ is in
          let took_it : (advance_of net b m).answer ≡ Ok k = rw d at (ap (λ (r : Advanced). r.answer) (call_is net ok.network c m (inv w) e)) in
          let new : Sent' k (slot (store_of s n) (offset N i) (slots_at N i) k) = record {
            step = record { before = w; behind = []; calls = ap (λ (a : ℕ). w ++ (a ∷ [])) d; answer = took_it };
            value = ap (λ (a : ℕ). word (store_of s (advance_of net a m).after) (slot_of N i k)) d;
          } in
          rw q
          (holds_sent (store_of s m) (store_of s n) (offset N i) (slots_at N i) (count_of m.records b) (Sent net start w s i) Sent' some h more new
          (λ r l u. ap (λ (m : Memory). word (store_of s m) (offset N i + r)) mv ∙ missed m (inv w) c t s r l (λ p. u (p ∙ ap (λ (x : ℕ). x % slots_at N i) is))))

      kept_next : Kept (w ++ (c ∷ []))
      kept_next = subst (λ (n : Memory). Holds (store_of s n) (offset N i) (slots_at N i) (count_of n.records b) Sent') (sym (after_snoc net w c start)) (go (accepted (advance_of net c m).answer) refl (ℕ_discrete c b))
        where
          go : (x : Bool) → accepted (advance_of net c m).answer ≡ x → Dec (c ≡ b) → Holds (store_of s n) (offset N i) (slots_at N i) (count_of n.records b) Sent'
          go false e d = refused_call e
          go true e (yes d) = own_area e d
          go true e (no d) = other_area e d

    kept_on : (u w : List ℕ) → Kept u → Kept (u ++ w)
    kept_on u [] h = subst Kept (sym (append-nil u)) h
    kept_on u (c ∷ w) h = subst Kept (append_snoc u c w) (kept_on (u ++ (c ∷ [])) w (kept_next u c h))

    pub slots_hold : (w : List ℕ) → Kept w
    slots_hold w = kept_on [] w kept_none
