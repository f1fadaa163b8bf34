-- States in step: all areas have taken k steps, or those before one of them have taken one more. There no area waits for another, and an accepted
-- advance leads on. Assumes nothing.
use Rattle.std.specs.Prelude.{◌+◌, ◌-◌, ◌≤◌, ◌<◌, ◌≡◌}
use Rattle.whole.specs.Plain.{ℕ, suc, sym, ap, ◌∙◌, true, false, true≢false, eqb, length, le-leb, lt-leb, eqb-true, ℕ_discrete, dec_lt, arith, Words, numbers}
use Rattle.whole.specs.Folds.{both, every_at, length_numbers, get_d_numbers}
use Rattle.paper.specs.Rows.{from, to, steps}
use Rattle.paper.specs.Network.{is_network}
use Rattle.paper.specs.Areas.{Net, area_of, area_count}
use Rattle.paper.specs.Records.{count_of}
use Rattle.paper.specs.Answers.{accepted}
use Rattle.paper.specs.Advance.{Memory, Advanced, ready, on_next, on_net, advance_of}
use Rattle.paper.specs.Pieces.{steps_taken, level}
use Rattle.laws_facts.specs.Nets.{net_in, row_at, area_of_lem}
use Rattle.laws_facts.proofs.Nets.{net_sound}
use Rattle.laws_local.specs.Sound.{Sound, sound}
use Rattle.laws_local.specs.Slots.{delay_at}
use Rattle.laws_local.specs.Waits.{Free, late_not}
use Rattle.laws_local.specs.Outcome.{StepRefusal, Outcome, no_area, done, waits, stops, takes, outcome, Taken, taken}
use Rattle.laws_runs.specs.Moves.{Inv, called, keep, next, own_count, other_count}

module _ (net : Words) (network : is_network net ≡ true) where
  abbrev N : Net
  N = net_in net

  snd : Sound N
  snd = sound N (net_sound net network)

  -- areas before a have taken suc k steps, and the others k
  pub record Partway (k a : ℕ) (m : Memory) : Type 0 where
    pub inv : Inv net network m
    pub past : (b : ℕ) → 1 ≤ b → b < a → b ≤ area_count N → count_of m.records b ≡ suc k
    pub left : (b : ℕ) → 1 ≤ b → a ≤ b → b ≤ area_count N → count_of m.records b ≡ k

  pub record Level (k : ℕ) (m : Memory) : Type 0 where
    pub inv : Inv net network m
    pub counts : (b : ℕ) → 1 ≤ b → b ≤ area_count N → count_of m.records b ≡ k

  -- by the call's own test
  pub level_counts : (recs : Words) → level N recs ≡ true → (b : ℕ) → 1 ≤ b → b ≤ area_count N → count_of recs b ≡ steps_taken N recs
  unfolding level
  level_counts recs e b o q =
      let i : b - 1 < length (numbers 1 (area_count N)) = rw length_numbers (omega arith) in
      let n : 1 + (b - 1) ≡ b = omega arith in
      eqb-true (count_of recs b) (steps_taken N recs)
      (rw (get_d_numbers 1 (area_count N) (b - 1) 0 (omega arith), n) at (every_at (λ a. eqb (count_of recs a) (steps_taken N recs)) (numbers 1 (area_count N)) 0 (b - 1) e i))

  pub level_start : {k : ℕ} {m : Memory} → Level k m → Partway k 1 m
  level_start l = record { inv = l.inv; past = λ b o h q. absurd (omega arith); left = λ b o h q. l.counts b o q }

  pub level_end : {k : ℕ} {m : Memory} → Partway k (suc (area_count N)) m → Level (suc k) m
  level_end p = record { inv = p.inv; counts = λ b o q. p.past b o (omega arith) q }

  module _ (k a : ℕ) (m : Memory) (p : Partway k a m) (one : 1 ≤ a) (most : a ≤ area_count N) where
    own : count_of m.records a ≡ k
    own = p.left a one (omega arith) most

    any : (b : ℕ) → 1 ≤ b → b ≤ area_count N → k ≤ count_of m.records b
    any b o q = elim (dec_lt b a) [ yes h ↦ omega (arith, p.past b o h q) | no h ↦ omega (arith, p.left b o (omega arith) q) ]

    -- T-fewest: every other area has taken k steps at least, and a line's delay is one at least
    free : Free N a (suc k) m.records
    free i h l =
        let d : 1 ≤ delay_at N i = snd.travels i l in
        record {
          at_from = λ e. omega (arith, any (area_of N (to (row_at N i))) (snd.to_area i l) (area_of_lem N (to (row_at N i))));
          at_to = λ e. omega (arith, any (area_of N (from (row_at N i))) (snd.from_area i l) (area_of_lem N (from (row_at N i))));
        }

    -- the area's step is k + 1, and it does not wait
    pub is_ready : k < steps N.head → advance_of net a m ≡ ready N a (suc k) m
    unfolding on_net on_next
    is_ready h =
        called net network a m p.inv
        ∙ rw (p.inv.good, le-leb 1 a one, le-leb a (area_count N) most, own, lt-leb (steps N.head) k h, late_not N a (suc k) m.records free)

    -- so only its step may be refused: 14 to 17
    pub step_refused : k < steps N.head → accepted (advance_of net a m).answer ≡ false → StepRefusal (advance_of net a m).answer
    step_refused h e = go (outcome N a m p.inv.good)
      where
        is : advance_of net a m ≡ on_net N a m
        is = called net network a m p.inv

        go : Outcome N a m → StepRefusal (advance_of net a m).answer
        go (no_area q r) = absurd (true≢false (sym (both (le-leb 1 a one) (le-leb a (area_count N) most)) ∙ q))
        go (done q d r) = absurd (true≢false (sym d ∙ rw own (lt-leb (steps N.head) k h)))
        go (waits n q d l r) = let z : suc n ≡ 0 = sym l ∙ rw own (late_not N a (suc k) m.records free) in absurd (omega arith)
        go (stops x s q d l v r) = rw (is ∙ r) s
        go (takes q d l v r) = absurd (true≢false (rw (is ∙ r) at e))

    module _ (e : accepted (advance_of net a m).answer ≡ true) where
      t : Taken N a m p.inv.good
      t = taken N a m p.inv.good (rw (called net network a m p.inv) at e)

      after_is : (advance_of net a m).after ≡ next net network a m p.inv t
      after_is = ap (λ (r : Advanced). r.after) (called net network a m p.inv ∙ t.is)

      few : (b : ℕ) → b ≤ area_count N → b ≤ 32
      few b q = omega (arith, snd.areas)

      -- an accepted advance leads on
      pub leads_on : Partway k (suc a) (advance_of net a m).after
      leads_on =
          record {
            inv = keep net network a m p.inv;
            past = λ b o h q. rw after_is (elim (ℕ_discrete a b) [
              | yes x ↦ rw (← x) (own_count net network a m p.inv t ∙ ap suc own)
              | no x ↦ other_count net network a m p.inv t b o (few b q) x ∙ p.past b o (omega arith) q
            ]);
            left = λ b o h q. rw after_is (other_count net network a m p.inv t b o (few b q) (λ x. omega arith) ∙ p.left b o (omega arith) q);
          }
