-- The calls of an area as moves that do not disturb one another: each writes only its own words, reads only those and what it hears, and what
-- another is about to hear is left alone. Assumes nothing.
use Rattle.std.specs.Prelude.{Ok, Err}
use Rattle.std.specs.Prelude.{◌≤◌, ◌≡◌, ◌≢◌, ◌&&◌}
use Rattle.whole.specs.Plain.{ℕ, suc, refl, sym, ap, ◌∙◌, true, false, cond, not, true≢false, List}
use Rattle.whole.specs.Plain.{[], leb, ℤ, ext_get_or, leb-true, ℕ_discrete, arith, Words, z, word}
use Rattle.paper.specs.Replies.{Advance}
use Rattle.paper.specs.declared.Refusal.TheVariants.{Network, Store, State, Area, Done, Wait, Floating, Range, Unbalanced, History}
use Rattle.whole.specs.Folds.{and_left, and_right}
use Rattle.paper.specs.Answers.{accepted}
use Rattle.paper.specs.Rows.{from, to}
use Rattle.paper.specs.Network.{is_network}
use Rattle.paper.specs.Areas.{Net, area_of, area_count}
use Rattle.paper.specs.Records.{count_of, well_formed, owner_of}
use Rattle.paper.specs.Legs.{Heard, heard}
use Rattle.paper.specs.Advance.{Memory, memory, Advanced, advanced, written, first_late, on_net, advance_of}
use Rattle.paper.proofs.Kept.{advance_refused}
use Rattle.laws_facts.specs.Nets.{NetSound, row_at, net_in, area_of_lem}
use Rattle.laws_facts.proofs.Nets.{net_sound}
use Rattle.laws_order.specs.Calls.{Moves}
use Rattle.laws_order.specs.Local.{Local}
use Rattle.laws_local.specs.Sound.{Sound, sound}
use Rattle.laws_local.specs.Owners.{keeper_of, writes_own}
use Rattle.laws_local.specs.Waits.{Free, late_not}
use Rattle.laws_local.proofs.Waits.{not_late}
use Rattle.laws_local.specs.Outcome.{step_of, legs_now, volts_of, late_now, is_area, is_done, Outcome, no_area, done, waits, stops, takes, outcome, StepRefusal, floating14, range15, unbalanced16, history17, Taken}
use Rattle.laws_local.specs.Outcome as Outcome
use Rattle.laws_local.specs.Touch.{touch_same}
use Rattle.laws_local.specs.Depends.{SameOut, SameLengths, same_out, same_count}
use Rattle.laws_local.proofs.Quiet.{quiet}
use Rattle.laws_stays.specs.Stays.{Long, counted, uncounted}
use Rattle.laws_stays.proofs.Stays.{stays}
use Rattle.laws_demands.specs.States.{long_fits}
use Rattle.laws_runs.specs.Runs.{firm}

pub data Cell : Type 0 where
  record_word fromWord toWord : ℕ → Cell

abbrev pub at : Memory → Cell → ℤ
at m (record_word j) = word m.records j
at m (fromWord j) = word m.froms j
at m (toWord j) = word m.tos j

pub acc_firm : (x : Advance) → accepted x ≡ true → firm x ≡ true
acc_firm (Ok k) e = refl
acc_firm (Err Network) e = refl
acc_firm (Err Store) e = refl
acc_firm (Err State) e = refl
acc_firm (Err Area) e = refl
acc_firm (Err Done) e = refl
acc_firm (Err (Wait b)) e = absurd (true≢false (sym e))
acc_firm (Err (Floating n)) e = refl
acc_firm (Err (Range n)) e = refl
acc_firm (Err (Unbalanced n)) e = refl
acc_firm (Err (History b)) e = refl

pub step_firm : {x : Advance} → StepRefusal x → (firm x ≡ true) × (accepted x ≡ false)
step_firm floating14 = (refl, refl)
step_firm range15 = (refl, refl)
step_firm unbalanced16 = (refl, refl)
step_firm history17 = (refl, refl)

-- ---- over a net

module _ (N : Net) (a : ℕ) (m : Memory) (good : well_formed N m.records m.froms m.tos ≡ true) where
  -- an answer other than 13: the area has no next step, or its far values are sent
  pub firm_free : firm (on_net N a m).answer ≡ true → is_area N a m ≡ true → is_done N a m ≡ false → late_now N a m ≡ 0
  firm_free f p q = go (outcome N a m good)
    where
      go : Outcome N a m → late_now N a m ≡ 0
      go (no_area e x) = absurd (true≢false (sym p ∙ e))
      go (done e d x) = absurd (true≢false (sym d ∙ q))
      go (waits r e d l x) = absurd (true≢false (sym f ∙ ap (λ (y : Advanced). firm y.answer) x))
      go (stops y s e d l v x) = l
      go (takes e d l v x) = l

  pub free_firm : (is_area N a m ≡ true → is_done N a m ≡ false → late_now N a m ≡ 0) → firm (on_net N a m).answer ≡ true
  free_firm h = go (outcome N a m good)
    where
      go : Outcome N a m → firm (on_net N a m).answer ≡ true
      go (no_area e x) = rw x
      go (done e d x) = rw x
      go (waits r e d l x) = absurd (omega (arith, sym (h e d) ∙ l))
      go (stops y s e d l v x) = rw x (step_firm s).0
      go (takes e d l v x) = rw x

-- ---- over a network record

-- whose each word is
abbrev pub owner_in : Net → Cell → ℕ
owner_in N (record_word j) = owner_of N j
owner_in N (fromWord j) = keeper_of N from j
owner_in N (toWord j) = keeper_of N to j

module _ (net : Words) (network : is_network net ≡ true) where
  abbrev pub N : Net
  N = net_in net

  s : NetSound N
  s = net_sound net network

  snd : Sound N
  snd = sound N s

  -- the invariant of a run: what is lent has its lengths, and is well formed
  pub record Inv (m : Memory) : Type 0 where
    pub long : Long m
    pub good : well_formed N m.records m.froms m.tos ≡ true

  -- no answer 8, 9 or 10
  pub called : (a : ℕ) (m : Memory) → Inv m → advance_of net a m ≡ on_net N a m
  unfolding advance_of
  called a m i = rw (long_fits net m network i.long, network)

  abbrev pub moves : Moves
  moves = record { S = Memory; Ans = Advance; call = λ a m. (advance_of net a m).answer; after = λ a m. (advance_of net a m).after; acc = accepted; firm = firm }

  abbrev pub owner : Cell → ℕ
  owner = owner_in N

  -- what area a's next step hears; nothing, where it has no next step
  unfoldable pub hears : ℕ → Memory → List Heard
  hears a m = cond (is_area N a m && not (is_done N a m)) (heard N a (step_of N a m) m.froms m.tos) []

  pub keep : (a : ℕ) (m : Memory) → Inv m → Inv (advance_of net a m).after
  keep a m i = rw (called a m i) (let p = stays N s a m i.long i.good in record { long = p.0; good = p.1 })

  pub ext : (m n : Memory) → Inv m → Inv n → ((c : Cell) → at m c ≡ at n c) → m ≡ n
  ext m n i j h = λ x. memory
      (ext_get_or z m.records n.records (i.long.records ∙ sym j.long.records) (λ k _. h (record_word k)) x)
      (ext_get_or z m.froms n.froms (i.long.froms ∙ sym j.long.froms) (λ k _. h (fromWord k)) x)
      (ext_get_or z m.tos n.tos (i.long.tos ∙ sym j.long.tos) (λ k _. h (toWord k)) x)

  pub writes : (a : ℕ) (m : Memory) (c : Cell) → Inv m → owner c ≢ a → at (advance_of net a m).after c ≡ at m c
  writes a m (record_word j) i n = rw (called a m i) ((writes_own N a m snd i.good).records j n)
  writes a m (fromWord j) i n = rw (called a m i) ((writes_own N a m snd i.good).froms j n)
  writes a m (toWord j) i n = rw (called a m i) ((writes_own N a m snd i.good).tos j n)

  same_long : (m n : Memory) → Inv m → Inv n → SameLengths m n
  same_long m n i j = record { records = i.long.records ∙ sym j.long.records; froms = i.long.froms ∙ sym j.long.froms; tos = i.long.tos ∙ sym j.long.tos }

  module _ (a : ℕ) (m n : Memory) (i : Inv m) (j : Inv n) (own : (c : Cell) → owner c ≡ a → at m c ≡ at n c) (ears : hears a m ≡ hears a n)
      (f : firm (on_net N a m).answer ≡ true) (g : firm (on_net N a n).answer ≡ true) where
    steps_same : is_area N a m ≡ true → step_of N a m ≡ step_of N a n
    steps_same p = ap suc (same_count N a m n snd (same_long m n i j) i.good j.good (λ k. own (record_word k)) p)

    done_same : is_area N a m ≡ true → is_done N a m ≡ false → is_done N a n ≡ false
    done_same p q = rw (← same_count N a m n snd (same_long m n i j) i.good j.good (λ k. own (record_word k)) p) q

    both_free : is_area N a m ≡ true → is_done N a m ≡ false → first_late N a (step_of N a m) m.records 0 N.rows ≡ first_late N a (step_of N a m) n.records 0 N.rows
    both_free p q = firm_free N a m i.good f p q ∙ sym (rw (steps_same p) (firm_free N a n j.good g p (done_same p q)))

    both_hear : is_area N a m ≡ true → is_done N a m ≡ false → heard N a (step_of N a m) m.froms m.tos ≡ heard N a (step_of N a m) n.froms n.tos
    unfolding hears
    both_hear p q = rw (p, q, done_same p q, ← steps_same p) at ears

    same : SameOut m n (on_net N a m) (on_net N a n)
    same = same_out N a m n snd (same_long m n i j) i.good j.good (λ k. own (record_word k)) both_free both_hear

    same_cells : (c : Cell) → owner c ≡ a → at (on_net N a m).after c ≡ at (on_net N a n).after c
    same_cells (record_word k) o = touch_same m.records (on_net N a m).after.records n.records (on_net N a n).after.records k (same.records k) (own (record_word k) o)
    same_cells (fromWord k) o = touch_same m.froms (on_net N a m).after.froms n.froms (on_net N a n).after.froms k (same.froms k) (own (fromWord k) o)
    same_cells (toWord k) o = touch_same m.tos (on_net N a m).after.tos n.tos (on_net N a n).after.tos k (same.tos k) (own (toWord k) o)

  pub reads : (a : ℕ) (m n : Memory) → Inv m → Inv n → ((c : Cell) → owner c ≡ a → at m c ≡ at n c) → hears a m ≡ hears a n
      → firm (advance_of net a m).answer ≡ true → firm (advance_of net a n).answer ≡ true
      → ((advance_of net a m).answer ≡ (advance_of net a n).answer) × ((c : Cell) → owner c ≡ a → at (advance_of net a m).after c ≡ at (advance_of net a n).after c)
  reads a m n i j own ears f g =
      rw (called a m i, called a n j) (
        (same a m n i j own ears (rw (called a m i) at f) (rw (called a n j) at g)).answer,
        same_cells a m n i j own ears (rw (called a m i) at f) (rw (called a n j) at g),
      )

  -- ---- an accepted step of area a, for another area b

  module _ (a : ℕ) (m : Memory) (i : Inv m) (t : Taken N a m i.good) where
    abbrev pub next : Memory
    next = written N a (step_of N a m) (legs_now N a m) (volts_of N a (step_of N a m) (legs_now N a m)) m

    abbrev ears : List Heard
    ears = heard N a (step_of N a m) m.froms m.tos

    pub own_count : count_of next.records a ≡ step_of N a m
    unfolding written
    own_count = counted N snd m i.long a (step_of N a m) t.one t.most ears (volts_of N a (step_of N a m) (legs_now N a m))

    pub other_count : (b : ℕ) → 1 ≤ b → b ≤ 32 → a ≢ b → count_of next.records b ≡ count_of m.records b
    unfolding written
    other_count b l h n = uncounted N snd m i.long a (step_of N a m) t.one t.most ears (volts_of N a (step_of N a m) (legs_now N a m)) b l h (λ e. n (sym e))

    grows : (b : ℕ) → 1 ≤ b → b ≤ 32 → count_of m.records b ≤ count_of next.records b
    grows b l h = elim (ℕ_discrete a b) [ yes e ↦ rw (← e, own_count) (omega arith) | no n ↦ rw (other_count b l h n) (omega arith) ]

    few : (n : ℕ) → area_of N n ≤ 32
    few n = omega (arith, area_of_lem N n, snd.areas)

    module _ (b : ℕ) (n : a ≢ b) where
      least : is_area N b m ≡ true → 1 ≤ b
      least p = leb-true 1 b (and_left (leb 1 b) (leb b (area_count N)) p)

      largest : is_area N b m ≡ true → b ≤ 32
      largest p = omega (arith, leb-true b (area_count N) (and_right (leb 1 b) (leb b (area_count N)) p), snd.areas)

      steps_as : is_area N b m ≡ true → step_of N b next ≡ step_of N b m
      steps_as p = ap suc (other_count b (least p) (largest p) n)

      done_as : is_area N b m ≡ true → is_done N b next ≡ is_done N b m
      done_as p = rw (other_count b (least p) (largest p) n)

      free_as : is_area N b m ≡ true → Free N b (step_of N b m) m.records → Free N b (step_of N b next) next.records
      free_as p h j l e =
          let q = h j l e in
          let k : count_of next.records b ≡ count_of m.records b = other_count b (least p) (largest p) n in
          record {
            at_from = λ o. omega (arith, q.at_from o, grows (area_of N (to (row_at N j))) (snd.to_area j e) (few (to (row_at N j))));
            at_to = λ o. omega (arith, q.at_to o, grows (area_of N (from (row_at N j))) (snd.from_area j e) (few (from (row_at N j))));
          }

      still_free : firm (on_net N b m).answer ≡ true → is_area N b m ≡ true → is_done N b m ≡ false → Free N b (step_of N b m) m.records
      still_free f p q = not_late N b (step_of N b m) m.records (firm_free N b m i.good f p q)

      pub next_firm : Inv next → firm (on_net N b m).answer ≡ true → firm (on_net N b next).answer ≡ true
      next_firm i' f =
          free_firm N b next i'.good (λ p q.
          late_not N b (step_of N b next) next.records (free_as p (still_free f p (sym (done_as p) ∙ q))))

      same_heard : firm (on_net N b m).answer ≡ true → is_area N b m ≡ true → is_done N b m ≡ false
          → heard N b (step_of N b m) next.froms next.tos ≡ heard N b (step_of N b m) m.froms m.tos
      unfolding written
      same_heard f p e =
          quiet N a b m.records ears (volts_of N a (step_of N a m) (legs_now N a m)) snd (not_late N a (step_of N a m) m.records t.free) (still_free f p e) m.froms m.tos

      pub next_hears : firm (on_net N b m).answer ≡ true → hears b next ≡ hears b m
      unfolding hears
      next_hears f =
          let u = heard N b (step_of N b next) next.froms next.tos in
          let v = heard N b (step_of N b m) m.froms m.tos in
          elim (is_area N b m) as (λ x. is_area N b m ≡ x → cond (x && not (is_done N b next)) u [] ≡ cond (x && not (is_done N b m)) v []) [
            | true ↦ λ p. rw (done_as p)
                (elim (is_done N b m) as (λ y. is_done N b m ≡ y → cond (not y) u [] ≡ cond (not y) v []) [ true ↦ λ e. refl | false ↦ λ e. rw (steps_as p) (same_heard f p e) ] refl)
            | false ↦ λ p. refl
          ] refl

  -- an accepted call is such a step
  module _ (a : ℕ) (m : Memory) (i : Inv m) (ok : accepted (advance_of net a m).answer ≡ true) where
    pub took : Taken N a m i.good
    took = Outcome.taken N a m i.good (rw (called a m i) at ok)

    pub call_is : advance_of net a m ≡ advanced (Ok (step_of N a m)) (next a m i took)
    call_is = called a m i ∙ took.is

    pub moved : (advance_of net a m).after ≡ next a m i took
    moved = ap (λ (r : Advanced). r.after) call_is

  module _ (a b : ℕ) (m : Memory) (i : Inv m) (n : a ≢ b) (ok : accepted (advance_of net a m).answer ≡ true) (f : firm (advance_of net b m).answer ≡ true) where
    pub alive : firm (advance_of net b (advance_of net a m).after).answer ≡ true
    alive =
        let i' : Inv (next a m i (took a m i ok)) = rw (moved a m i ok) at (keep a m i) in
        rw (moved a m i ok, called b (next a m i (took a m i ok)) i') (next_firm a m i (took a m i ok) b n i' (rw (called b m i) at f))

    pub unheard : hears b (advance_of net a m).after ≡ hears b m
    unheard = rw (moved a m i ok) (next_hears a m i (took a m i ok) b n (rw (called b m i) at f))

  pub local : Local moves Inv
  local = record {
    Cell = Cell;
    Val = ℤ;
    H = List Heard;
    at = at;
    owner = owner;
    heard = hears;
    acc_firm = acc_firm;
    ext = ext;
    stay = λ a m e. advance_refused net a m e;
    keep = keep;
    writes = writes;
    reads = reads;
    alive = alive;
    quiet = unheard;
  }
