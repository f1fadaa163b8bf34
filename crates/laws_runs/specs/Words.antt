-- T-order, of every step on the way: not only do two orders end alike, each area's own words right after each of its accepted steps are the same in
-- both. Assumes nothing.
use Rattle.std.specs.Prelude.{◌≡◌, ◌&&◌, ◌∷◌}
use Rattle.whole.specs.Plain.{ℕ, suc, refl, sym, ap, ◌∙◌, fun_ext, Bool, true, false, cond, List, []}
use Rattle.whole.specs.Plain.{eqb, ℤ, length, eqb-true, Words, z}
use Rattle.paper.specs.Replies.{Advance}
use Rattle.paper.specs.Answers.{accepted}
use Rattle.paper.specs.Network.{is_network}
use Rattle.paper.specs.Legs.{Heard}
use Rattle.paper.specs.Advance.{Memory, advance_of}
use Rattle.paper.proofs.Kept.{advance_refused}
use Rattle.laws_facts.specs.Nets.{net_in}
use Rattle.laws_order.specs.Same.{same}
use Rattle.laws_order.specs.Calls as C
use Rattle.laws_order.specs.Calls.{Moves, put}
use Rattle.laws_order.specs.Local.{Local, laws}
use Rattle.laws_order.specs.Orders as O
use Rattle.laws_demands.specs.Said.{IsArea}
use Rattle.laws_runs.specs.Runs.{Lent, from_reset, accepts, taken, firm}
use Rattle.laws_runs.specs.Moves.{Cell, at, Inv, owner_in, owner, hears, acc_firm, ext, keep, writes, reads, alive, unheard}
use Rattle.laws_runs.specs.Orders.{start_inv, same_counts}

-- area a's own words of the records and stores; 0 for the others
unfoldable pub own_words : Words → ℕ → Memory → Cell → ℤ
own_words net a m c = cond (eqb (owner_in (net_in net) c) a) (at m c) z

-- an accepted answer, with the area's own words right after the call
abbrev pub Live : Type 0
Live = Advance × (Cell → ℤ)

abbrev live : Words → ℕ → Memory → Live
live net a m = ((advance_of net a m).answer, own_words net a (advance_of net a m).after)

-- those of area a, in order
unfoldable pub lives : Words → ℕ → List ℕ → Memory → List Live
lives net a [] m = []
lives net a (c ∷ w) m =
    let rest = lives net a w (advance_of net c m).after in
    put (accepted (advance_of net c m).answer && eqb a c) (live net c m) rest

module _ (net : Words) (network : is_network net ≡ true) where
  abbrev rich : Moves
  rich = record { S = Memory; Ans = Live; call = live net; after = λ a m. (advance_of net a m).after; acc = λ x. accepted x.0; firm = λ x. firm x.0 }

  own_same : (a : ℕ) (m n : Memory) → ((c : Cell) → owner_in (net_in net) c ≡ a → at m c ≡ at n c) → own_words net a m ≡ own_words net a n
  unfolding own_words
  own_same a m n h =
      fun_ext (λ c. elim (eqb (owner_in (net_in net) c) a) as (λ b. eqb (owner_in (net_in net) c) a ≡ b → cond b (at m c) z ≡ cond b (at n c) z)
      [ true ↦ λ e. h c (eqb-true (owner_in (net_in net) c) a e) | false ↦ λ e. refl ] refl)

  rich_local : Local rich (Inv net network)
  rich_local = record {
    Cell = Cell;
    Val = ℤ;
    H = List Heard;
    at = at;
    owner = owner net network;
    heard = hears net network;
    acc_firm = λ x. acc_firm x.0;
    ext = ext net network;
    stay = λ a m e. advance_refused net a m e;
    keep = keep net network;
    writes = writes net network;
    alive = alive net network;
    quiet = unheard net network;
    reads = λ a m n i j h e f g.
        let p = reads net network a m n i j h e f g in
        ((λ x. (p.0 x, own_same a (advance_of net a m).after (advance_of net a n).after p.1 x)), p.1);
  }

module _ (net : Words) (lent : Memory) (ok : Lent net lent) where
  open from_reset net lent use {start}

  told_lives : (a : ℕ) (w : List ℕ) (m : Memory) → C.told (rich net ok.network) a w m ≡ lives net a w m
  unfolding C.told lives same
  told_lives a [] m = refl
  told_lives a (c ∷ w) m = rw (told_lives a w (advance_of net c m).after)

  put_length : {A B : Type 0} (p : Bool) (x : A) (y : B) (l : List A) (k : List B) → length l ≡ length k → length (put p x l) ≡ length (put p y k)
  put_length true x y l k e = ap suc e
  put_length false x y l k e = e

  lives_length : (a : ℕ) (w : List ℕ) (m : Memory) → length (lives net a w m) ≡ taken net a w m
  unfolding lives accepts
  lives_length a [] m = refl
  lives_length a (c ∷ w) m = put_length (accepted (advance_of net c m).answer && eqb a c) _ _ _ _ (lives_length a w (advance_of net c m).after)

  -- T-order, with the words of each step
  pub lives_agree : (w v : List ℕ) → ((a : ℕ) → IsArea (net_in net) a → taken net a w start ≡ taken net a v start) → (a : ℕ) → lives net a w start ≡ lives net a v start
  unfolding C.count
  lives_agree w v h a =
      let r = O.orders_agree (rich net ok.network) (Inv net ok.network) (laws (rich net ok.network) (Inv net ok.network) (rich_local net ok.network)) w v start (start_inv net lent ok)
      (λ b. ap length (told_lives b w start) ∙ lives_length b w start ∙ same_counts net lent ok w v h b ∙ sym (lives_length b v start) ∙ sym (ap length (told_lives b v start))) in
      sym (told_lives a w start) ∙ r.1 a ∙ told_lives a v start
