-- T-pieces as a program goes: piece after piece into one buffer, counted. Once a piece is the last, or there are as many as a study may have steps, what was
-- handed over, one piece after another, is the run. Assumes nothing.
use Rattle.std.specs.Prelude.{Ok, Err, ◌+◌, ◌≤◌, ◌<◌, ◌≡◌, ◌≢◌, ◌⊎◌, ◌++◌}
use Rattle.whole.specs.Plain.{ℕ, zero, suc, refl, sym, ap, ◌∙◌, true, inl, inr, ⊎_elim, List, []}
use Rattle.whole.specs.Plain.{le-leb, replicate, length-replicate, arith, Words, every}
use Rattle.paper.specs.Replies.{Listing}
use Rattle.paper.specs.declared.Pause.TheVariants.{More, Done, Stopped}
use Rattle.paper.specs.declared.Unlisted.TheVariants.{Network, Store, State}
use Rattle.paper.specs.Limits as Limits
use Rattle.paper.specs.Network.{is_network, table_of}
use Rattle.paper.specs.Areas.{net_of}
use Rattle.paper.specs.Advance.{Memory}
use Rattle.paper.specs.Resetting.{fresh}
use Rattle.paper.specs.Listing.{run_of}
use Rattle.paper.specs.Pieces.{Listed, list_of}
use Rattle.laws_facts.proofs.Nets.{net_sound}
use Rattle.laws_pieces.specs.Calls.{onward}
use Rattle.laws_pieces.specs.Whole.{pieced, Roomy, pieces_run}

-- lent memory after n pieces into a buffer of this room
unfoldable pub after_pieces : Words → ℕ → Memory → ℕ → Memory
after_pieces net room m zero = m
after_pieces net room m (suc n) = after_pieces net room (list_of net m room).after n

-- the piece that follows n others
abbrev pub piece_at : Words → ℕ → Memory → ℕ → Listed
piece_at net room m n = list_of net (after_pieces net room m n) room

-- the bytes of n pieces, one piece after another
unfoldable pub handed : Words → ℕ → Memory → ℕ → List ℕ
handed net room m zero = []
handed net room m (suc n) = let r = list_of net m room in r.written ++ handed net room r.after n

pub after_next : (net : Words) (room : ℕ) (m : Memory) (n : ℕ) → after_pieces net room m (suc n) ≡ (piece_at net room m n).after
unfolding after_pieces
after_next net room m zero = refl
after_next net room m (suc n) = after_next net room (list_of net m room).after n

-- each of n pieces leads on to another
abbrev pub LeadOn : Words → ℕ → Memory → ℕ → Type 0
LeadOn net room m n = (i : ℕ) → i < n → (piece_at net room m i).answer ≡ Ok More

-- n pieces lead on, and after one more there is nothing to list, or it is as many as a study may have steps
pub record Complete (net : Words) (room : ℕ) (m : Memory) (n : ℕ) : Type 0 where
  pub lead : LeadOn net room m n
  pub last : ((piece_at net room m n).answer ≢ Ok More) ⊎ (Limits.steps_end ≤ suc n)

not_onward : (x : Listing) → x ≢ Ok More → (rest : List ℕ) → onward x rest ≡ []
not_onward (Ok More) h rest = absurd (h refl)
not_onward (Ok Done) h rest = refl
not_onward (Ok (Stopped a x)) h rest = refl
not_onward (Err Network) h rest = refl
not_onward (Err Store) h rest = refl
not_onward (Err State) h rest = refl

none_onward : (x : Listing) → onward x [] ≡ []
none_onward (Ok More) = refl
none_onward (Ok Done) = refl
none_onward (Ok (Stopped a x)) = refl
none_onward (Err Network) = refl
none_onward (Err Store) = refl
none_onward (Err State) = refl

-- so many buffers as are lent, all of one room, of which the last that is used is the last piece's or the last there is
handed_pieced : (net : Words) (room n k : ℕ) (m : Memory) → LeadOn net room m n → ((piece_at net room m n).answer ≢ Ok More) ⊎ (k ≡ n)
    → n ≤ k → handed net room m (suc n) ≡ pieced net (replicate (suc k) room) m
unfolding handed pieced after_pieces
handed_pieced net room zero k m more last h =
    let r = list_of net m room in
    ap (λ (x : List ℕ). r.written ++ x)
    (⊎_elim (λ e. sym (not_onward r.answer e _)) (λ e. rw e (sym (none_onward r.answer))) last)
handed_pieced net room (suc n) zero m more last h = absurd (omega arith)
handed_pieced net room (suc n) (suc k) m more last h =
    let r = list_of net m room in
    ap (λ (x : List ℕ). r.written ++ x)
    (handed_pieced net room n k r.after (λ i l. more (suc i) (omega arith)) (⊎_elim (λ e. inl e) (λ e. inr (omega arith)) last) (omega arith)
    ∙ rw (more 0 (omega arith)))

roomy : (room k : ℕ) → Limits.step_bytes ≤ room → Roomy (replicate k room)
unfolding every
roomy room zero h = refl
roomy room (suc k) h = rw (le-leb Limits.step_bytes room h, roomy room k h)

pub handed_run : (net : Words) → is_network net ≡ true → (room n : ℕ) → Limits.step_bytes ≤ room → Complete net room fresh n
    → handed net room fresh (suc n) ≡ run_of net (net_of (table_of net))
handed_run net e room n h c =
    ⊎_elim
    (λ l. by (n + Limits.steps_end) (inl l) (omega arith) (omega arith))
    (λ l. by n (inr refl) (omega arith) (omega arith))
    c.last
  where
    by : (k : ℕ) → ((piece_at net room fresh n).answer ≢ Ok More) ⊎ (k ≡ n) → n ≤ k → Limits.steps_end ≤ suc k → handed net room fresh (suc n) ≡ run_of net (net_of (table_of net))
    by k l a b = handed_pieced net room n k fresh c.lead l a ∙ pieces_run net e (replicate (suc k) room) (roomy room (suc k) h) (omega (arith, b, length-replicate (suc k) room, (net_sound net e).study.steps_in.most))
