-- T-pieces: the pieces that repeated calls list, one after another, are the listing, whatever the lengths of the buffers. Assumes nothing.
use Rattle.std.specs.Prelude.{Ok, Err}
use Rattle.std.specs.Prelude.{◌+◌, ◌-◌, ◌≤◌, ◌<◌, ◌≡◌, ◌++◌}
use Rattle.whole.specs.Plain.{ℕ, zero, suc, refl, sym, ap, ◌∙◌, true, List, [], length}
use Rattle.whole.specs.Plain.{le-leb, lt-leb, dec_le, arith, Words}
use Rattle.std.proofs.Common.{add-one}
use Rattle.paper.specs.Replies.{Listing}
use Rattle.paper.specs.declared.Pause.TheVariants.{More, Done, Stopped}
use Rattle.paper.specs.declared.Unlisted.TheVariants.{Network, Store, State}
use Rattle.whole.specs.Turns.{turns, turns_more, turns_done}
use Rattle.whole.specs.TurnLaws.{turns_keeps}
use Rattle.paper.specs.Limits as Limits
use Rattle.paper.specs.Rows.{steps}
use Rattle.paper.specs.Network.{is_network}
use Rattle.paper.specs.Areas.{Net, area_count}
use Rattle.paper.specs.Advance.{Memory}
use Rattle.paper.specs.Listing.{Run, going, area_run, step_run, closing}
use Rattle.paper.specs.Listing as Listing
use Rattle.paper.specs.Pieces.{Listed, listed, Piece, writing, ended, step_piece, turn_piece}
use Rattle.paper.specs.Pieces as Pieces
use Rattle.laws_facts.specs.Nets.{net_in}
use Rattle.laws_pieces.specs.Level.{Level}
use Rattle.laws_pieces.specs.Steps.{run_ended, Refusal, full, stopped, stepped}
use Rattle.laws_pieces.specs.Runs.{as_run, step_as, run_from, run_from_lem}

-- what follows a piece: the next one where more is to list, nothing otherwise
abbrev pub onward : Listing → List ℕ → List ℕ
onward (Ok More) rest = rest
onward (Ok Done) rest = []
onward (Ok (Stopped a x)) rest = []
onward (Err Network) rest = []
onward (Err Store) rest = []
onward (Err State) rest = []

-- what has ended stays so
pub turns_ended : (net : Words) (N : Net) (room i n : ℕ) (l : Listed) → turns i n (turn_piece net N room) (ended l) ≡ ended l
unfolding turns turn_piece
turns_ended net N room i n l = run_ended (turn_piece net N room) (λ k x. refl) (n - i) i l

still : {A : Type 0} (f : ℕ → A → A) (c : A) → ((j : ℕ) → f j c ≡ c) → (i n : ℕ) → turns i n f c ≡ c
still f c h i n = turns_keeps (λ x. x ≡ c) i n f (λ j x l k q. ap (f j) q ∙ h j) c refl

run_over : (net : Words) (N : Net) (i n : ℕ) (out : List ℕ) → turns i n (step_run net N) (Listing.ended out) ≡ Listing.ended out
unfolding step_run area_run Listing.listed
run_over net N i n out = still (step_run net N) (Listing.ended out) (λ k. ap (Listing.listed N k) (still (area_run net k) (Listing.ended out) (λ a. refl) 1 (suc (area_count N)))) i n

module _ (net : Words) (network : is_network net ≡ true) where
  abbrev N : Net
  N = net_in net

  abbrev last : ℕ
  last = suc (steps N.head)

  -- one step further, from the run's side
  further : (k : ℕ) (m : Memory) (out : List ℕ) (s : Piece) → k < steps N.head → step_piece net N (suc k) (writing m out) ≡ s
      → closing N (turns (suc (suc k)) last (step_run net N) (as_run s)) ≡ out ++ run_from net N k m
  further k m out s h e =
      let q : step_run net N (suc k) (going m out) ≡ as_run s = sym (step_as net N (suc k) (writing m out)) ∙ ap as_run e in
      let t = turns_more (suc k) last (step_run net N) (going m out) (omega arith) in
      ap (λ (x : Run). closing N (turns (suc (suc k)) last (step_run net N) x)) (sym q)
      ∙ ap (closing N) (sym (rw (add-one (suc k)) at t)) ∙ run_from_lem net N k m out

  -- a last piece: all steps are taken, or after some lines an area was refused its step
  pub data Over (l : Listed) : Type 0 where
    all_done : l.answer ≡ Ok Done → Over l
    refused : (k : ℕ) (left : k < steps N.head) (lines : List ℕ) → Refusal net network k left lines l → Over l

  pub none_follow : {l : Listed} → Over l → (rest : List ℕ) → onward l.answer rest ≡ []
  none_follow (all_done e) rest = rw e
  none_follow (refused k h lines r) rest = rw r.is

  module _ (room : ℕ) where
    -- what a piece from k steps on comes to, after the bytes `out`
    pub data Ends (k : ℕ) (m : Memory) (out : List ℕ) (l : Listed) : Type 0 where
      more : (k' : ℕ) → l.answer ≡ Ok More → Level net network k' l.after → k ≤ k' → k' < steps N.head → (length out + Limits.step_bytes ≤ room → k < k')
          → l.written ++ run_from net N k' l.after ≡ out ++ run_from net N k m → Ends k m out l
      whole : Over l → l.written ≡ out ++ run_from net N k m → Ends k m out l

    after_step : {k : ℕ} {m m' : Memory} {out out' : List ℕ} {l : Listed} → out' ++ run_from net N (suc k) m' ≡ out ++ run_from net N k m → Ends (suc k) m' out' l → Ends k m out l
    after_step e (more k' a v h b r w) = more k' a v (omega arith) b (λ q. omega arith) (w ∙ e)
    after_step e (whole a w) = whole a (w ∙ e)

    pub ends : (d k : ℕ) (m : Memory) (out : List ℕ) → k + d ≡ steps N.head → Level net network k m
        → Ends k m out (Pieces.closing N (turns (suc k) last (turn_piece net N room) (writing m out)))
    unfolding run_from Pieces.closing closing turn_piece
    ends zero k m out e v =
        let h : last ≤ suc k = omega arith in
        rw (turns_done (suc k) last (turn_piece net N room) (writing m out) h)
        (whole (all_done refl) (ap (λ (l : List ℕ). out ++ l) (ap (closing N) (sym (turns_done (suc k) last (step_run net N) (going m []) h)))))
    ends (suc d) k m out e v =
        let t = turns_more (suc k) last (turn_piece net N room) (writing m out) (omega arith) in
        rw (rw (add-one (suc k)) at t)
        (elim (dec_le (length out + Limits.step_bytes) room) [
          | no x ↦ rw (lt-leb (length out + Limits.step_bytes) room (omega arith), turns_ended net N room (suc (suc k)) last (listed (Ok More) out m))
              (more k refl v (omega arith) (omega arith) (λ q. absurd (x q)) refl)
          | yes x ↦ rw (le-leb (length out + Limits.step_bytes) room x) (elim (stepped net network k (omega arith) out m v) [
            | full m' q v' ↦ rw q (after_step (sym (run_from_lem net N (suc k) m' _) ∙ further k m out _ (omega arith) q) (ends d (suc k) m' _ (omega arith) v'))
            | stopped l q y ↦ rw (q, turns_ended net N room (suc (suc k)) last l)
                (whole (refused k (omega arith) out y) (ap (closing N) (sym (run_over net N (suc (suc k)) last l.written)) ∙ further k m out (ended l) (omega arith) q))
          ])
        ])
