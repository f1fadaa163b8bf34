-- T-ends and T-reach of runs that mix the two calls. Assumes nothing.
use Rattle.std.specs.Prelude.{◌≡◌}
use Rattle.whole.specs.Plain.{ℕ, sym, ◌∙◌, List, Words}
use Rattle.paper.specs.Replies.{Advance}
use Rattle.paper.specs.Rows.{steps}
use Rattle.paper.specs.Records.{count_of}
use Rattle.paper.specs.Advance.{Memory, advance_of}
use Rattle.laws_local.specs.Outcome.{StepRefusal}
use Rattle.laws_demands.specs.Said.{IsArea}
use Rattle.laws_runs.specs.Runs.{Lent, from_reset, accepts}
use Rattle.laws_runs.specs.Ends.{Quits, Tied, Ended}
use Rattle.laws_runs.proofs.Ends.{ends_agree, takes_all}
use Rattle.laws_mixed.specs.Mixed.{Call, at, run}
use Rattle.laws_mixed.proofs.Mixed.{is_run}

module _ (net : Words) (lent : Memory) (ok : Lent net lent) where
  open from_reset net lent use {N, start}

  abbrev left : List Call → Memory
  left w = at net lent ok w

  abbrev made : List Call → List ℕ
  made w = run net lent ok w

  -- what an area answers where a run has come to
  abbrev pub says : ℕ → List Call → Advance
  says a w = (advance_of net a (left w)).answer

  -- "until in one unchanged state every area answers DONE, WAIT or one of 14 to 17"
  abbrev pub Over : List Call → Type 0
  Over w = (a : ℕ) → IsArea N a → Quits (says a w)

  over_run : (w : List Call) → Over w → Ended net lent ok (made w)
  over_run w h a i = rw (says, is_run net lent ok w) at (h a i)

  -- "end with the same count in every area and the same records"
  pub mixed_ends : (w v : List Call) → Over w → Over v
      → (left w ≡ left v) × ((a : ℕ) → accepts net a (made w) start ≡ accepts net a (made v) start)
  mixed_ends w v p q =
      let r = ends_agree net lent ok (made w) (made v) (over_run w p) (over_run v q) in
      (is_run net lent ok w ∙ r.1.0 ∙ sym (is_run net lent ok v), r.1.1)

  -- "every area not stopped by 14 to 17 and not tied by a chain of lines to one that is has taken all its steps"
  pub mixed_reach : (w : List Call) → Over w → (a : ℕ) → ((x : ℕ) → Tied N a x → StepRefusal (says x w) → ⊥) → IsArea N a → count_of (left w).records a ≡ steps N.head
  mixed_reach w h a free o =
      rw (is_run net lent ok w) (takes_all net lent ok (made w) (over_run w h) a (λ x t s. free x t (rw (says, is_run net lent ok w) s)) o)
