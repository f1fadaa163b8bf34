-- Runs that mix the two calls which advance: from a reset, any list of calls of `advance` and of `list`, refused ones among them. Each leaves what a
-- run of advances leaves, so the promises of such runs are promises of mixed ones. Assumes nothing.
use Rattle.std.specs.Prelude.{◌≡◌, ◌∷◌, ◌≤◌, ◌<◌}
use Rattle.whole.specs.Plain.{ℕ, refl, sym, ap, ◌∙◌, true, List, [], length, Words}
use Rattle.paper.specs.Rows.{is_line, is_breaker}
use Rattle.paper.specs.Records.{count_of}
use Rattle.paper.specs.Advance.{Memory}
use Rattle.laws_facts.specs.Nets.{row_at}
use Rattle.laws_demands.specs.Said.{IsArea}
use Rattle.laws_demands.specs.Judged.{Judged}
use Rattle.laws_demands.specs.States.{long_fits}
use Rattle.laws_runs.specs.Runs.{Lent, from_reset, after, accepts, taken}
use Rattle.laws_runs.specs.Orders.{run_inv}
use Rattle.laws_runs.proofs.Orders.{orders_agree}
use Rattle.laws_runs.specs.Refused.{counts_are}
use Rattle.laws_runs.specs.Received.{Side, area_at, StepIn}
use Rattle.laws_runs.specs.Heard.{Receives}
use Rattle.laws_runs.proofs.Heard.{received, once}
use Rattle.laws_peaks.specs.Peaks.{Peak}
use Rattle.laws_peaks.proofs.Peaks.{peaks}
use Rattle.laws_breakers.specs.Breakers.{Breaker}
use Rattle.laws_breakers.proofs.Breakers.{breakers}
use Rattle.laws_mixed.specs.Made.{after_append, list_is_calls}
use Rattle.laws_mixed.specs.Mixed as Mixed
use Rattle.laws_mixed.specs.Mixed.{Call, advance, list, leaves, after_all, made, advances}

module _ (net : Words) where
  leaves_made : (c : Call) (m : Memory) → leaves net c m ≡ after net (made net c m) m
  unfolding after
  leaves_made (advance a) m = refl
  leaves_made (list room) m = (list_is_calls net m room).leaves

  -- every mixed run leaves what a run of advances leaves
  pub mixed_is_run : (w : List Call) (m : Memory) → after_all net w m ≡ after net (advances net w m) m
  unfolding after_all advances after
  mixed_is_run [] m = refl
  mixed_is_run (c ∷ w) m =
      mixed_is_run w (leaves net c m) ∙ ap (after net (advances net w (leaves net c m))) (leaves_made c m)
      ∙ sym (after_append net (made net c m) (advances net w (leaves net c m)) m)

module _ (net : Words) (lent : Memory) (ok : Lent net lent) where
  open from_reset net lent use {N, start}

  abbrev at : List Call → Memory
  at = Mixed.at net lent ok

  abbrev run : List Call → List ℕ
  run = Mixed.run net lent ok

  pub is_run : (w : List Call) → at w ≡ after net (run w) start
  is_run w = mixed_is_run net w start

  -- T-stays: what a mixed run leaves passes 8, 9 and 10
  pub mixed_stays : (w : List Call) → Judged net (at w)
  mixed_stays w =
      let i = run_inv net lent ok (run w) in
      rw (is_run w) (record { lengths = long_fits net _ ok.network i.long; network = ok.network; formed = i.good })

  -- the count in the records is the number of accepted advances, those inside listings too
  pub mixed_counts : (a : ℕ) → IsArea N a → (w : List Call) → count_of (at w).records a ≡ taken net a (run w) start
  mixed_counts a h w = rw (is_run w) (counts_are net lent ok a h (run w))

  -- T-order: two mixed runs that have taken every area equally far agree in all records and line stores, and in each area's accepted answers
  pub mixed_orders : (w v : List Call) → ((a : ℕ) → IsArea N a → count_of (at w).records a ≡ count_of (at v).records a)
      → (at w ≡ at v) × ((a : ℕ) → accepts net a (run w) start ≡ accepts net a (run v) start)
  mixed_orders w v h =
      let r = orders_agree net lent ok (run w) (run v) (λ a i. sym (mixed_counts a i w) ∙ h a i ∙ mixed_counts a i v) in
      (is_run w ∙ r.0 ∙ sym (is_run v), r.1)

  -- T-received: at each accepted step k of a mixed run, inside a listing or not, a line end hears what the far end sent at its step k - d of that run
  pub mixed_received : (w : List Call) (a k : ℕ) (p : StepIn net start (run w) a k) (i : ℕ) → i < length N.rows → is_line (row_at N i) ≡ true
      → (s : Side) → area_at N s i ≡ a → Receives net start p.before k s i
  mixed_received w a k p i there line = received net lent ok a p.before k p.answer i there line

  -- a mixed run has one accepted step x of an area
  pub mixed_once : (w : List Call) (b x : ℕ) (p q : StepIn net start (run w) b x) → p.before ≡ q.before
  mixed_once w b x = once net lent ok b x (run w)

  -- T-peak: a node's peak after a mixed run is the largest magnitude of all accepted steps of its area, those inside listings too, at its first place
  pub mixed_peaks : (w : List Call) (n : ℕ) (low : 1 ≤ n) (high : n ≤ N.nodes) → Peak net lent ok n low high (run w)
  mixed_peaks w n low high = peaks net lent ok n low high (run w)

  -- T-parts: so is an SW's latch the first step at which it parts
  pub mixed_breakers : (w : List Call) (i : ℕ) (there : i < length N.rows) (b : is_breaker (row_at N i) ≡ true) → Breaker net lent ok i there b (run w)
  mixed_breakers w i there b = breakers net lent ok i there b (run w)
