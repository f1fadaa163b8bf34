-- T-received in voltages and currents alone: at an accepted step k of a run, the current of a line's end is g·v and what it receives of what the far
-- end's g·v and current came to at its own accepted steps of that run, with a minus. No store is spoken of. Assumes nothing.
use Rattle.std.specs.Prelude.{Ok}
use Rattle.std.specs.Prelude.{◌<◌, ◌≡◌, ◌+ℤ◌}
use Rattle.whole.specs.Plain.{ℕ, refl, sym, ap, ◌∙◌, true, List, ℤ, length}
use Rattle.whole.specs.Plain.{Words, word}
use Rattle.paper.specs.Rows.{is_line}
use Rattle.paper.specs.Areas.{Net}
use Rattle.paper.specs.Legs.{sent_to, received}
use Rattle.paper.specs.Advance.{Memory, advance_of}
use Rattle.laws_facts.specs.Nets.{row_at}
use Rattle.laws_local.specs.Slots.{slot_of}
use Rattle.laws_demands.specs.Said.{from_sent, to_sent, EndObeys}
use Rattle.laws_demands.proofs.Step.{step}
use Rattle.laws_runs.specs.Runs.{Lent, from_reset}
use Rattle.laws_runs.specs.Received.{Side, from_side, toSide, far, node_at, store_of, area_at, right_after}
use Rattle.laws_runs.proofs.Heard as Heard
use Rattle.laws_runs.specs.Heard.{hears}
use Rattle.laws_runs.specs.Lines.{current_at, gv_at, LineLaw}

sent_by : Net → Memory → Side → ℕ → ℕ → ℤ
sent_by N m from_side i x = from_sent N m i x
sent_by N m toSide i x = to_sent N m i x

module _ (net : Words) (lent : Memory) (ok : Lent net lent) (a : ℕ) (w : List ℕ) (k : ℕ) (e : (advance_of net a ((from_reset net lent).at w)).answer ≡ Ok k) where
  open from_reset net lent use {N, start, at}

  abbrev m : Memory
  m = at w

  abbrev n : Memory
  n = (advance_of net a m).after

  abbrev EndOf : Memory → ℕ → Memory → Side → ℕ → Type 0
  EndOf before x now s i = EndObeys N x i (node_at s (row_at N i)) now (current_at now s i) (sent_by N now s i x) (sent_by N before (far s) i)

  end_law : (before : Memory) (b x : ℕ) → (advance_of net b before).answer ≡ Ok x → (s : Side) (i : ℕ) → i < length N.rows → is_line (row_at N i) ≡ true → area_at N s i ≡ b
      → EndOf before x (advance_of net b before).after s i
  unfolding sent_by
  end_law before b x q from_side i h l o = (step net b before x q).offered.from_end i h l o
  end_law before b x q toSide i h l o = (step net b before x q).offered.to_end i h l o

  heard_is : (s : Side) (i : ℕ) → hears N m k s i ≡ received N.head (row_at N i) k (sent_by N m (far s) i)
  unfolding sent_to sent_by
  heard_is from_side i = refl
  heard_is toSide i = refl

  store_is : (p : Memory) (s : Side) (i x : ℕ) (y : ℤ) → y ≡ word (store_of s p) (slot_of N i x) → y ≡ sent_by N p s i x
  unfolding sent_by
  store_is p from_side i x y h = h
  store_is p toSide i x y h = h

  -- T-received, of the current that the step wrote
  pub line_law : (i : ℕ) → i < length N.rows → is_line (row_at N i) ≡ true → (s : Side) → area_at N s i ≡ a → LineLaw net start w k s i n
  line_law i h l s o =
      let b = area_at N (far s) i in
      let got = Heard.received net lent ok a w k e i h l s o in
      record {
        sent = got.sent;
        steps = λ x r.
            let t = got.steps x r in
            record {
              step = t.step;
              value = store_is (right_after net start w b x t.step) (far s) i x (got.sent x) t.value ∙ (end_law (at t.step.before) b x t.step.answer (far s) i h l refl).sent;
            };
        law = (end_law m a k e s i h l o).equation ∙ ap (λ (y : ℤ). gv_at N n s i +ℤ y) (sym (heard_is s i) ∙ got.heard);
      }
