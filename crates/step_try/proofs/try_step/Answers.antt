-- `step_try::try_step` meets its contract: each part gives what the next asks, and the whole is the paper's step. Assumes nothing.
use Rattle.std.specs.Prelude.{◌≡◌, Ok, Err, IsErrAnd}
use Rattle.whole.specs.Plain.{ℕ, ap, ◌∙◌}
use Rattle.paper.specs.Replies.{Advance}
use Rattle.paper.specs.declared.Refusal.{Refusal}
use Rattle.step_legs.specs.Written.{same_then}
use Rattle.step_histories.specs.Heard.{all_heard}
use Rattle.step_histories.specs.Laws.{hears}
use Rattle.step_flow.specs.Flown.{flown_same, wires_stay}
use Rattle.step_flow.specs.Past.{near, past_unbalanced}
use Rattle.step_flow.specs.Beyond.{first_row, first_by_lem}
use Rattle.step_solve.specs.Settling.{refusal_of}
use Rattle.step_try.specs.Trying.{all_sized, all_free, tries_range, tries_flow, heard_from, still_from, inject_from, drives, volts_from, serves_from, found_volts}
use Rattle.step_try.proofs.try_step.Goals as goal

-- ---- sources
pub drive-requires-clause-sources : goal.drive-requires-clause-sources
drive-requires-clause-sources c = let t = c.requires.0.trying in (drives t, t.few)

-- ---- what the legs hear
pub hear-requires : goal.hear-requires
hear-requires c = let t = c.requires.0.trying in hears t.sound t.planned t.serving.conducts t.one t.kept

-- ---- the voltages
pub solve-requires-clause-sized : goal.solve-requires-clause-sized
solve-requires-clause-sized c =
    let t = c.requires.0.trying in
    let l = heard_from t c.hear.ensures in
    (all_sized t l, volts_from t c.drive.ensures.v_value, c.drive.ensures.injects_within, all_free t l)

pub solve-requires-clause-serves : goal.solve-requires-clause-serves
solve-requires-clause-serves c = let t = c.requires.0.trying in serves_from t (heard_from t c.hear.ensures)

-- the refusal is the node's
err_is : (r : Advance) (x : Refusal) → IsErrAnd r (λ y. y ≡ x) → r ≡ Err x
err_is (Ok k) x h = absurd h
err_is (Err y) x h = ap Err h

not-took : {x : Refusal} {k : ℕ} → ◌≡◌ {A = Advance} (Err x) (Ok k) → ⊥
not-took e = cc

pub returns-in_err-solve-clause-tries : goal.returns-in_err-solve-clause-tries
returns-in_err-solve-clause-tries c = λ N a t.
    let e = err_is c.from_residual.result (refusal_of c.in_err-solve.field-0.0) c.from_residual.ensures.1 in
    rw e (record {
      tried = tries_range t (heard_from t c.hear.ensures) c.drive.new.inject (inject_from t c.drive.ensures.inject_value) (still_from t c.drive.ensures.v_value) c.solve.ensures c.in_err-solve.was;
      flowing = λ q. absurd (not-took q);
    })

pub returns-in_err-solve-clause-same_but : goal.returns-in_err-solve-clause-same_but
returns-in_err-solve-clause-same_but c = all_heard _ _ _ _ _ _ c.hear.ensures

-- ---- what flows, of a step whose voltages are found
pub flow-leaving-requires : goal.flow-leaving-requires
flow-leaving-requires c =
    let t = c.requires.0.trying in
    let l = heard_from t c.hear.ensures in
    (all_sized t l, found_volts _ _ _ _ _ (volts_from t c.drive.ensures.v_value) (c.solve.ensures.volts c.in_ok-solve.was))

pub judged-requires : goal.judged-requires
judged-requires c =
    let t = c.requires.0.trying in
    let l = heard_from t c.hear.ensures in
    let v = found_volts _ _ _ _ _ (volts_from t c.drive.ensures.v_value) (c.solve.ensures.volts c.in_ok-solve.was) in
    record {
      wires = rw c.flow-leaving.ensures.legs_value (wires_stay _ _ (all_sized t l).wires);
      nodes = all_free t l;
      near = near (all_sized t l) v c.drive.ensures.injects_within c.flow-leaving.ensures.sums;
      limit_sign = rw t.limit tt;
      limit_end = rw t.limit (record { size = t.sound.study.limit_in.most });
    }

pub returns-clause-tries : goal.returns-clause-tries
returns-clause-tries c = λ N a t.
    let l = heard_from t c.hear.ensures in
    let f = c.flow-leaving.ensures in
    let v = found_volts _ _ _ _ _ (volts_from t c.drive.ensures.v_value) (c.solve.ensures.volts c.in_ok-solve.was) in
    record {
      tried = tries_flow t l c.drive.new.inject (inject_from t c.drive.ensures.inject_value) (still_from t c.drive.ensures.v_value) c.solve.ensures c.in_ok-solve.was
          (past_unbalanced _ _ c.drive.new.inject f.sums (all_free t l)) (ap first_row f.legs_value ∙ first_by_lem _ _) c.judged.ensures;
      flowing = λ o. record { legs = c.hear.new.legs; laid = l; flows = f.legs_value; volts = v };
    }

pub returns-clause-same_but : goal.returns-clause-same_but
returns-clause-same_but c = same_then (all_heard _ _ _ _ _ _ c.hear.ensures) (flown_same _ _ c.flow-leaving.ensures.legs_value)
