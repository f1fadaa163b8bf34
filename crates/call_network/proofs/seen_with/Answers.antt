-- `call_network::seen_with` meets its contract: a row that fails one test is none that the reader could have written. Assumes nothing.
use Rattle.std.specs.Prelude.{◌≡◌, Option, Some, None}
use Rattle.std.specs.Option.{is_some}
use Rattle.whole.specs.Plain.{Words, sym, ap, ◌∙◌, true≢false, cond, not, not-false, eqb, eqb-true, eqb-false, arith}
use Rattle.paper.specs.Rows.{kind}
use Rattle.text_faults.specs.declared.Seen.{Seen}
use Rattle.text_faults.specs.Seen.{seen_fault, seen_after}
use Rattle.text_faults.specs.Laws.{known_kind}
use Rattle.text_faults.specs.Named.{is_fault}
use Rattle.call_network.specs.Judged.{good_row}
use Rattle.call_network.specs.Laws.{never, Good, good, good_if}
use Rattle.call_network.proofs.seen_with.Goals as goal

none : (s : Seen) (w : Words) → (Good s w → ⊥) → ◌≡◌ {A = Option Seen} None (cond (good_row s w) (Some (seen_after s w)) None)
none s w n = rw (never (good_row s w) (λ q. n (good s w q)))

pub returns-in_err-row : goal.returns-in_err-row
returns-in_err-row c = c.from_residual.ensures ∙ none c.args.seen c.args.words (λ g. omega (arith, g.most, c.in_err-row.ensures))

pub returns-then-is_study : goal.returns-then-is_study
returns-then-is_study c =
    let w = c.in_ok-row.row.words in
    rw (← c.in_ok-row.ensures) (none c.args.seen w (λ g. omega (arith, g.least, eqb-true (kind w) 0 (sym c.is_study.ensures ∙ c.if-is_study.true))))

pub returns-then-not-spare_zero : goal.returns-then-not-spare_zero
returns-then-not-spare_zero c =
    rw (← c.in_ok-row.ensures) (none c.args.seen c.in_ok-row.row.words (λ g. true≢false (sym g.spare ∙ sym c.spare_zero.ensures ∙ c.if-not-spare_zero.true)))

pub returns-then-is_some : goal.returns-then-is_some
returns-then-is_some c =
    let w = c.in_ok-row.row.words in
    let f : c.is_some.result ≡ not (eqb (seen_fault c.args.seen w) 0) = c.is_some.ensures ∙ ap is_some c.line_fault.ensures ∙ is_fault _ in
    rw (← c.in_ok-row.ensures) (none c.args.seen w (λ g. true≢false (sym c.if-is_some.true ∙ (rw g.fault at f))))

pub returns : goal.returns
returns c =
    let r = c.in_ok-row.row in
    let f : c.is_some.result ≡ not (eqb (seen_fault c.args.seen r.words) 0) = c.is_some.ensures ∙ ap is_some c.line_fault.ensures ∙ is_fault _ in
    let n : kind r.words ≡ 0 → ⊥ = eqb-false (kind r.words) 0 (sym c.is_study.ensures ∙ c.if-is_study.false) in
    let q : Good c.args.seen r.words =
    record {
      least = omega arith;
      most = omega (arith, known_kind r.words r.kind r.named);
      spare = sym c.spare_zero.ensures ∙ c.if-not-spare_zero.false;
      fault = eqb-true _ 0 (not-false _ (sym f ∙ c.if-is_some.false));
    } in
    rw (← c.in_ok-row.ensures, good_if c.args.seen r.words q, c.seen_after.ensures)
