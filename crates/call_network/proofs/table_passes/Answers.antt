-- `call_network::table_passes` meets its contract: the study's row is the first. Assumes nothing.
use Rattle.std.specs.Prelude.{◌≡◌}
use Rattle.std.specs.Option.{is_some}
use Rattle.whole.specs.Plain.{sym, ap, ◌∙◌, true≢false, not-false, eqb-true}
use Rattle.text_faults.specs.Seen.{seen_fault, nothing_seen}
use Rattle.text_faults.specs.Named.{is_fault}
use Rattle.call_network.specs.Judged.{study_words}
use Rattle.call_network.specs.Laws.{study_first}
use Rattle.call_network.specs.Refused.{study_refused}
use Rattle.call_network.proofs.table_passes.Goals as goal

pub returns-then-is_some : goal.returns-then-is_some
returns-then-is_some c =
    let f = rw (c.study_row-row.ensures, c.nothing_seen-none.ensures) at (c.is_some.ensures ∙ ap is_some c.line_fault.ensures ∙ is_fault _) in
    study_refused c.args.net.now c.args.rows c.requires.sized (λ e. true≢false (sym c.if-is_some.true ∙ (rw e at f)))

pub rows_pass-requires-clause-rows_value : goal.rows_pass-requires-clause-rows_value
rows_pass-requires-clause-rows_value c =
    let f = rw (c.study_row-row.ensures, c.nothing_seen-none.ensures) at (c.is_some.ensures ∙ ap is_some c.line_fault.ensures ∙ is_fault _) in
    let e : seen_fault nothing_seen (study_words c.args.net.now) ≡ 0 = eqb-true _ 0 (not-false _ (sym f ∙ c.if-is_some.false)) in
    (c.requires.rows_value, rw (c.seen_after-first.ensures, c.study_row-row.ensures, c.nothing_seen-none.ensures) (study_first c.args.net.now c.args.rows c.requires.sized e))
