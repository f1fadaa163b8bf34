-- `call_state::records_formed` meets its contract: the sections of the records, each judged by itself. Assumes nothing.
use Rattle.std.specs.Prelude.{◌≡◌}
use Rattle.whole.specs.Plain.{sym, ◌∙◌, Bool, true, Words, length}
use Rattle.paper.specs.Limits as Limits
use Rattle.plan_rows.specs.declared.Totals.{Totals}
use Rattle.call_counts.specs.Lines.{counted}
use Rattle.call_counts.specs.Counts.{CountsIn}
use Rattle.call_state.specs.Judged.{counts_formed, formed_by}
use Rattle.call_state.specs.Formed.{Few, few, formed_is}
use Rattle.call_state.specs.Facts.{counts_in, nodes_counted}
use Rattle.call_state.proofs.records_formed.Goals as goal

numbered : {t : Totals} {recs : Words} {b : Bool} → Few t → length recs ≡ Limits.record_words → b ≡ counts_formed recs t.areas t.steps → b ≡ true → CountsIn recs t.areas
numbered s l e q = counts_in _ _ _ l s.areas (sym e ∙ q) s.steps

pub counts_formed-requires : goal.counts_formed-requires
counts_formed-requires c = let s = few c.requires.0.of.of in (s.areas, s.steps, c.requires.1)

pub returns-then-not-counts_formed : goal.returns-then-not-counts_formed
unfolding formed_by
returns-then-not-counts_formed c = λ N o. rw (formed_is c.args.records.now o c.requires.1, ← c.counts_formed.ensures, c.if-not-counts_formed.true)

pub nodes_formed-nodes-requires : goal.nodes_formed-nodes-requires
nodes_formed-nodes-requires c = let s = few c.requires.0.of.of in (s.nodes, s.steps, c.requires.1)

pub rows_formed-rows-requires : goal.rows_formed-rows-requires
rows_formed-rows-requires c =
    let s = few c.requires.0.of.of in
    let n = numbered s c.requires.1 c.counts_formed.ensures c.if-not-counts_formed.false in
    record { counted = counted c.requires.0.of.of n; records_len = (c.requires.1, s.steps) }

pub tails_formed-unused-requires : goal.tails_formed-unused-requires
tails_formed-unused-requires c = ((few c.requires.0.of.of).rows, c.requires.1)

pub peaks_formed-peaks-requires : goal.peaks_formed-peaks-requires
peaks_formed-peaks-requires c =
    let n = numbered (few c.requires.0.of.of) c.requires.1 c.counts_formed.ensures c.if-not-counts_formed.false in
    (nodes_counted c.requires.0.of n, c.requires.1)

pub returns : goal.returns
unfolding formed_by
returns c = λ N o.
    rw (
      formed_is c.args.records.now o c.requires.1,
      sym c.counts_formed.ensures ∙ c.if-not-counts_formed.false,
      c.nodes_formed-nodes.ensures,
      c.rows_formed-rows.ensures,
      c.tails_formed-unused.ensures,
      c.peaks_formed-peaks.ensures,
    )
