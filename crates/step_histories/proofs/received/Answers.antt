-- `step_histories::received` meets its contract: without a rest the newer value alone is asked for. Assumes nothing.
use Rattle.whole.specs.Plain.{◌∙◌}
use Rattle.whole.specs.Int.{read64}
use Rattle.step_histories.specs.Heard.{sent_most, received_by, received_whole}
use Rattle.step_histories.proofs.received.Goals as goal

pub returns-then-r-eq0 : goal.returns-then-r-eq0
returns-then-r-eq0 c =
    let a = c.args in
    read64 c.sent-newer.result c.sent-newer.type_inv ∙ c.sent-newer.ensures ∙ received_whole a.r a.side a.froms.now a.tos.now a.k c.if-r-eq0.true

pub mixed-requires : goal.mixed-requires
mixed-requires c =
    let n = read64 c.sent-newer.result c.sent-newer.type_inv ∙ c.sent-newer.ensures in
    let o = read64 c.sent-older.result c.sent-older.type_inv ∙ c.sent-older.ensures in
    let a = c.args in (
      c.requires.0.shared,
      record {
        newer_end = simp n (sent_most c.requires.1 a.r a.side a.k _);
        older_end = simp o (sent_most c.requires.1 a.r a.side a.k _);
      },
    )

pub returns : goal.returns
unfolding received_by
returns c =
    let n = read64 c.sent-newer.result c.sent-newer.type_inv ∙ c.sent-newer.ensures in
    let o = read64 c.sent-older.result c.sent-older.type_inv ∙ c.sent-older.ensures in
    read64 c.mixed.result c.mixed.type_inv ∙ c.mixed.ensures ∙ rw (n, o)
