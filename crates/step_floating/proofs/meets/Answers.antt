-- `step_floating::meets` meets its contract. Assumes nothing.
use Rattle.whole.specs.Plain.{sym, ◌∙◌, true≢false, eq-eqb, ne_eqb}
use Rattle.step_floating.specs.Search.{meets}
use Rattle.step_floating.proofs.meets.Goals as goal
use Rattle.step_floating.proofs.meets.Goals.{then-n-eq0, else-n-eq0}

pub returns-then-l-n : goal.returns-then-l-n
unfolding meets
returns-then-l-n c =
    elim c.if-n-eq0.branch [
      | then-n-eq0 w ↦ rw (c.if-l-n.true, eq-eqb _ 0 w.if-n-eq0.true)
      | else-n-eq0 w ↦ rw (c.if-l-n.true, ne_eqb _ 0 w.if-n-eq0.false, sym w.value-is ∙ c.if-l-n.true)
    ]

pub returns-else-l-n : goal.returns-else-l-n
unfolding meets
returns-else-l-n c =
    elim c.if-n-eq0.branch [
      | then-n-eq0 w ↦ absurd (true≢false (sym (eq-eqb _ 0 w.if-n-eq0.true) ∙ sym w.value-is ∙ c.if-l-n.false))
      | else-n-eq0 w ↦ rw (ne_eqb _ 0 w.if-n-eq0.false, sym w.value-is ∙ c.if-l-n.false)
    ]
