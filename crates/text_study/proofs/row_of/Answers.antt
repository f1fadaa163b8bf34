use Rattle.std.specs.Prelude.{◌≡◌}
use Rattle.whole.specs.Plain.{refl, sym, ◌∙◌, ap, true, false, bool_beq, eqb, arith}
use Rattle.paper.specs.Rows.{is_study}
use Rattle.text_faults.specs.Seen.{seen_fault}
use Rattle.text_faults.specs.Named.{fault_none, fault_named}
use Rattle.text_study.specs.States.{fault_seen}
use Rattle.text_study.proofs.row_of.Goals as goal

pub returns-then-not-in_place : goal.returns-then-not-in_place
unfolding fault_seen
returns-then-not-in_place c =
    let e = c.in-Some.ensures in
    let p : bool_beq (eqb c.args.line 1) (is_study c.args.walk.row) ≡ false = rw e at (sym c.in_place.ensures ∙ c.if-not-in_place.true) in
    (refl, rw p)

pub returns-in-Some-line_fault : goal.returns-in-Some-line_fault
unfolding fault_seen
returns-in-Some-line_fault c =
    let e = c.in-Some.ensures in
    let p : bool_beq (eqb c.args.line 1) (is_study c.args.walk.row) ≡ true = rw e at (sym c.in_place.ensures ∙ c.if-not-in_place.false) in
    let n = fault_named c.args.seen c.in-Some.row.words c.in-Some-line_fault.fault (sym c.in-Some-line_fault.ensures) in
    (refl, rw p (n.1 ∙ ap (seen_fault c.args.seen) e))

pub returns-in-None : goal.returns-in-None
unfolding fault_seen
returns-in-None c =
    let e = c.in-Some.ensures in
    let p : bool_beq (eqb c.args.line 1) (is_study c.args.walk.row) ≡ true = rw e at (sym c.in_place.ensures ∙ c.if-not-in_place.false) in
    (e, rw p (ap (seen_fault c.args.seen) (sym e) ∙ fault_none _ (sym c.in-None.ensures)))

pub unreachable-requires : goal.unreachable-requires
unreachable-requires c = absurd (omega (arith, c.in_default.ensures))
