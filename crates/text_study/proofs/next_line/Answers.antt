use Rattle.std.proofs.Common.{rules}
use Rattle.std.specs.Prelude.{Some, Ok, Err, ◌≡◌}
use Rattle.whole.specs.Plain.{ℕ, refl, sym, ◌∙◌, ap, eqb, arith}
use Rattle.paper.specs.Rows.{is_study}
use Rattle.paper.specs.declared.Fault.{Fault}
use Rattle.paper.specs.declared.Fault.TheVariants.{Form, Node, Value, Travel, Double, Full}
use Rattle.paper.specs.Faulted.{fault_number}
use Rattle.paper.specs.Reading.{bad, lines_of}
use Rattle.text_faults.specs.Seen.{seen_fault}
use Rattle.text_study.specs.States.{fault_seen, Faulty}
use Rattle.text_study.specs.Steps.{Right, no_fault, known, refused, has_room, line_in, line_on, advanced}
use Rattle.text_study.proofs.next_line.Goals as goal

some_fault : (f : Fault) → fault_number f ≡ 0 → ⊥
some_fault Form e = omega (arith, e)
some_fault Node e = omega (arith, e)
some_fault Value e = omega (arith, e)
some_fault Travel e = omega (arith, e)
some_fault Double e = omega (arith, e)
some_fault Full e = omega (arith, e)

pub returns-in_default : goal.returns-in_default
unfolding fault_seen
returns-in_default c =
    let a = c.args in
    refused a.text.now a.p a.net.now c.requires.0 c.requires.1 (Err _) c.in_default.ensures 1 refl (λ e. omega (arith, e))

pub row_of-requires : goal.row_of-requires
row_of-requires c =
    let a = c.args in
    (known a.text.now a.p a.net.now c.requires.0 c.requires.1 c.in-Ok.walk (sym c.in-Ok.ensures), c.requires.0.fine.stands.held)

pub returns-in_err-row : goal.returns-in_err-row
returns-in_err-row c =
    let a = c.args in
    let b = c.in_err-row.field-0.0 in
    let q = c.in_err-row.ensures in
    let h : Faulty (lines_of a.text.now) b =
    refused a.text.now a.p a.net.now c.requires.0 c.requires.1 (Ok c.in-Ok.walk) c.in-Ok.ensures (fault_number b.fault) q.1 (some_fault b.fault)
    ∙ ap (λ (l : ℕ). bad l (fault_number b.fault)) (sym q.0) in
    search rules

pub put_line-requires : goal.put_line-requires
put_line-requires c =
    let a = c.args in
    let q = c.in_ok-row.ensures in
    let f : Right (Some c.in-Ok.walk) a.p.seen (eqb a.p.line 1) = no_fault (Some c.in-Ok.walk) _ _ q.1 in
    (c.requires.0.wide, λ n. has_room a.text.now a.p a.net.now c.requires.0 c.requires.1 c.in-Ok.walk (sym c.in-Ok.ensures) f (ap is_study (sym q.0) ∙ n))

pub overflow_add-result : goal.overflow_add-result
overflow_add-result c =
    let a = c.args in
    let f : Right (Some c.in-Ok.walk) a.p.seen (eqb a.p.line 1) = no_fault (Some c.in-Ok.walk) _ _ c.in_ok-row.ensures.1 in
    omega (arith, line_in a.text.now a.p a.net.now c.requires.0 c.requires.1 c.in-Ok.walk (sym c.in-Ok.ensures) f)

pub seen_after-requires : goal.seen_after-requires
seen_after-requires c =
    let a = c.args in
    let q = c.in_ok-row.ensures in
    let f : Right (Some c.in-Ok.walk) a.p.seen (eqb a.p.line 1) = no_fault (Some c.in-Ok.walk) _ _ q.1 in
    (c.requires.0.fine.stands.held, ap (seen_fault a.p.seen) q.0 ∙ f.1)

pub returns : goal.returns
returns c =
    let a = c.args in
    let q = c.in_ok-row.ensures in
    let f : Right (Some c.in-Ok.walk) a.p.seen (eqb a.p.line 1) = no_fault (Some c.in-Ok.walk) _ _ q.1 in
    rw (c.seen_after.ensures, c.put_line.ensures, q.0) (
      advanced a.text.now a.p a.net.now c.requires.0 c.requires.1 c.in-Ok.walk (sym c.in-Ok.ensures) f,
      line_on a.text.now a.p a.net.now c.requires.0 c.requires.1 c.in-Ok.walk (sym c.in-Ok.ensures) f,
    )
