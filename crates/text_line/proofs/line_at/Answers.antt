use Rattle.std.proofs.lemmas.Result.{err_from_is_err_and}
use Rattle.std.specs.Prelude.{Result, Ok, Err, ◌≡◌}
use Rattle.whole.specs.Plain.{ℕ, List, z, ◌∙◌, sym, ap, ℤ, pos, set, replicate, arith}
use Rattle.whole.specs.Reads.{read_small}
use Rattle.std.specs.Int.{w64}
use Rattle.std.proofs.Common.{to_z}
use Rattle.paper.specs.declared.kinds.Kind.{Kind}
use Rattle.paper.specs.Kinds.{number, number_few}
use Rattle.text_line.specs.declared.Walk.{Walk}
use Rattle.text_line.specs.Walks.{next, ended_at, fields_at, word_in, line_none, line_some}
use Rattle.text_line.proofs.line_at.Goals as goal

pub slice_bounds-kind_of-end : goal.slice_bounds-kind_of-end
slice_bounds-kind_of-end c = omega (arith, word_in c.args.text.now c.args.at c.requires, c.end_of-end.ensures)

pub returns-in_default : goal.returns-in_default
returns-in_default c = line_none c.args.text.now c.args.at c.end_of-end.ensures (sym c.in_default.ensures)

-- the fields after the word
fields : (s : List ℕ) (k : Kind) (end : ℕ) {n : ℕ} {o : Result Walk Walk} → n ≡ number k → o ≡ fields_at s (number k) (record { at = end; row = set (replicate 8 z) 0 (to_z w64 n) })
    → o ≡ fields_at s (number k) (record { at = end; row = set (replicate 8 z) 0 (pos (number k)) })
fields s k end e f =
    let m = number_few k in
    f ∙ ap (λ (x : ℤ). fields_at s (number k) (record { at = end; row = set (replicate 8 z) 0 x })) (ap (to_z w64) e ∙ read_small (number k) (omega arith))

pub returns-in_err-walk : goal.returns-in_err-walk
returns-in_err-walk c =
    let s = c.args.text.now in
    let p = err_from_is_err_and c.from_residual.result c.from_residual.ensures.1 in
    p.1 ∙ ap Err p.2
    ∙ ap (λ (o : Result Walk Walk). next o (ended_at s)) (sym c.in_err-walk.was ∙ fields s c.in-Some.kind c.end_of-end.result c.number.ensures c.fields_at.ensures)
    ∙ line_some s c.args.at c.end_of-end.ensures (sym c.in-Some.ensures)

pub returns-then-is_at : goal.returns-then-is_at
returns-then-is_at c =
    let s = c.args.text.now in
    let e : ended_at s c.in_ok-walk.walk ≡ Ok c.in_ok-walk.walk = rw (sym c.is_at.ensures ∙ c.if-is_at.true) in
    sym e ∙ ap (λ (o : Result Walk Walk). next o (ended_at s)) (sym c.in_ok-walk.was ∙ fields s c.in-Some.kind c.end_of-end.result c.number.ensures c.fields_at.ensures)
    ∙ line_some s c.args.at c.end_of-end.ensures (sym c.in-Some.ensures)

pub returns-else-is_at : goal.returns-else-is_at
returns-else-is_at c =
    let s = c.args.text.now in
    let e : ended_at s c.in_ok-walk.walk ≡ Err c.in_ok-walk.walk = rw (sym c.is_at.ensures ∙ c.if-is_at.false) in
    sym e ∙ ap (λ (o : Result Walk Walk). next o (ended_at s)) (sym c.in_ok-walk.was ∙ fields s c.in-Some.kind c.end_of-end.result c.number.ensures c.fields_at.ensures)
    ∙ line_some s c.args.at c.end_of-end.ensures (sym c.in-Some.ensures)
