use Rattle.std.specs.Prelude.{◌≡◌}
use Rattle.std.specs.Cmp.Lexicographic.{pointwise}
use Rattle.whole.specs.Plain.{ℕ, ap, sym, ◌∙◌, Bool, List, eqb, eqb-true, eqb-false, get_or, get_or-eq_default, true, false, same_bytes, arith}
use Rattle.paper.specs.Kinds.{number, kind_by, by_number}
use Rattle.paper.specs.Rows.{word_of}
use Rattle.text_words.specs.Words.{same_is, kind_none, kind_same}
use Rattle.text_words.proofs.kind_of.Goals as goal
use Rattle.text_words.proofs.kind_of.Goals.{then-word-lt2, else-word-lt2}

-- the word against the kind's own
tested : (w a : List ℕ) (k : ℕ) → a ≡ word_of k → {t : Bool} → t ≡ pointwise eqb a w → (u : Bool) → t ≡ u → u ≡ same_bytes (word_of k) w
tested w a k e r u q = sym q ∙ r ∙ ap (λ (v : List ℕ). pointwise eqb v w) e ∙ sym (same_is (word_of k) w)

pub returns-then-is_empty : goal.returns-then-is_empty
returns-then-is_empty c = ap kind_by (kind_none c.args.word.now (eqb-true _ 0 (sym c.is_empty.ensures ∙ c.if-is_empty.true)))

pub returns-then-eq : goal.returns-then-eq
returns-then-eq c =
    let w = c.args.word.now in
    let s : c.if-word-lt2.second ≡ get_or w 1 0 = elim c.if-word-lt2.branch [ then-word-lt2 v ↦ v.second-is ∙ sym (get_or-eq_default w 0 (omega arith)) | else-word-lt2 v ↦ v.second-is ] in
    let e = tested w _ (number c.in_ok-kind.kind) c.word_of.ensures c.eq.ensures true c.if-eq.true in
    sym (by_number c.in_ok-kind.kind) ∙ ap kind_by (kind_same w (number c.in_ok-kind.kind) (eqb-false _ 0 (sym c.is_empty.ensures ∙ c.if-is_empty.false)) s c.in_ok-kind.ensures true e)

pub returns-else-eq : goal.returns-else-eq
returns-else-eq c =
    let w = c.args.word.now in
    let s : c.if-word-lt2.second ≡ get_or w 1 0 = elim c.if-word-lt2.branch [ then-word-lt2 v ↦ v.second-is ∙ sym (get_or-eq_default w 0 (omega arith)) | else-word-lt2 v ↦ v.second-is ] in
    let e = tested w _ (number c.in_ok-kind.kind) c.word_of.ensures c.eq.ensures false c.if-eq.false in
    ap kind_by (kind_same w (number c.in_ok-kind.kind) (eqb-false _ 0 (sym c.is_empty.ensures ∙ c.if-is_empty.false)) s c.in_ok-kind.ensures false e)
