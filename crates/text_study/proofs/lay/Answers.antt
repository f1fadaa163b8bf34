use Rattle.std.specs.Prelude.{◌+◌, ◌≤◌, ◌≡◌, ◌++◌}
use Rattle.whole.specs.Plain.{ℕ, Words, sym, ◌∙◌, ap, length, take, drop, append_assoc, drop-drop, sets, sets-eq, arith}
use Rattle.text_study.proofs.lay.Goals as goal

over : (l w v : Words) (p k : ℕ) → k ≡ 8 → v ≡ w → length w ≡ 8 → p + 8 ≤ length l → take p l ++ (v ++ drop k (drop p l)) ≡ sets l p w
over l w v p k e f g h =
    let n : p + 8 ≡ p + length w = omega (arith, g) in
    let inside : p + length w ≤ length l = omega (arith, g) in
    rw (e, f)
    (sym (append_assoc (take p l) w (drop 8 (drop p l)))
    ∙ ap (λ (t : Words). (take p l ++ w) ++ t) (drop-drop 8 p l ∙ ap (λ (j : ℕ). drop j l) n)
    ∙ sym (sets-eq w l p inside))

pub returns : goal.returns
returns c = over c.args.net.now c.args.row _ c.args.place _ (omega arith) c.copy_from_slice.ensures.after (omega arith) c.requires
