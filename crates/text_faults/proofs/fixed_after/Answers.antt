-- what the test tells of the row
use Rattle.std.specs.Prelude.{◌≡◌, ◌≤◌, ◌&&◌}
use Rattle.whole.specs.Plain.{ℕ, Bool, List, Words, sym, ap, ◌∙◌, true, false, false≢true, ltb, ltb-false, length, set, set_out, arith}
use Rattle.paper.specs.Rows.{fixing_kind, is_fixing, at}
use Rattle.text_faults.specs.Seen.{fixed_after}
use Rattle.text_faults.proofs.fixed_after.Goals as goal

fixed : (l : List Bool) (w : Words) (b : Bool) (n : ℕ) → b ≡ is_fixing w → n ≡ at w → (b && ltb n 33) ≡ true → set l n true ≡ fixed_after l w
unfolding fixed_after
fixed l w true n e f h = rw (← e, f)
fixed l w false n e f h = absurd (false≢true h)

free : (l : List Bool) (w : Words) (b : Bool) (n : ℕ) → length l ≡ 33 → b ≡ is_fixing w → n ≡ at w → (b && ltb n 33) ≡ false → l ≡ fixed_after l w
unfolding fixed_after
free l w true n g e f h = let past : length l ≤ at w = omega (arith, ltb-false n 33 h) in rw (← e) (sym (set_out l (at w) true past))
free l w false n g e f h = rw (← e)

pub returns-then-is_fixing-node : goal.returns-then-is_fixing-node
returns-then-is_fixing-node c =
    fixed c.args.fixed c.args.row.words c.is_fixing.result _ (c.is_fixing.ensures ∙ ap fixing_kind c.args.row.named) c.field-node.ensures c.if-is_fixing-node.true

pub returns-else-is_fixing-node : goal.returns-else-is_fixing-node
returns-else-is_fixing-node c =
    free c.args.fixed c.args.row.words c.is_fixing.result _ (omega arith) (c.is_fixing.ensures ∙ ap fixing_kind c.args.row.named) c.field-node.ensures c.if-is_fixing-node.false
