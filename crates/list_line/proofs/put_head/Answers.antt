-- `list_line::put_head` meets its contract: the text is put, some of it twice. Assumes nothing.
use Rattle.std.specs.Prelude.{◌+◌, ◌-◌}
use Rattle.whole.specs.Plain.{ℕ, ap, ◌∙◌, List, sets, arith}
use Rattle.list_line.specs.Heads.{head_put}
use Rattle.list_line.proofs.put_head.Goals as goal

pub returns : goal.returns
returns c =
    let h = c.args.head in
    let at = c.args.at in
    record {
      place = omega (arith, c.requires.0.size);
      buffer =
          c.put_four-3.ensures
          ∙ ap (λ (m : List ℕ). sets m (at + h.size - 4) h.last) (c.put_four-2.ensures ∙ ap (λ (m : List ℕ). sets m (at + h.turn) h.middle) c.put_four.ensures)
          ∙ head_put c.requires.0 c.args.out.now at;
    }
