use Rattle.std.specs.Prelude.{◌+◌}
use Rattle.whole.specs.Plain.{◌∙◌, ap, ℤ, pos, set, arith}
use Rattle.whole.specs.Reads.{read_small}
use Rattle.text_study.specs.Laid.{put_row}
use Rattle.text_study.proofs.put_row.Goals as goal

pub returns : goal.returns
unfolding put_row
returns c =
    let a = c.args in
    ap (λ (v : ℤ). set c.lay.new.net 3 v) (read_small (a.n + 1) (omega arith)) ∙ ap (λ (l : _). set l 3 (pos (a.n + 1))) c.lay.ensures
