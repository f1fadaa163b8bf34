-- `list_line::put_four` meets its contract: the four stand between what stood before them and behind. Assumes nothing.
use Rattle.std.specs.Prelude.{◌+◌, ◌-◌, ◌≤◌, ◌≡◌, refl}
use Rattle.std.proofs.Common.{append_assoc}
use Rattle.std.proofs.lemmas.List.{drop-drop}
use Rattle.whole.specs.Plain.{length, sets-eq, arith, length-take, length-drop, ap}
use Rattle.list_line.proofs.put_four.Goals as goal

pub returns : goal.returns
returns c =
    let v = c.args.four in
    let l = c.args.out.now in
    let at = c.args.at in
    let k : at + 4 - at ≡ 4 = omega arith in
    let n : length v ≡ 4 = omega (arith, c.requires, ap length c.copy_from_slice.ensures.after, rw (k, length-take, length-drop) at c.copy_from_slice.ensures.len) in
    let h : at + length v ≤ length l = omega (arith, c.requires) in
    rw (c.copy_from_slice.ensures.after, k, drop-drop, ← n, sets-eq v l at h, append_assoc) refl
