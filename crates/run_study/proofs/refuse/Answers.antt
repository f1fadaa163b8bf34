-- `run_study::refuse` meets its contract: the line fits. Assumes nothing.
use Rattle.std.specs.Prelude.{◌≤◌}
use Rattle.whole.specs.Plain.{ℕ, List, length, sym, length-take-le, lit≤, arith}
use Rattle.paper.specs.declared.Unread.{Unread}
use Rattle.paper.specs.Answers.{unread_number, unread_line}
use Rattle.list_digits.specs.Puts.{Puts, puts_length}
use Rattle.run_study.specs.Runs.{bad_line, bad_short}
use Rattle.run_study.proofs.refuse.Goals as goal

fits : {was is : List ℕ} (x : Unread) {end : ℕ} → 46 ≤ length was → Puts was 0 (bad_line x) end is → end ≤ length is
fits x h p = omega (arith, p.place, puts_length p, bad_short (unread_line x) (unread_number x), h)

pub slice_bounds-out-end : goal.slice_bounds-out-end
slice_bounds-out-end g c = fits c.args.unread (lit≤ tt) c.put_refusal-end.ensures

pub slice_bounds-write_all-end : goal.slice_bounds-write_all-end
slice_bounds-write_all-end g c = sym (length-take-le c.put_refusal-end.result c.put_refusal-end.new.out (fits c.args.unread (lit≤ tt) c.put_refusal-end.ensures))
