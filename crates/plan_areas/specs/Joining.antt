-- Whether a row joins its two nodes, by its kind and its ends. Assumes nothing.
use Rattle.std.specs.Prelude.{◌≡◌, ◌≢◌, ◌&&◌}
use Rattle.whole.specs.Plain.{true, false, not, and-false, eqb, eq-eqb, ne_eqb}
use Rattle.paper.specs.Rows.{Row, kind, is_branch, is_line, from, to}
use Rattle.paper.specs.Areas.{joins}

module _ (r : Row) where
  pub source_none : is_branch r ≡ false → joins r ≡ false
  unfolding joins
  source_none h = rw h

  pub line_none : kind r ≡ 4 → joins r ≡ false
  unfolding joins
  line_none e = rw (eq-eqb (kind r) 4 e, and-false (is_branch r))

  pub from_none : from r ≡ 0 → joins r ≡ false
  unfolding joins
  from_none e = rw (eq-eqb (from r) 0 e, and-false (is_branch r && not (is_line r)))

  pub to_none : to r ≡ 0 → joins r ≡ false
  unfolding joins
  to_none e = rw (eq-eqb (to r) 0 e, and-false (is_branch r && not (is_line r) && not (eqb (from r) 0)))

  pub joins_both : is_branch r ≡ true → kind r ≢ 4 → from r ≢ 0 → to r ≢ 0 → joins r ≡ true
  unfolding joins
  joins_both b l f t = rw (b, ne_eqb (kind r) 4 l, ne_eqb (from r) 0 f, ne_eqb (to r) 0 t)
