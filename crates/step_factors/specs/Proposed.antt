-- The paper's step from kept factors: they serve every step whose legs, but for their histories, are those that they were made from. Assumes nothing.
use Rattle.std.specs.Prelude.{◌≤◌, ◌<◌, ◌≡◌}
use Rattle.whole.specs.Plain.{ℕ, sym, ap, ◌∙◌, List, [], map, ℤ, length, get_or, take, replicate}
use Rattle.whole.specs.Plain.{length-map, Words, filled}
use Rattle.std.specs.Float.Ieee.{Float, nan}
use Rattle.whole.specs.Folds.{get_d_map, map_cong}
use Rattle.whole.specs.Filled.{get_d_filled_in, filled_least}
use Rattle.paper.specs.Limits as Limits
use Rattle.paper.specs.Doubles.{double, nearest_of}
use Rattle.paper.specs.Legs.{Leg}
use Rattle.paper.specs.Elimination.{System, line, cell, row}
use Rattle.paper.specs.Solve.{nought, entry, right_side, matrix_row, equation, system, proposed}
use Rattle.step_factors.specs.Factored.{substituted}
use Rattle.step_factors.specs.Factors.{Of, Serves}
use Rattle.step_factors.specs.Substituted.{Rights, substituted_take}
use Rattle.step_factors.specs.Positions.{bare, bare_entry}

-- the lines of the matrix, from the legs without their histories
abbrev pub matrix_of : List Leg → List ℕ → ℕ → List Float
matrix_of bares free p = matrix_row bares free (get_or free p 0)

module _ (legs : List Leg) (free : List ℕ) where
  bare_matrix : (p : ℕ) → matrix_row (map bare legs) free p ≡ matrix_row legs free p
  unfolding matrix_row
  bare_matrix p =
      ap (filled Limits.node_end nought)
      (map_cong (λ q. double (entry (map bare legs) p q)) (λ q. double (entry legs p q)) free (λ q. ap double (bare_entry legs p q)))

  row_cell : (p q : ℕ) → q < length free → cell (matrix_row legs free p) q ≡ double (entry legs p (get_or free q 0))
  unfolding matrix_row
  row_cell p q h =
      let f : ℕ → Float = λ m. double (entry legs p m) in
      let k : q < length (map f free) = rw (length-map free f) h in
      get_d_filled_in Limits.node_end nought (map f free) q nan k ∙ get_d_map f free q 0 nan h

  row_long : (p : ℕ) → length free ≤ length (matrix_row legs free p)
  unfolding matrix_row
  row_long p = rw (length-map free (λ q. double (entry legs p q))) at (filled_least Limits.node_end nought (map (λ q. double (entry legs p q)) free))

  pub matrix_cell : (p q : ℕ) → q < length free → cell (matrix_of (map bare legs) free p) q ≡ double (entry legs (get_or free p 0) (get_or free q 0))
  matrix_cell p q h = ap (λ (l : List Float). cell l q) (bare_matrix (get_or free p 0)) ∙ row_cell (get_or free p 0) q h

module _ (legs : List Leg) (free : List ℕ) (still : Words) (inject : ℕ → ℤ) where
  abbrev all : System
  all = system legs free still inject

  system_line : (p : ℕ) → p < length free → line all.lines p ≡ matrix_row legs free (get_or free p 0)
  unfolding system
  system_line p h =
      let k : p < length (map (matrix_row legs free) free) = rw (length-map free (matrix_row legs free)) h in
      get_d_filled_in Limits.node_end _ (map (matrix_row legs free) free) p [] k ∙ get_d_map (matrix_row legs free) free p 0 [] h

  system_row : (p : ℕ) → p < length free → row all.rows p ≡ equation legs still inject (get_or free p 0)
  unfolding system
  system_row p h =
      let k : p < length (map (equation legs still inject) free) = rw (length-map free (equation legs still inject)) h in
      get_d_filled_in Limits.node_end _ (map (equation legs still inject) free) p _ k ∙ get_d_map (equation legs still inject) free p 0 _ h

  lines_long : length free ≤ length all.lines
  unfolding system
  lines_long = rw (length-map free (matrix_row legs free)) at (filled_least Limits.node_end (replicate Limits.node_end nought) (map (matrix_row legs free) free))

  rows_long : length free ≤ length all.rows
  unfolding system
  rows_long = rw (length-map free (equation legs still inject)) at (filled_least Limits.node_end (record { pivot = nought; right = nought }) (map (equation legs still inject) free))

  system_of : Of (length free) (matrix_of (map bare legs) free) all
  unfolding equation
  system_of = record {
    roomy = record { lines = lines_long; rows = rows_long; line = λ p h. rw (system_line p h) (row_long legs free (get_or free p 0)) };
    cells = λ p q h k. rw (bare_matrix legs free (get_or free p 0), system_line p h);
    pivot = λ p h. rw (system_row p h, system_line p h) (sym (row_cell legs free (get_or free p 0) p h));
  }

  -- from the kept factors of legs that differ in their histories alone
  pub kept_proposed : (base n : ℕ) (kept : List Leg) (a : List (List Float)) (b : List Float) → n ≡ length free → n ≤ 32
      → Serves base n (matrix_of (map bare kept) free) a → map bare legs ≡ map bare kept → n ≤ length b
      → ((p : ℕ) → p < n → cell b p ≡ double (right_side legs still (inject (get_or free p 0)) (get_or free p 0)))
      → map nearest_of (take n (substituted base n a b)) ≡ proposed legs free still inject
  unfolding proposed equation
  kept_proposed base n kept a b e few w same long at =
      let o : Of n (matrix_of (map bare kept) free) all = rw e (rw same at system_of) in
      let r : Rights n b all = record { long = long; at = λ p h. at p h ∙ sym (rw (system_row p (rw e at h))) } in
      rw (sym e) (ap (map nearest_of) (substituted_take base n all a few (w.at all o) b r))
