-- An area's sources, by the places of their rows. Assumes nothing.
use Rattle.std.specs.Prelude.{◌+◌, ◌*◌, ◌≡◌}
use Rattle.whole.specs.Plain.{ℕ, sym, ap, ◌∙◌, Bool, true, false, pos, neg_ℤ, List, [], map, map-map, length, get_or}
use Rattle.whole.specs.Plain.{length-map, ext_get_or, arith, word, numbers, keep}
use Rattle.whole.specs.Folds.{keep_map, get_d_map, get_d_numbers, length_numbers}
use Rattle.paper.specs.Rows.{Row, kind, at, is_source, is_vC, rise, frequency}
use Rattle.paper.specs.Areas.{Net, step}
use Rattle.laws_facts.specs.Sound.{RowSound}
use Rattle.laws_facts.specs.Nets.{row_at}
use Rattle.plan_ends.specs.Kinds.{kind_at}
use Rattle.plan_ends.specs.Own.{own_source, own_sources, pace_of, source_line, source_lines}
use Rattle.step_legs.specs.declared.Source.{Source}
use Rattle.plan_lay.specs.Listed.{listed}

abbrev pub source_by : Net → ℕ → ℕ → Bool
source_by N a i = own_source N a (row_at N i)

abbrev pub line_by : Net → ℕ → Source
line_by N i = source_line N (row_at N i)

abbrev pub sources_by : Net → ℕ → ℕ → List Source
sources_by N a rows = listed (source_by N a) (line_by N) 0 rows

places : {A : Type 0} (l : List A) (d : A) → l ≡ map (λ i. get_or l i d) (numbers 0 (length l))
places l d =
    ext_get_or d l (map (λ i. get_or l i d) (numbers 0 (length l))) (sym (length-map (numbers 0 (length l)) (λ i. get_or l i d) ∙ length_numbers 0 (length l)))
    (λ i h.
    let e : 0 + i ≡ i = omega arith in
    sym (get_d_map (λ i. get_or l i d) (numbers 0 (length l)) i 0 d (omega (arith, length_numbers 0 (length l))) ∙ ap (λ (j : ℕ). get_or l j d) (get_d_numbers 0 (length l) i 0 h ∙ e)))

pub sources_are : (N : Net) (a : ℕ) → sources_by N a (length N.rows) ≡ source_lines N a
unfolding listed own_sources
sources_are N a =
    sym (ap (λ (l : List Row). map (source_line N) (keep (own_source N a) l)) (places N.rows [])
    ∙ ap (map (source_line N)) (keep_map (own_source N a) (row_at N) (numbers 0 (length N.rows)))
    ∙ map-map (source_line N) (row_at N) (keep (λ i. own_source N a (row_at N i)) (numbers 0 (length N.rows))))

-- a source's kind, node, peak and start, as words of its row, and its pace are its line
pub source_line_lem : (N : Net) {head : Row} {nodes : ℕ} (r : Row) → RowSound head nodes r → is_source r ≡ true
    → record { kind = kind_at (kind r); node = at r; peak = word r 2; start = word r 3; pace = pace_of N r } ≡ source_line N r
unfolding source_line
source_line_lem N r s e =
    let p = s.source e in
    rw (← p.start_in.is_nat)

-- by the kind
module _ (N : Net) (r : Row) where
  pub pace_swings : is_vC r ≡ true → neg_ℤ (pos (step N * frequency r)) ≡ pace_of N r
  unfolding pace_of
  pace_swings e = rw e

  pub pace_rises : is_vC r ≡ false → pos (rise r) ≡ pace_of N r
  unfolding pace_of
  pace_rises e = rw e
