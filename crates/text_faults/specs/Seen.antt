-- What the rows before tell, held in a few words, and the faults of a row by them. Assumes nothing.
use Rattle.std.specs.Prelude.{◌+◌, ◌*◌, ◌≤◌, ◌^◌, ◌≡◌, ◌&&◌, ◌||◌, ◌∷◌}
use Rattle.whole.specs.Plain.{ℕ, Bool, true, false, cond, List, [], leb, ltb}
use Rattle.whole.specs.Plain.{eqb, pos, get_or, set, replicate, Words, z}
use Rattle.paper.specs.Limits as Limits
use Rattle.paper.specs.Rows.{Row, is_study, is_branch, is_source, is_fixing, at, step_length}
use Rattle.paper.specs.Conductance.{nearest}
use Rattle.paper.specs.Faults.{node_fault, value_fault, travel_fault, slots}
use Rattle.text_faults.specs.declared.Seen.{Seen}

-- a study's row of that step length: all that the faults of other rows ask of it
abbrev pub head_of : ℕ → Row
head_of step = z ∷ pos step ∷ []

pub record Held (s : Seen) : Type 0 where
  pub long : 1 ≤ s.step
  pub short : s.step ≤ Limits.step_length_end
  pub branches : s.branches ≤ Limits.branch_end
  pub sources : s.sources ≤ Limits.source_end
  pub slots : s.slots ≤ Limits.store_words

abbrev pub nothing_seen : Seen
nothing_seen = record { step = 1; branches = 0; sources = 0; slots = 0; fixed = replicate 33 false }

-- the size of a branch of a kind, and the step, for which the conductance is computed
pub record Sized (step k size : ℕ) : Type 0 where
  pub long : 1 ≤ step
  pub short : step ≤ Limits.step_length_end
  pub some : 1 ≤ size
  pub most : size ≤ Limits.henry_end
  pub farads : k ≡ 3 → size ≤ Limits.farad_end

unfoldable pub conductance_of : ℕ → ℕ → ℕ → ℕ
conductance_of step k size =
    cond (eqb k 2) (nearest (10 ^ 9 * step) (2 * size)) (cond (eqb k 3) (nearest (2 * 10 ^ 6 * size) step) (nearest (10 ^ 12) size))

unfoldable pub seen_double : Seen → Words → Bool
seen_double s w = is_fixing w && get_or s.fixed (at w) false

unfoldable pub seen_full : Seen → Words → Bool
seen_full s w =
    (is_branch w && leb Limits.branch_end s.branches)
    || (is_source w && leb Limits.source_end s.sources)
    || ltb Limits.store_words (s.slots + slots (head_of s.step) w)

unfoldable pub seen_fault : Seen → Words → ℕ
seen_fault s w =
    cond (node_fault w) 2
    (cond (value_fault (head_of s.step) w) 3
    (cond (travel_fault (head_of s.step) w) 4
    (cond (seen_double s w) 5
    (cond (seen_full s w) 6 0))))

unfoldable pub fixed_after : List Bool → Words → List Bool
fixed_after fixed w = cond (is_fixing w) (set fixed (at w) true) fixed

unfoldable pub seen_after : Seen → Words → Seen
seen_after s w =
    record {
      step = cond (is_study w) (step_length w) s.step;
      branches = s.branches + cond (is_branch w) 1 0;
      sources = s.sources + cond (is_source w) 1 0;
      slots = s.slots + slots (head_of s.step) w;
      fixed = fixed_after s.fixed w;
    }
