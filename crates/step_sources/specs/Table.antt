-- An area's sources: what each gives at a step, and by node what those that pass give. Assumes nothing.
use Rattle.std.specs.Prelude.{◌*◌, ◌≤◌, ◌<◌, ◌≡◌, ◌+ℤ◌, ◌-ℤ◌, ◌*ℤ◌}
use Rattle.whole.specs.Plain.{ℕ, true, false, Bool, cond, List, ℤ, pos, neg_ℤ, nat_abs, lt_z, quot_z, eqb}
use Rattle.whole.specs.Plain.{length, get_or, set, Words, z, word, nat, fold}
use Rattle.paper.specs.Limits as Limits
use Rattle.paper.specs.Kinds.{number}
use Rattle.paper.specs.Rows.{source_kind, fixing_kind}
use Rattle.paper.specs.Sources.{phase, swung}
use Rattle.paper.specs.declared.kinds.Kind.TheVariants.{Study}
use Rattle.laws_facts.specs.Fields.{Within}
use Rattle.step_legs.specs.declared.Source.{Source}
use Rattle.step_legs.specs.Sums.{none}

-- by its kind: whether it holds its node at its value, whether it injects its value, and whether it swings
abbrev pub is_fixing : Source → Bool
is_fixing s = fixing_kind (number s.kind)

abbrev pub is_iS : Source → Bool
is_iS s = eqb (number s.kind) 7

abbrev pub is_vC : Source → Bool
is_vC s = eqb (number s.kind) 8

-- of a VC, which has minus its pace
abbrev pub pace : Source → ℕ
pace s = nat s.pace

-- what stands where no source does
abbrev pub no_source : Source
no_source = record { kind = Study; node = 0; peak = z; start = z; pace = z }

-- a source's numbers in their ranges
pub record LineSound (s : Source) : Type 0 where
  pub kind_in : source_kind (number s.kind) ≡ true
  pub at_in : (1 ≤ s.node) × (s.node ≤ Limits.node_end)
  pub start_in : Within 1 Limits.start_end s.start
  pub rise_in : is_vC s ≡ false → Within 0 Limits.rise_end s.pace
  pub pace_is : is_vC s ≡ true → s.pace ≡ neg_ℤ (pos (pace s))
  pub pace_most : pace s ≤ Limits.step_length_end * Limits.frequency_end
  pub peak_most : nat_abs s.peak ≤ Limits.injection_end
  pub volt_most : is_vC s ≡ true → nat_abs s.peak ≤ Limits.voltage_end

-- at most 16
pub record Sources (sources : List Source) : Type 0 where
  pub few : length sources ≤ Limits.source_end
  pub sound : (j : ℕ) → j < length sources → LineSound (get_or sources j no_source)

-- ---- a source's value goes by its peak, the steps since its start, which are below 0 before it, and its rise or pace

unfoldable pub ramp_of : ℤ → ℤ → ℤ → ℤ
ramp_of peak n rise = cond (lt_z n z) z (cond (lt_z n rise) (quot_z (peak *ℤ n) rise) peak)

unfoldable pub swing_of : ℤ → ℤ → ℕ → ℤ
swing_of peak n pace = cond (lt_z n z) z (swung peak (phase (nat n) pace))

abbrev pub since : ℕ → Source → ℤ
since k s = pos k -ℤ s.start

unfoldable pub value_of : ℕ → Source → ℤ
value_of k s = cond (is_vC s) (swing_of s.peak (since k s) (pace s)) (ramp_of s.peak (since k s) s.pace)

-- ---- by node

-- a source that passes gives its value to its node
unfoldable pub give : (Source → Bool) → ℕ → Words → Source → Words
give p k w s = cond (p s) (set w s.node (word w s.node +ℤ value_of k s)) w

unfoldable pub given : (Source → Bool) → ℕ → List Source → Words
given p k sources = fold (give p k) none sources

-- no node has more than j sources could give
pub record Room (j : ℕ) (w : Words) : Type 0 where
  pub end : (n : ℕ) → nat_abs (word w n) ≤ j * Limits.injection_end
