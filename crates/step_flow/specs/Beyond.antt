-- 17: what the legs pass on, against the end of a history, leg by leg; and as a search over the legs as they stand before. Assumes nothing.
use Rattle.std.specs.Prelude.{Some, None, is_some}
use Rattle.std.specs.Prelude.{◌+◌, ◌-◌, ◌≤◌, ◌<◌, ◌≡◌, ◌∷◌}
use Rattle.whole.specs.Plain.{ℕ, suc, refl, Bool, true, false, cond, not, List, [], map}
use Rattle.whole.specs.Plain.{length, drop, drop_of_length-le, drop-cons, Words, up_to, between, ℤ, pos, negsuc, neg_ℤ, leb, and-true, sym, ◌∙◌}
use Rattle.std.proofs.Common.{add-one}
use Rattle.std.proofs.Math.Dec.{leb-suc-suc}
use Rattle.num_quantity.specs.declared.History.{History}
use Rattle.paper.specs.Limits as Limits
use Rattle.paper.specs.Legs.{echo}
use Rattle.step_legs.specs.declared.Wire.{Wire}
use Rattle.step_legs.specs.Wires.{leg_of, no_wire, wire_at, wires_in}
use Rattle.step_flow.specs.Flown.{passed_by, flown}

unfoldable pub passed_beyond : Wire → Bool
passed_beyond w = not (up_to Limits.history_end w.passed)

unfoldable pub first_row : List Wire → ℕ
first_row [] = 0
first_row (w ∷ legs) = let r = first_row legs in cond (passed_beyond w) (suc w.row) r

-- ---- what the constructor of a history answers tells of the end

between_ends : (m : ℕ) (x : ℤ) → between (negsuc m) (pos (suc m)) x ≡ up_to (suc m) x
unfolding between up_to
between_ends m (pos n) = refl
between_ends m (negsuc n) = and-true (leb n m) ∙ sym (leb-suc-suc n m)

pub history_is : (x : ℤ) → is_some {T = History} (cond (between (neg_ℤ (pos Limits.history_end)) (pos Limits.history_end) x) (Some (record { value = x })) None) ≡ up_to Limits.history_end x
history_is x = rw (between_ends (Limits.history_end - 1) x) (by (up_to Limits.history_end x))
  where
    by : (t : Bool) → is_some {T = History} (cond t (Some (record { value = x })) None) ≡ t
    by true = refl
    by false = refl

-- ---- from leg j on
module _ (legs : List Wire) (j : ℕ) (h : j < length legs) where
  pub row_hit : passed_beyond (wire_at legs j) ≡ true → first_row (drop j legs) ≡ suc (wire_at legs j).row
  unfolding first_row
  row_hit e = rw (drop-cons legs j no_wire h, e)

  pub row_pass : passed_beyond (wire_at legs j) ≡ false → first_row (drop (j + 1) legs) ≡ first_row (drop j legs)
  unfolding first_row
  row_pass e = rw (drop-cons legs j no_wire h, e, add-one)

pub row_none : (legs : List Wire) (j : ℕ) → length legs ≤ j → first_row (drop j legs) ≡ 0
unfolding first_row
row_none legs j h = rw (drop_of_length-le legs h)

-- ---- of the legs before they are flown

unfoldable pub beyond_leg : Words → Wire → Bool
beyond_leg v w = not (up_to Limits.history_end (passed_by w.kind (echo v (leg_of w))))

unfoldable pub first_by : Words → List Wire → ℕ
first_by v [] = 0
first_by v (w ∷ wires) = let r = first_by v wires in cond (beyond_leg v w) (suc w.row) r

pub first_by_lem : (v : Words) (legs : List Wire) → first_row (map (flown v) legs) ≡ first_by v (wires_in legs)
unfolding first_row first_by passed_beyond beyond_leg wires_in flown
first_by_lem v [] = refl
first_by_lem v (w ∷ legs) = rw (first_by_lem v legs)
