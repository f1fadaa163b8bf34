-- "Each x within the voltage range goes to the nearest whole number", which is within it too, and so are the sources' values: every voltage of a
-- step is in the voltage range. Assumes nothing.
use Rattle.std.specs.Prelude.{Option, Some, None}
use Rattle.whole.specs.Plain.{ℕ, refl, sym, Bool, true, false, cond, List, [], map, ℤ, nat_abs, length}
use Rattle.whole.specs.Plain.{set, take, arith, Words, word}
use Rattle.std.specs.Prelude.{Float, ◌≤◌, ◌≡◌, ◌∷◌}
use Rattle.whole.specs.Members.{Among, top, below, map_among}
use Rattle.paper.specs.Limits as Limits
use Rattle.paper.specs.Areas.{Net, free_of}
use Rattle.paper.specs.Sources.{injected}
use Rattle.paper.specs.Legs.{Leg, Branch, both_legs}
use Rattle.paper.specs.Doubles.{Voltage, in_range, whole_of, as_voltage, tenths_of, nearest_of}
use Rattle.paper.specs.Elimination.{voltages}
use Rattle.paper.specs.Solve.{system, proposed, settled, still_of}
use Rattle.laws_facts.specs.Nets.{NetSound}
use Rattle.laws_volts.specs.Range.{whole_most, set_end}
use Rattle.laws_volts.proofs.Still.{still_end}
use Rattle.laws_local.specs.Outcome.{rounded, volts_of}

-- a double that is rounded
nearest_size : (x : Float) (v : ℤ) → nearest_of x ≡ as_voltage v → nat_abs v ≤ Limits.voltage_end
unfolding nearest_of
nearest_size x v e = go (in_range x) refl e
  where
    go : (b : Bool) → in_range x ≡ b → cond b (as_voltage (whole_of x)) None ≡ as_voltage v → nat_abs v ≤ Limits.voltage_end
    go true r e = rw (tenths_of e) at (whole_most x r)
    go false r e = let q : ◌≡◌ {A = ℕ} 0 1 = cc in absurd (omega arith)

-- ---- all voltages of a step

abbrev pub AllVolts : Words → Type 0
AllVolts v = (j : ℕ) → nat_abs (word v j) ≤ Limits.voltage_end

settled_volts : (ns : List ℕ) (xs : List (Option Voltage)) (v : Words) → ((x : ℤ) → Among (as_voltage x) xs → nat_abs x ≤ Limits.voltage_end) → AllVolts v → AllVolts (settled ns xs v)
unfolding settled
settled_volts [] xs v h p = p
settled_volts (n ∷ ns) [] v h p = p
settled_volts (n ∷ ns) (Some x ∷ xs) v h p = settled_volts ns xs (set v n x.tenths) (λ y q. h y (below q)) (λ j. set_end v n j Limits.voltage_end x.tenths (h x.tenths (top refl)) (p j))
settled_volts (n ∷ ns) (None ∷ xs) v h p = settled_volts ns xs v (λ y q. h y (below q)) p

mapped_volts : (xs : List Float) (x : ℤ) → Among (as_voltage x) (map nearest_of xs) → nat_abs x ≤ Limits.voltage_end
mapped_volts xs x q = let c = map_among nearest_of xs q in nearest_size c.source x (sym c.gives)

proposed_volts : (legs : List Leg) (free : List ℕ) (still : Words) (inject : ℕ → ℤ) (x : ℤ) → Among (as_voltage x) (proposed legs free still inject) → nat_abs x ≤ Limits.voltage_end
unfolding proposed
proposed_volts legs free still inject = mapped_volts (take (length free) (voltages (length free) (system legs free still inject)))

pub step_volts : (N : Net) → NetSound N → (a k : ℕ) (bs : List Branch) → AllVolts (volts_of N a k bs)
step_volts N s a k bs =
    settled_volts (free_of N a) (rounded N a k bs) (still_of N a k) (proposed_volts (both_legs bs) (free_of N a) (still_of N a k) (injected N k)) (still_end N s a k)
