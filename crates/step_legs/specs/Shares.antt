-- What one leg adds to the sums at its near node: conductance, conductance toward one neighbour, what it draws with its node at 0, current; how
-- large each is, and the paper's equations as sums of them. Assumes nothing.
use Rattle.std.specs.Prelude.{◌≤◌, ◌≡◌, ◌&&◌, ◌-ℤ◌, ◌*ℤ◌}
use Rattle.whole.specs.Plain.{ℕ, suc, refl, sym, ap, Bool, true, false, cond, List, T, eqb, ℤ, pos}
use Rattle.whole.specs.Plain.{negsuc, neg_ℤ, nat_abs, non_neg, length, take, eq-eqb, arith, Words, z, word}
use Rattle.whole.specs.Plain.{nat}
use Rattle.whole.specs.Totals.{total_cong}
use Rattle.whole.specs.Size.{∣◌∣≤◌, add, sub, mul}
use Rattle.paper.specs.Limits as Limits
use Rattle.paper.specs.Legs.{Leg, through, current, echo}
use Rattle.paper.specs.Solve.{leaves, leads, entry, right_side, imbalance}
use Rattle.step_legs.specs.declared.Wire.{Wire}
use Rattle.step_legs.specs.Wires.{leg_of, legs_in, Wired, Carries, Wires, Sized, carries}
use Rattle.step_legs.specs.Leaving.{leaving, leaving_size}

-- ---- the shares

abbrev pub conductance : Leg → ℤ
conductance l = pos l.g

unfoldable pub toward : ℕ → Leg → ℤ
toward q l = cond (eqb l.far q) (pos l.g) z

-- what would leave by the leg with its near node at 0
unfoldable pub drawn : Words → Leg → ℤ
drawn still l = l.h -ℤ pos l.g *ℤ word still l.far

-- ---- the paper's sums

pub entry_same : (legs : List Leg) (p : ℕ) → entry legs p p ≡ leaving p conductance legs
unfolding entry leaving
entry_same legs p = rw (eq-eqb p p refl)

both : (a b : Bool) (x : ℤ) → cond (a && b) x z ≡ cond a (cond b x z) z
both true b x = refl
both false b x = refl

pub entry_other : (legs : List Leg) (p q : ℕ) → eqb p q ≡ false → entry legs p q ≡ neg_ℤ (leaving p (toward q) legs)
unfolding entry leaving toward leads leaves
entry_other legs p q e = rw e (ap neg_ℤ (total_cong _ _ legs (λ l. both (eqb l.near p) (eqb l.far q) (pos l.g))))

pub right_is : (legs : List Leg) (still : Words) (inject : ℤ) (p : ℕ) → right_side legs still inject p ≡ inject -ℤ leaving p (drawn still) legs
unfolding right_side leaving drawn
right_is legs still inject p = refl

pub imbalance_is : (legs : List Leg) (inject : ℕ → ℤ) (v : Words) (p : ℕ) → imbalance legs inject v p ≡ leaving p (current v) legs -ℤ inject p
unfolding imbalance leaving
imbalance_is legs inject v p = refl

-- ---- sizes

-- voltages by node, within their range
pub record Volts (v : Words) : Type 0 where
  pub long : length v ≡ suc Limits.node_end
  pub end : (k : ℕ) → nat_abs (word v k) ≤ Limits.voltage_end

pub volt_size : {v : Words} → Volts v → (k : ℕ) → ∣ word v k ∣≤ 20000000
volt_size u k = record { size = u.end k }

part : (t : Bool) {x : ℤ} {m : ℕ} → ∣ x ∣≤ m → ∣ cond t x z ∣≤ m
part true p = p
part false p = record { size = omega arith }

nat_pos : (x : ℤ) → T (non_neg x) → pos (nat x) ≡ x
nat_pos (pos n) t = refl
nat_pos (negsuc n) t = absurd t

pub g_is : {w : Wire} → Wired w → pos (nat w.g) ≡ w.g
g_is {w} s = nat_pos w.g s.g_sign

-- as the code has them
pub through_is : {w : Wire} (v : Words) → Wired w → w.g *ℤ (word v w.near -ℤ word v w.far) ≡ through v (leg_of w)
unfolding through
through_is {w} v s = ap (λ (x : ℤ). x *ℤ (word v w.near -ℤ word v w.far)) (sym (g_is s))

pub drawn_is : {w : Wire} (v : Words) → Wired w → w.h -ℤ w.g *ℤ word v w.far ≡ drawn v (leg_of w)
unfolding drawn
drawn_is {w} v s = ap (λ (x : ℤ). w.h -ℤ x *ℤ word v w.far) (sym (g_is s))

-- of one leg, whatever its history
module _ {w : Wire} (s : Wired w) where
  pub g_size : ∣ pos (nat w.g) ∣≤ 1000000000
  g_size = rw (g_is s) s.g_end

  pub toward_size : (q : ℕ) → ∣ toward q (leg_of w) ∣≤ 1000000000
  unfolding toward
  toward_size q = part (eqb w.far q) g_size

  -- g·(v near - v far): 10^9 · 4·10^7
  pub through_size : {v : Words} → Volts v → ∣ through v (leg_of w) ∣≤ 40000000000000000
  unfolding through
  through_size u = mul g_size (sub (volt_size u w.near) (volt_size u w.far))

-- of one leg
module _ {w : Wire} (s : Carries w) where
  pub current_size : {v : Words} → Volts v → ∣ current v (leg_of w) ∣≤ 140000000000000000
  unfolding current
  current_size u = add (through_size s.wired u) s.h_end

  pub echo_size : {v : Words} → Volts v → ∣ echo v (leg_of w) ∣≤ 180000000000000000
  unfolding echo
  echo_size u = add (current_size u) (through_size s.wired u)

  -- h - g·still: 10^17 + 10^9 · 2·10^7
  pub drawn_size : {still : Words} → Volts still → ∣ drawn still (leg_of w) ∣≤ 120000000000000000
  unfolding drawn
  drawn_size u = sub s.h_end (mul (g_size s.wired) (volt_size u w.far))

-- of a sum over the first j legs
module _ {legs : List Wire} (s : Wires legs) (p j : ℕ) (l : j ≤ length legs) where
  pub conductance_sum : ∣ leaving p conductance (take j (legs_in legs)) ∣≤ 64000000000
  conductance_sum = leaving_size p conductance 1000000000 s (λ i k. g_size (s.wired i k)) j l

  pub toward_sum : (q : ℕ) → ∣ leaving p (toward q) (take j (legs_in legs)) ∣≤ 64000000000
  toward_sum q = leaving_size p (toward q) 1000000000 s (λ i k. toward_size (s.wired i k) q) j l

module _ {legs : List Wire} (s : Sized legs) (p j : ℕ) (l : j ≤ length legs) where
  pub drawn_sum : {still : Words} → Volts still → ∣ leaving p (drawn still) (take j (legs_in legs)) ∣≤ 7680000000000000000
  drawn_sum {still} u = leaving_size p (drawn still) 120000000000000000 s.wires (λ i k. drawn_size (carries s i k) u) j l

  pub current_sum : {v : Words} → Volts v → ∣ leaving p (current v) (take j (legs_in legs)) ∣≤ 8960000000000000000
  current_sum {v} u = leaving_size p (current v) 140000000000000000 s.wires (λ i k. current_size (carries s i k) u) j l
