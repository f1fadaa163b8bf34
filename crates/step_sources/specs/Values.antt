-- A source's value in its cases, before, during and after the rise, and as it swings; that the products on the way fit. Assumes nothing.
use Rattle.std.specs.Prelude.{◌+◌, ◌-◌, ◌*◌, ◌/◌, ◌%◌, ◌^◌, ◌≤◌, ◌≡◌, ◌-ℤ◌, ◌*ℤ◌}
use Rattle.whole.specs.Plain.{ℕ, zero, suc, refl, sym, ap, ◌∙◌, Bool, true, false, false≢true, cond, ltb, ltb-true, lt-ltb, le-ltb, ℤ, pos, negsuc, neg_ℤ, nat_abs}
use Rattle.whole.specs.Plain.{sub_ℕ, lt_z, le_z, leb-true, le-leb, quot_z, mul-le-mul_left, mul-le-mul_right, le_trans, arith, z, nat}
use Rattle.std.specs.Int.{w64}
use Rattle.std.proofs.Common.{SFits}
use Rattle.whole.specs.Int.{subℕ_ge}
use Rattle.whole.specs.Size.{∣◌∣≤◌, mul, fits}
use Rattle.whole.specs.Rounding.{part_size}
use Rattle.num_cosine.specs.Cosine.{cosine}
use Rattle.num_cosine.proofs.Most.{cosine_most}
use Rattle.paper.specs.Limits as Limits
use Rattle.paper.specs.Sources.{phase, index, swung}
use Rattle.paper.proofs.Kept.{either}
use Rattle.laws_volts.specs.Sources.{swung_size}
use Rattle.step_legs.specs.declared.Source.{Source}
use Rattle.step_sources.specs.Table.{is_vC, pace, since, ramp_of, swing_of, value_of}

pub over : (n : ℕ) → lt_z (pos n) z ≡ false
over n = le-ltb n 0 (omega arith)

pub from_start : (n : ℤ) → le_z z n ≡ true → lt_z n z ≡ false
from_start (pos n) e = over n
from_start (negsuc n) e = absurd (false≢true e)

pub before_start : (n : ℤ) → le_z z n ≡ false → lt_z n z ≡ true
before_start (pos n) e = absurd (false≢true (sym e ∙ le-leb 0 n (omega arith)))
before_start (negsuc n) e = refl

-- steps since a start
pub since_is : (k s : ℕ) → pos k -ℤ pos s ≡ sub_ℕ k s
since_is k zero = let e : k + 0 ≡ k - 0 = omega arith in ap pos e ∙ sym (subℕ_ge k 0 (omega arith))
since_is k (suc s) = refl

pub since_most : (k s m : ℕ) → k ≤ m → s ≤ m → nat_abs (pos k -ℤ pos s) ≤ m
since_most k s m h l = rw (since_is k s) (by (ltb k s) refl)
  where
    by : (b : Bool) → ltb k s ≡ b → nat_abs (cond b (negsuc (s - suc k)) (pos (k - s))) ≤ m
    by true e = omega (arith, ltb-true k s e)
    by false e = omega arith

-- ---- as it rises

-- on the way up the steps since the start are at least 0 and below the rise: the product, 2·10^15 · 1,000, fits
pub rise_fits : (p n d : ℤ) → nat_abs p ≤ Limits.injection_end → le_z d (pos Limits.rise_end) ≡ true → lt_z n z ≡ false → lt_z n d ≡ true → SFits w64 (p *ℤ n)
rise_fits p (negsuc n) d h u e l = absurd (false≢true (sym e))
rise_fits p (pos n) (negsuc d) h u e l = absurd (false≢true l)
rise_fits p (pos n) (pos d) h u e l =
    let q : ∣ p ∣≤ Limits.injection_end = record { size = h } in
    let k : ∣ pos n ∣≤ Limits.rise_end = record { size = omega (arith, ltb-true n d l, leb-true d Limits.rise_end u) } in
    fits (mul q k) tt

pub rise_over : (n d : ℤ) → lt_z n z ≡ false → lt_z n d ≡ true → lt_z z d ≡ true
rise_over (negsuc n) d e l = absurd (false≢true (sym e))
rise_over (pos n) (negsuc d) e l = absurd (false≢true l)
rise_over (pos n) (pos d) e l = lt-ltb 0 d (omega (arith, ltb-true n d l))

pub ramp_size : (p n d : ℤ) → nat_abs (ramp_of p n d) ≤ nat_abs p
unfolding ramp_of
ramp_size p (negsuc n) d = omega arith
ramp_size p (pos n) (negsuc d) = rw (over n) (omega arith)
ramp_size p (pos n) (pos d) = rw (over n) (by (ltb n d) refl)
  where
    by : (b : Bool) → ltb n d ≡ b → nat_abs (cond b (quot_z (p *ℤ pos n) (pos d)) p) ≤ nat_abs p
    by true e = (part_size {x = p} {m = nat_abs p} n d (omega (arith, ltb-true n d e)) (record { size = omega arith })).size
    by false e = omega arith

-- ---- as it swings

-- whole parts first and then whole turns taken off, or the other way round: a turn is 1,024 parts
part_is : (x : ℕ) → x / 976562500 % 1024 ≡ 1024 * (x % 10 ^ 12) / 10 ^ 12
part_is x = omega arith

pub swings : (p n : ℤ) (d : ℕ) → lt_z n z ≡ false → quot_z (p *ℤ cosine (nat n * d / 976562500 % 1024)) (pos (2 ^ 30)) ≡ swing_of p n d
unfolding swing_of swung index phase
swings p n d e = rw (e, part_is (nat n * d))

-- minus a pace is no rise: what swings is the whole peak
swing_whole : (p n : ℤ) (c d : ℕ) → swing_of (ramp_of p n (neg_ℤ (pos c))) n d ≡ swing_of p n d
unfolding ramp_of swing_of
swing_whole p (negsuc n) c d = refl
swing_whole p (pos n) zero d = rw (over n)
swing_whole p (pos n) (suc c) d = rw (over n)

swing_size : (p n : ℤ) (d : ℕ) → nat_abs (swing_of p n d) ≤ nat_abs p
unfolding swing_of
swing_size p n d = either (λ x. nat_abs x ≤ nat_abs p) (lt_z n z) z _ (omega arith) (swung_size p (phase (nat n) d))

-- the phase before it is reduced: 10^6 · 10^11
pub turn_fits : (n d : ℕ) → n ≤ Limits.steps_end → d ≤ Limits.step_length_end * Limits.frequency_end → n * d ≤ 10 ^ 17
turn_fits n d h l = omega (arith, le_trans (mul-le-mul_right d h) (mul-le-mul_left Limits.steps_end l))

-- the product with the cosine: 2·10^7 · 2^30
pub swing_fits : (p : ℤ) (i : ℕ) → nat_abs p ≤ Limits.voltage_end → SFits w64 (p *ℤ cosine i)
swing_fits p i h = let q : ∣ p ∣≤ Limits.voltage_end = record { size = h } in fits (mul q (cosine_most i)) tt

-- minus a pace is below any rise
pub pace_below : (d m : ℕ) → le_z (neg_ℤ (pos d)) (pos m) ≡ true
pace_below zero m = le-leb 0 m (omega arith)
pace_below (suc d) m = refl

-- ---- whose value it is, by the kind

module _ (k : ℕ) (l : Source) where
  pub ramps : is_vC l ≡ false → ramp_of l.peak (since k l) l.pace ≡ value_of k l
  unfolding value_of
  ramps e = rw e

  pub swinging : is_vC l ≡ true → l.pace ≡ neg_ℤ (pos (pace l)) → swing_of (ramp_of l.peak (since k l) l.pace) (since k l) (pace l) ≡ value_of k l
  unfolding value_of
  swinging e m = ap (λ (d : ℤ). swing_of (ramp_of l.peak (since k l) d) (since k l) (pace l)) m ∙ swing_whole l.peak (since k l) (pace l) (pace l) ∙ rw e

  -- it is never larger than the peak
  pub value_size : nat_abs (value_of k l) ≤ nat_abs l.peak
  unfolding value_of
  value_size = either (λ x. nat_abs x ≤ nat_abs l.peak) (is_vC l) _ _ (swing_size l.peak (since k l) (pace l)) (ramp_size l.peak (since k l) l.pace)
