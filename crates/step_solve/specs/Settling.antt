-- From doubles to voltages, free node by free node: the search for one outside the range, and the voltages where there is none. Assumes nothing.
use Rattle.std.specs.Prelude.{Option, Some, None, Result, Ok, Err, ⊤}
use Rattle.whole.specs.Plain.{ℕ, zero, suc, set, refl, sym, ap, ◌∙◌, true, false, cond, List, [], map, get_or, ℤ}
use Rattle.whole.specs.Plain.{length, take, drop, length-set, length-map, drop-cons, drop-length, get_or-take}
use Rattle.whole.specs.Plain.{length-take-le, arith, Words}
use Rattle.std.proofs.Common.{add-one}
use Rattle.std.specs.Prelude.{Float, ◌+◌, ◌≤◌, ◌<◌, ◌≡◌, ◌∷◌}
use Rattle.std.specs.Float.{nan}
use Rattle.whole.specs.Folds.{get_d_map}
use Rattle.step_solve.specs.declared.OutOfRange.{OutOfRange}
use Rattle.paper.specs.declared.Refusal.{Refusal}
use Rattle.paper.specs.declared.Refusal.TheVariants.{Range}
use Rattle.paper.specs.Limits as Limits
use Rattle.paper.specs.Doubles.{Voltage, in_range, whole_of, as_voltage, nearest_of}
use Rattle.paper.specs.Solve.{out_of, out_of_range, settle, settled}
use Rattle.laws_volts.specs.Range.{whole_most, set_end}
use Rattle.step_legs.specs.Free.{Free}
use Rattle.step_legs.specs.Shares.{Volts}

abbrev pub refusal_of : OutOfRange → Refusal
refusal_of out = Range out.node

not_ok : {out : OutOfRange} → ◌≡◌ {A = Result ⊤ OutOfRange} (Err out) (Ok tt) → ⊥
not_ok e = cc

-- a node that is out of the range, or 0 where none is
abbrev pub refused : ℕ → Result ⊤ OutOfRange
refused zero = Ok tt
refused (suc n) = Err (record { node = suc n })

pub refused_is : {out : OutOfRange} (m : ℕ) → Err out ≡ refused m → (out.node ≡ m) × (out.node ≡ 0 → ⊥)
refused_is zero e = absurd (not_ok e)
refused_is {out} (suc m) e = let q : out ≡ record { node = suc m } = cc in let n = ap (λ (x : OutOfRange). x.node) q in (n, λ d. omega (arith, n, d))

pub refused_none : (m : ℕ) → Ok tt ≡ refused m → m ≡ 0
refused_none zero e = refl
refused_none (suc m) e = absurd (not_ok (sym e))

-- 15 with its node, or the voltages
pub record Solved (free : List ℕ) (xs : List (Option Voltage)) (still v : Words) (r : Result ⊤ OutOfRange) : Type 0 where
  pub answer : r ≡ refused (out_of_range free xs)
  pub volts : r ≡ Ok tt → v ≡ settled free xs still

abbrev pub rounded : ℕ → List Float → List (Option Voltage)
rounded n xs = map nearest_of (take n xs)

-- what a rounding tells of the range
pub in_range_lem : (x : Float) (y : ℤ) → nearest_of x ≡ as_voltage y → in_range x ≡ true
unfolding nearest_of
in_range_lem x y e = elim (in_range x) as (λ t. in_range x ≡ t → in_range x ≡ true) [
  | true ↦ λ f. f
  | false ↦ λ f. let d : ◌≡◌ {A = Option Voltage} None (as_voltage y) = rw f at e in let k : ◌≡◌ {A = ℕ} 0 1 = cc in absurd (omega arith)
] refl

pub out_of_range_lem : (x : Float) → nearest_of x ≡ None → in_range x ≡ false
unfolding nearest_of
out_of_range_lem x e = elim (in_range x) as (λ t. in_range x ≡ t → in_range x ≡ false) [
  | true ↦ λ f. let d : ◌≡◌ {A = Option Voltage} (as_voltage (whole_of x)) None = rw f at e in let k : ◌≡◌ {A = ℕ} 0 1 = cc in absurd (omega arith)
  | false ↦ λ f. f
] refl

-- ---- where the first i are within the range
pub record SettledTo (free : List ℕ) (xs : List Float) (still v : Words) (i : ℕ) : Type 0 where
  pub answer : out_of_range free (rounded (length free) xs) ≡ out_of_range (drop i free) (drop i (rounded (length free) xs))
  pub volts : settled free (rounded (length free) xs) still ≡ settled (drop i free) (drop i (rounded (length free) xs)) v

module _ {free : List ℕ} (f : Free free) (xs : List Float) (long : length free ≤ length xs) where
  abbrev ys : List (Option Voltage)
  ys = rounded (length free) xs

  rounded_more : (i : ℕ) → i < length free → drop i ys ≡ nearest_of (get_or xs i nan) ∷ drop (i + 1) ys
  rounded_more i h =
      let k : i < length ys = omega (arith, length-map (take (length free) xs) nearest_of ∙ length-take-le (length free) xs long) in
      let m : i < length (take (length free) xs) = omega (arith, length-take-le (length free) xs long) in
      drop-cons ys i None k ∙ rw (add-one i, get_d_map nearest_of (take (length free) xs) i nan None m, get_or-take (length free) xs i nan h)

  free_more : (i : ℕ) → i < length free → drop i free ≡ get_or free i 0 ∷ drop (i + 1) free
  free_more i h = rw (add-one i, drop-cons free i 0)

  -- one node more, whose double is in the range, and one that is outside
  module _ {still v : Words} (i : ℕ) (h : i < length free) (s : SettledTo free xs still v i) where
    heads : out_of_range (drop i free) (drop i ys) ≡ out_of (nearest_of (get_or xs i nan)) (get_or free i 0) (out_of_range (drop (i + 1) free) (drop (i + 1) ys))
    unfolding out_of_range
    heads = rw (free_more i h, rounded_more i h)

    pub settled_more : {x : Voltage} → nearest_of (get_or xs i nan) ≡ Some x → SettledTo free xs still (set v (get_or free i 0) x.tenths) (i + 1)
    unfolding settled
    settled_more {x} e = record {
      answer = s.answer ∙ heads ∙ ap (λ (x : Option Voltage). out_of x (get_or free i 0) (out_of_range (drop (i + 1) free) (drop (i + 1) ys))) e;
      volts = s.volts ∙ rw (free_more i h, rounded_more i h, e);
    }

    pub settled_out : {v' : Words} → nearest_of (get_or xs i nan) ≡ None → Solved free ys still v' (Err (record { node = get_or free i 0 }))
    settled_out e = record {
      answer = err (get_or free i 0) (s.answer ∙ heads ∙ ap (λ (x : Option Voltage). out_of x (get_or free i 0) (out_of_range (drop (i + 1) free) (drop (i + 1) ys))) e) (f.above i h);
      volts = λ d. absurd (not_ok d);
    }
      where
        err : {m : ℕ} (n : ℕ) → m ≡ n → 0 < n → Err (record { node = n }) ≡ refused m
        err zero e l = absurd (omega arith)
        err (suc n) e l = rw e

  pub settled_none : (still : Words) → SettledTo free xs still still 0
  settled_none still = record { answer = refl; volts = refl }

  pub settled_all : {still v : Words} → SettledTo free xs still v (length free) → Solved free ys still v (Ok tt)
  unfolding out_of_range settled
  settled_all s = let e : out_of_range free ys ≡ 0 = s.answer ∙ rw (drop-length free) in record { answer = sym (ap refused e); volts = λ d. sym (s.volts ∙ rw (drop-length free)) }

-- ---- the voltages are in the range
settle_volts : (v : Words) (n : ℕ) (x : Float) → Volts v → Volts (settle v n (nearest_of x))
unfolding nearest_of
settle_volts v n x s = elim (in_range x) as (λ t. in_range x ≡ t → Volts (settle v n (cond t (as_voltage (whole_of x)) None))) [
  | true ↦ λ e. record { long = length-set v n (whole_of x) ∙ s.long; end = λ k. set_end v n k Limits.voltage_end (whole_of x) (whole_most x e) (s.end k) }
  | false ↦ λ e. s
] refl

pub settled_volts : (ns : List ℕ) (xs : List Float) (v : Words) → Volts v → Volts (settled ns (map nearest_of xs) v)
unfolding settled
settled_volts [] xs v s = s
settled_volts (n ∷ ns) [] v s = s
settled_volts (n ∷ ns) (x ∷ xs) v s = settled_volts ns xs (settle v n (nearest_of x)) (settle_volts v n x s)
