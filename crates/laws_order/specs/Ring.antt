-- A ring of slots: the value of step x stands in place x mod m, from the word `off` of a store on. Assumes nothing.
use Rattle.std.specs.Prelude.{ℕ, suc, ◌+◌, ◌*◌, ◌/◌, ◌%◌, ◌≤◌, ◌<◌, ◌≡◌, ◌≢◌, List, get_or, ℤ, pos}
use Rattle.std.proofs.Common.{mod-lt, mul-le-mul_right, arith, sym, subst}
use Rattle.std.proofs.Math.Nat.{mod-add-div'}
use Rattle.std.proofs.Math.Decide.{ℕ_discrete, dec_le}

-- two steps less than m apart stand in different places of a ring of m
pub ring_apart : (x y m : ℕ) → x < y → y < x + m → x % m ≢ y % m
ring_apart x y m l u e =
    elim (dec_le (y / m) (x / m)) [
      | yes q ↦ let h : y / m * m ≤ x / m * m = mul-le-mul_right m q in omega (arith, mod-add-div' x m, mod-add-div' y m)
      | no q ↦ let h : suc (x / m) * m ≤ y / m * m = mul-le-mul_right m (omega arith) in omega (arith, mod-add-div' x m, mod-add-div' y m)
    ]

-- d values on their way, d for a lead of the reader, and the older ones that are read
abbrev pub places : ℕ → ℕ → ℕ
places d deep = 2 * d + deep

abbrev pub slot : List ℤ → ℕ → ℕ → ℕ → ℤ
slot st off m x = get_or st (off + x % m) (pos 0)

-- of the c steps that its writer has taken, the last m are in their slots: `Sent x y` says that y was sent at step x
pub record Holds (st : List ℤ) (off m c : ℕ) (Sent : ℕ → ℤ → Type 0) : Type 0 where
  pub holds : (x : ℕ) → 0 < x → x ≤ c → c < x + m → Sent x (slot st off m x)

-- another area's step: no slot of the ring is touched
pub holds_still : (st su : List ℤ) (off m c : ℕ) (Sent Sent' : ℕ → ℤ → Type 0) → 0 < m → Holds st off m c Sent
    → ((x : ℕ) (y : ℤ) → Sent x y → Sent' x y) → ((r : ℕ) → r < m → get_or su (off + r) (pos 0) ≡ get_or st (off + r) (pos 0)) → Holds su off m c Sent'
holds_still st su off m c Sent Sent' m0 h more old = record { holds = λ x p q r. subst (Sent' x) (sym (old (x % m) (mod-lt x m0))) (more x _ (h.holds x p q r)) }

-- its writer sends: the new slot has the new value, and no other slot of the ring is touched
pub holds_sent : (st su : List ℤ) (off m c : ℕ) (Sent Sent' : ℕ → ℤ → Type 0) → 0 < m → Holds st off m c Sent
    → ((x : ℕ) (y : ℤ) → Sent x y → Sent' x y) → Sent' (suc c) (slot su off m (suc c))
    → ((r : ℕ) → r < m → r ≢ suc c % m → get_or su (off + r) (pos 0) ≡ get_or st (off + r) (pos 0)) → Holds su off m (suc c) Sent'
holds_sent st su off m c Sent Sent' m0 h more new old = record {
  holds = λ x p q r. elim (ℕ_discrete x (suc c)) [
    | yes e ↦ subst (λ (x : ℕ). Sent' x (slot su off m x)) (sym e) new
    | no e ↦ rw (old (x % m) (mod-lt x m0) (ring_apart x (suc c) m (omega arith) (omega arith))) (more x _ (h.holds x p (omega arith) (omega arith)))
  ];
}
