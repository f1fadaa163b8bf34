-- "a path": a path need not be longer than there are nodes, so the rounds find every one. Assumes nothing.
use Rattle.std.specs.Prelude.{◌+◌, ◌≤◌, ◌<◌, ◌≡◌, ◌≢◌, ◌⊎◌, ◌&&◌}
use Rattle.whole.specs.Plain.{ℕ, zero, suc, refl, sym, ◌∙◌, subst, inl, inr, Bool, true}
use Rattle.whole.specs.Plain.{false, not, and-true, and-false, true≢false, List, eqb, ltb, length, eq-eqb, ne_eqb}
use Rattle.whole.specs.Plain.{ltb-true, lt-ltb, ℕ_discrete, arith, count, numbers}
use Rattle.whole.specs.Folds.{and_left}
use Rattle.whole.specs.Turns.{run, turns}
use Rattle.paper.specs.Limits as Limits
use Rattle.paper.specs.Spread.{Join, mark, round, spread}
use Rattle.laws_paths.specs.Paths.{Beside, Path, stay, hop, Linked}
use Rattle.laws_paths.specs.Rounds.{Inside, run_falls, run_path}

-- ---- a path need not be longer than there are nodes

-- a path through allowed nodes
data Way (js : List Join) (P : ℕ → Bool) : ℕ → ℕ → ℕ → Type 0 where
  rest : {n : ℕ} → P n ≡ true → Way js P 0 n n
  step : {k n m p : ℕ} → P n ≡ true → Beside js n m → Way js P k m p → Way js P (suc k) n p

-- all that P allows, but for n
less : (ℕ → Bool) → ℕ → ℕ → Bool
less P n x = P x && not (eqb x n)

less_other : (P : ℕ → Bool) (n x : ℕ) → P x ≡ true → x ≢ n → less P n x ≡ true
unfolding less
less_other P n x p h = rw (p, ne_eqb x n h)

less_none : (P : ℕ → Bool) (n : ℕ) → less P n n ≡ false
unfolding less
less_none P n = rw (eq-eqb n n refl, and-false)

start : {js : List Join} {P : ℕ → Bool} {k n p : ℕ} → Way js P k n p → P n ≡ true
start (rest e) = e
start (step e b w) = e

-- what follows a path's last visit to n
record Last (js : List Join) (P : ℕ → Bool) (n p : ℕ) : Type 0 where
  joins : ℕ
  next : ℕ
  beside : Beside js n next
  way : Way js (less P n) joins next p

-- a path either never visits n, or visits it last at its end, or goes on from there without it
leave : {js : List Join} {P : ℕ → Bool} {k s p : ℕ} (n : ℕ) → Way js P k s p → Way js (less P n) k s p ⊎ ((n ≡ p) ⊎ Last js P n p)
leave {js} {P} {p = p} n (rest {n = s} e) = elim (ℕ_discrete s n) [ yes q ↦ inr (inl (sym q)) | no q ↦ inl (rest (less_other P n s e q)) ]
leave {js} {P} {p = p} n (step {k} {n = s} {m = q} e b w) =
    elim (leave n w) [
      | inr l ↦ inr l
      | inl v ↦ elim (ℕ_discrete s n) [ yes x ↦ inr (inr (record { joins = k; next = q; beside = rw x at b; way = v })) | no x ↦ inl (step (less_other P n s e x) b v) ]
    ]

less_same : (P : ℕ → Bool) (n x : ℕ) → x ≢ n → less P n x ≡ P x
unfolding less
less_same P n x h = rw (ne_eqb x n h, and-true)

less_of : (P : ℕ → Bool) (n x : ℕ) → less P n x ≡ true → P x ≡ true
unfolding less
less_of P n x e = and_left (P x) (not (eqb x n)) e

count_beyond : (P : ℕ → Bool) (n l i : ℕ) → n < i → count (less P n) (numbers i l) ≡ count P (numbers i l)
unfolding count numbers
count_beyond P n zero i h = refl
count_beyond P n (suc l) i h = rw (less_same P n i (λ e. omega arith), count_beyond P n l (suc i) (omega arith))

count_less : (P : ℕ → Bool) (n l i : ℕ) → i ≤ n → n < i + l → P n ≡ true → count P (numbers i l) ≡ suc (count (less P n) (numbers i l))
unfolding count numbers
count_less P n zero i h u e = absurd (omega arith)
count_less P n (suc l) i h u e =
    elim (ℕ_discrete i n) [
      | yes q ↦ rw (q, e, less_none, count_beyond P n l (suc n) (omega arith)) (omega arith)
      | no q ↦ rw (less_same P n i q, count_less P n l (suc i) (omega arith) (omega arith) e) (omega arith)
    ]

-- the numbers of ground and of the nodes
abbrev all : ℕ
all = suc Limits.node_end

fewer : (P : ℕ → Bool) → ((x : ℕ) → P x ≡ true → x < all) → (n : ℕ) → P n ≡ true → count P (numbers 0 all) ≡ suc (count (less P n) (numbers 0 all))
fewer P h n e = count_less P n all 0 (omega arith) (omega (arith, h n e)) e

record Short (js : List Join) (c n p : ℕ) : Type 0 where
  joins : ℕ
  few : joins < c
  path : Path js joins n p

short : (js : List Join) (c k n p : ℕ) (P : ℕ → Bool) → ((x : ℕ) → P x ≡ true → x < all) → count P (numbers 0 all) ≤ c → Way js P k n p → Short js c n p
short js zero k n p P h l w =
    absurd (omega (arith, fewer P h n (start w)))
short js (suc c) k n p P h l w =
    elim (leave n w) [
      | inl v ↦ absurd (true≢false (sym (start v) ∙ less_none P n))
      | inr (inl q) ↦ record { joins = 0; few = omega arith; path = subst (λ (y : ℕ). Path js 0 n y) q stay }
      | inr (inr x) ↦
          let s = short js c x.joins x.next p (less P n) (λ y t. h y (less_of P n y t)) (omega (arith, fewer P h n (start w))) x.way in
          record { joins = suc s.joins; few = omega (arith, s.few); path = hop x.beside s.path }
    ]

-- each node of a path is below the number of nodes
beside_inside : (js : List Join) (l n m : ℕ) → Inside js l → Beside js n m → (n < l) × (m < l)
unfolding Inside
beside_inside js l n m h b = let p = h b.join b.within in elim b.ends [ inl e ↦ omega arith | inr e ↦ omega arith ]

way_of : (js : List Join) (l k n p : ℕ) → Inside js l → l ≤ all → n < all → Path js k n p → Way js (λ x. ltb x all) k n p
way_of js l k n p h u b stay = rest (lt-ltb n all b)
way_of js l k n p h u b (hop {k = i} {m = m} s w) =
    let q = beside_inside js l n m h s in
    step (lt-ltb n all b) s (way_of js l i m p h u (omega arith) w)

whole : count (λ x. ltb x all) (numbers 0 all) ≡ all
unfolding count numbers
whole = refl

reached : (js : List Join) (m : List ℕ) (k n p : ℕ) → Inside js (length m) → length m ≤ all → Path js k n p → mark (run Limits.node_end 0 (round js) m) n ≤ mark m p
reached js m k n p h u stay = run_falls js Limits.node_end 0 m n
reached js m k n p h u (hop {k = i} {m = q} s v) =
    let b = beside_inside js (length m) n q h s in
    let t = short js all (suc i) n p (λ x. ltb x all) (λ x e. ltb-true x all e) (omega (arith, whole)) (way_of js (length m) (suc i) n p h u (omega arith) (hop s v)) in
    run_path js m h t.joins Limits.node_end n p (omega (arith, t.few)) t.path

-- and at most the first mark of each node that hangs together with it
pub spread_complete : (js : List Join) (m : List ℕ) (n p : ℕ) → Inside js (length m) → length m ≤ all → Linked js n p → mark (spread js m) n ≤ mark m p
unfolding spread turns
spread_complete js m n p h u w = reached js m w.joins n p h u w.path
