-- "a path": what the rounds of `Spread` find out. The mark of a node is the first mark of some node that hangs together with it
-- (`spread_sound`); that it is at most that of each such node is `spread_complete` of Reached. Assumes nothing.
use Rattle.std.specs.Prelude.{◌≡◌, ◌⊎◌, ◌∷◌}
use Rattle.whole.specs.Plain.{ℕ, zero, suc, refl, ap, subst, inl, inr, List, [], get_or, set, dec_le, arith}
use Rattle.whole.specs.Plain.{fold}
use Rattle.whole.specs.Members.{Among}
use Rattle.whole.specs.Members as Members
use Rattle.whole.specs.Turns.{run, turns}
use Rattle.paper.specs.Limits as Limits
use Rattle.paper.specs.Spread.{Join, mark, lower, joined, round, spread}

-- ---- paths

abbrev pub In : Join → List Join → Type 0
In j js = Among j js

pub top : {j : Join} {js : List Join} → In j (j ∷ js)
top = Members.top refl

pub below : {i j : Join} {js : List Join} → In j js → In j (i ∷ js)
below i = Members.below i

-- a join of the list has n at one end and m at the other
pub record Beside (js : List Join) (n m : ℕ) : Type 0 where
  pub join : Join
  pub within : In join js
  pub ends : ((join.one ≡ n) × (join.two ≡ m)) ⊎ ((join.one ≡ m) × (join.two ≡ n))

-- a path of k joins
pub data Path (js : List Join) : ℕ → ℕ → ℕ → Type 0 where
  stay : {n : ℕ} → Path js 0 n n
  hop : {k n m p : ℕ} → Beside js n m → Path js k m p → Path js (suc k) n p

pub record Linked (js : List Join) (n p : ℕ) : Type 0 where
  pub joins : ℕ
  pub path : Path js joins n p

linked : {js : List Join} {k n p : ℕ} → Path js k n p → Linked js n p
linked w = record { joins = _; path = w }

-- ---- marks after a store

pub set_cases : (m : List ℕ) (i v n d : ℕ) → ((i ≡ n) × (get_or (set m i v) n d ≡ v)) ⊎ (get_or (set m i v) n d ≡ get_or m n d)
set_cases [] i v n d = inr refl
set_cases (x ∷ m) zero v zero d = inl (refl, refl)
set_cases (x ∷ m) zero v (suc n) d = inr refl
set_cases (x ∷ m) (suc i) v zero d = inr refl
set_cases (x ∷ m) (suc i) v (suc n) d = elim (set_cases m i v n d) [ inl p ↦ inl (ap suc p.0, p.1) | inr p ↦ inr p ]

-- ---- sound

-- a node's mark is the first mark of some node that hangs together with it
pub record Marked (js : List Join) (m : List ℕ) (n v : ℕ) : Type 0 where
  pub node : ℕ
  pub way : Linked js n node
  pub first : v ≡ mark m node

module _ (js : List Join) (m₀ : List ℕ) where
  abbrev From : ℕ → ℕ → Type 0
  From = Marked js m₀

  Sound : List ℕ → Type 0
  Sound m = (n : ℕ) → From n (mark m n)

  lower_from : (m : List ℕ) (j : Join) → In j js → Sound m → From j.one (lower m j) × From j.two (lower m j)
  unfolding Sound
  lower_from m j i s =
      elim (dec_le (mark m j.one) (mark m j.two)) [
        | yes h ↦ let e : lower m j ≡ mark m j.one = omega arith in rw e (s j.one, from_one (s j.one))
        | no h ↦ let e : lower m j ≡ mark m j.two = omega arith in rw e (from_two (s j.two), s j.two)
      ]
    where
      from_two : From j.two (mark m j.two) → From j.one (mark m j.two)
      from_two f = record { node = f.node; way = linked (hop (record { join = j; within = i; ends = inl (refl, refl) }) f.way.path); first = f.first }

      from_one : From j.one (mark m j.one) → From j.two (mark m j.one)
      from_one f = record { node = f.node; way = linked (hop (record { join = j; within = i; ends = inr (refl, refl) }) f.way.path); first = f.first }

  joined_sound : (m : List ℕ) (j : Join) → In j js → Sound m → Sound (joined m j)
  unfolding Sound joined
  joined_sound m j i s n =
      let v = lower m j in
      let l = lower_from m j i s in
      elim (set_cases (set m j.one v) j.two v n n) [
        | inl p ↦ rw p.1 (subst (λ (x : ℕ). From x v) p.0 l.1)
        | inr p ↦ elim (set_cases m j.one v n n) [ inl q ↦ rw (p, q.1) (subst (λ (x : ℕ). From x v) q.0 l.0) | inr q ↦ rw (p, q) (s n) ]
      ]

  -- the joins of a part of the list
  All-in : List Join → Type 0
  All-in ks = (j : Join) → In j ks → In j js

  fold_sound : (ks : List Join) → All-in ks → (m : List ℕ) → Sound m → Sound (fold joined m ks)
  unfolding fold All-in
  fold_sound [] h m s = s
  fold_sound (j ∷ ks) h m s = fold_sound ks (λ i p. h i (below p)) (joined m j) (joined_sound m j (h j top) s)

  run_sound : (k i : ℕ) (m : List ℕ) → Sound m → Sound (run k i (round js) m)
  unfolding run round All-in
  run_sound zero i m s = s
  run_sound (suc k) i m s = run_sound k (suc i) (round js i m) (fold_sound js (λ j p. p) m s)

pub spread_sound : (js : List Join) (m : List ℕ) (n : ℕ) → Marked js m n (mark (spread js m) n)
unfolding spread turns Sound
spread_sound js m n = run_sound js m Limits.node_end 0 m (λ i. record { node = i; way = linked stay; first = refl }) n
