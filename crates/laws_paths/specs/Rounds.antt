-- What a round does to the marks: none rises, and each comes to its neighbours' at most. Assumes nothing.
use Rattle.std.specs.Prelude.{◌≤◌, ◌<◌, ◌≡◌, ◌∷◌}
use Rattle.whole.specs.Plain.{ℕ, zero, suc, refl, ap, ◌∙◌, inl, inr, List, [], Mem-cases_cons}
use Rattle.whole.specs.Plain.{Mem-not_nil, length, set, length-set, get_or-set_same, arith, fold}
use Rattle.whole.specs.Turns.{run}
use Rattle.paper.specs.Spread.{Join, mark, lower, joined, round}
use Rattle.laws_paths.specs.Paths.{In, below, Beside, Path, stay, hop, set_cases}

-- ---- complete

-- the joins name only nodes that have a mark
unfoldable pub Inside : List Join → ℕ → Type 0
Inside js n = (j : Join) → In j js → (j.one < n) × (j.two < n)

pub length_joined : (m : List ℕ) (j : Join) → length (joined m j) ≡ length m
unfolding joined
length_joined m j = simp length-set

-- no mark rises
pub joined_falls : (m : List ℕ) (j : Join) (n : ℕ) → mark (joined m j) n ≤ mark m n
unfolding joined
joined_falls m j n =
    let v = lower m j in
    elim (set_cases (set m j.one v) j.two v n n) [
      | inl p ↦ omega (arith, ap (mark m) p.0, p.1)
      | inr p ↦ elim (set_cases m j.one v n n) [ inl q ↦ omega (arith, ap (mark m) q.0, p, q.1) | inr q ↦ omega (arith, p, q) ]
    ]

-- a join takes each of its ends to the other's mark at most
pub joined_low : (m : List ℕ) (j : Join) → j.one < length m → j.two < length m → (mark (joined m j) j.one ≤ lower m j) × (mark (joined m j) j.two ≤ lower m j)
unfolding joined
joined_low m j p q =
    let v = lower m j in
    let first : mark (set m j.one v) j.one ≡ v = get_or-set_same m j.one v j.one p in
    let second : mark (joined m j) j.two ≡ v = get_or-set_same (set m j.one v) j.two v j.two (rw length-set q) in
    (elim (set_cases (set m j.one v) j.two v j.one j.one) [ inl e ↦ omega (arith, e.1) | inr e ↦ omega (arith, e, first) ], omega (arith, second))

pub fold_length : (js : List Join) (m : List ℕ) → length (fold joined m js) ≡ length m
unfolding fold
fold_length [] m = refl
fold_length (j ∷ js) m = fold_length js (joined m j) ∙ length_joined m j

pub fold_falls : (js : List Join) (m : List ℕ) (n : ℕ) → mark (fold joined m js) n ≤ mark m n
unfolding fold
fold_falls [] m n = omega arith
fold_falls (j ∷ js) m n = omega (arith, fold_falls js (joined m j) n, joined_falls m j n)

-- one round takes a node to its neighbour's mark at most
pub fold_near : (js : List Join) (m : List ℕ) (n p : ℕ) → Inside js (length m) → Beside js n p → mark (fold joined m js) n ≤ mark m p
unfolding fold Inside
fold_near js m n p h b = go js m h b.within
  where
    head : (m : List ℕ) → (b.join.one < length m) × (b.join.two < length m) → mark (joined m b.join) n ≤ mark m p
    head m i =
        let j = b.join in
        let l = joined_low m j i.0 i.1 in
        elim b.ends
        [ inl e ↦ omega (arith, l.0, ap (mark (joined m j)) e.0, ap (mark m) e.1) | inr e ↦ omega (arith, l.1, ap (mark (joined m j)) e.1, ap (mark m) e.0) ]

    go : (js : List Join) (m : List ℕ) → ((j : Join) → In j js → (j.one < length m) × (j.two < length m)) → In b.join js → mark (fold joined m js) n ≤ mark m p
    go [] m h i = absurd (Mem-not_nil i)
    go (k ∷ js) m h i = elim (Mem-cases_cons i) [
      | inl e ↦ omega (arith, fold_falls js (joined m k) n, rw e at (head m (h b.join i)))
      | inr i ↦ omega (arith, go js (joined m k) (λ l q. rw length_joined (h l (below q))) i, joined_falls m k p)
    ]

-- the rounds, the last one outermost
pub run_last : (js : List Join) (k i : ℕ) (m : List ℕ) → run (suc k) i (round js) m ≡ fold joined (run k i (round js) m) js
unfolding run round
run_last js zero i m = refl
run_last js (suc k) i m = run_last js k (suc i) (fold joined m js)

pub run_length : (js : List Join) (k i : ℕ) (m : List ℕ) → length (run k i (round js) m) ≡ length m
unfolding run round
run_length js zero i m = refl
run_length js (suc k) i m = run_length js k (suc i) (fold joined m js) ∙ fold_length js m

pub run_falls : (js : List Join) (k i : ℕ) (m : List ℕ) (n : ℕ) → mark (run k i (round js) m) n ≤ mark m n
unfolding run round
run_falls js zero i m n = omega arith
run_falls js (suc k) i m n = omega (arith, run_falls js k (suc i) (fold joined m js) n, fold_falls js m n)

-- r rounds reach along a path of at most r joins
pub run_path : (js : List Join) (m : List ℕ) → Inside js (length m) → (k r n p : ℕ) → k ≤ r → Path js k n p → mark (run r 0 (round js) m) n ≤ mark m p
unfolding Inside
run_path js m h zero r n p l stay = run_falls js r 0 m n
run_path js m h (suc k) zero n p l (hop b w) = absurd (omega arith)
run_path js m h (suc k) (suc r) n p l (hop {m = q} b w) =
    rw run_last
    (omega (arith, fold_near js (run r 0 (round js) m) n q (unfold Inside in (λ j i. rw run_length (h j i))) b, run_path js m h k r q p (omega arith) w))
