-- The matrix sees legs without their histories. Assumes nothing.
use Rattle.std.specs.Prelude.{◌≡◌, ◌&&◌, ◌∷◌}
use Rattle.whole.specs.Plain.{ℕ, refl, cond, List, [], map, eqb, ℤ, pos, z, total}
use Rattle.paper.specs.Legs.{Leg, leg}
use Rattle.paper.specs.Solve.{leaves, leads, entry}

-- a leg without its history
abbrev pub bare : Leg → Leg
bare l = leg l.near l.far l.g z

-- ---- sums of conductances see no more
bare_total : (f : Leg → ℤ) → ((l : Leg) → f (bare l) ≡ f l) → (legs : List Leg) → total f (map bare legs) ≡ total f legs
unfolding total
bare_total f e [] = refl
bare_total f e (l ∷ ls) = rw (e l, bare_total f e ls)

pub bare_entry : (legs : List Leg) (p q : ℕ) → entry (map bare legs) p q ≡ entry legs p q
unfolding entry leaves leads
bare_entry legs p q = rw (bare_total (λ l. cond (eqb l.near p) (pos l.g) z) (λ l. refl) legs, bare_total (λ l. cond (eqb l.near p && eqb l.far q) (pos l.g) z) (λ l. refl) legs)
