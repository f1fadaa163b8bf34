-- The joins of the legs that conduct, by the legs' places. Assumes nothing.
use Rattle.std.specs.Prelude.{◌<◌, ◌≡◌, ◌∷◌}
use Rattle.whole.specs.Plain.{ℕ, suc, refl, inl, inr, Bool, true, false, cond, List, []}
use Rattle.whole.specs.Plain.{Mem-cases_cons, Mem-not_nil, map, length, get_or, arith, keep}
use Rattle.whole.specs.Members.{among_at, among_keep, among_map}
use Rattle.paper.specs.Legs.{Leg, idle}
use Rattle.paper.specs.Spread.{Join}
use Rattle.paper.specs.Floating.{conducting, leg_join}
use Rattle.laws_paths.specs.Paths.{In}
use Rattle.laws_paths.specs.Meaning.{leg_joins}

pub leg_in : (legs : List Leg) (t : ℕ) → t < length legs → conducting (get_or legs t idle) ≡ true → In (leg_join (get_or legs t idle)) (leg_joins legs)
leg_in legs t h c = among_map leg_join (keep conducting legs) (among_keep conducting legs (among_at legs t idle h) c)

-- what holds of each leg that conducts holds of each join
pub joins_all : (P : Join → Type 0) (legs : List Leg) → ((t : ℕ) → t < length legs → conducting (get_or legs t idle) ≡ true → P (leg_join (get_or legs t idle)))
    → (j : Join) → In j (leg_joins legs) → P j
unfolding keep
joins_all P [] h j i = absurd (Mem-not_nil i)
joins_all P (l ∷ legs) h j i = go (conducting l) refl (joins_all P legs (λ t k. h (suc t) (omega arith)) j) i
  where
    go : (b : Bool) → conducting l ≡ b → (In j (leg_joins legs) → P j) → In j (map leg_join (cond b (l ∷ keep conducting legs) (keep conducting legs))) → P j
    go true e more i = elim (Mem-cases_cons i) [ inl q ↦ rw q (h 0 (omega arith) e) | inr k ↦ more k ]
    go false e more i = more i
