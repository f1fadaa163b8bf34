-- What the answer goes by. An area's legs lead nowhere else, so the nodes outside of it may count as reached; neither histories nor legs that carry
-- nothing count. Assumes nothing.
use Rattle.std.specs.Prelude.{◌≤◌, ◌<◌, ◌≡◌, ◌⊎◌, ◌∷◌}
use Rattle.whole.specs.Plain.{ℕ, refl, sym, ap, ◌∙◌, inl, inr, Bool, true, false, cond, not, List}
use Rattle.whole.specs.Plain.{[], map, eqb, ℤ, length, get_or, eq-eqb, ne_eqb, ℕ_discrete, arith, z, keep}
use Rattle.paper.specs.Limits as Limits
use Rattle.paper.specs.Legs.{Leg, leg, idle}
use Rattle.paper.specs.Areas.{Net, area_of, fixed, free_of}
use Rattle.paper.specs.Spread.{Join, mark}
use Rattle.paper.specs.Floating.{conducting, leg_join, reached, floating}
use Rattle.laws_paths.specs.Paths.{In, Path, stay, hop}
use Rattle.laws_paths.specs.Rounds.{Inside}
use Rattle.laws_paths.specs.Meaning.{leg_joins, Grounded, reached_sound, reached_complete}
use Rattle.laws_facts.specs.Nets.{NetSound}
use Rattle.step_legs.specs.Free.{first_cong}
use Rattle.step_floating.specs.Search.{loose}
use Rattle.step_floating.specs.Joins.{joins_all}
use Rattle.step_floating.specs.Free.{free_node, loose_fixed}

-- ground, or a node of area a
pub data Local (N : Net) (a n : ℕ) : Type 0 where
  ground : n ≡ 0 → Local N a n
  inside : n ≤ N.nodes → area_of N n ≡ a → Local N a n

-- legs from such to such
pub record Locals (N : Net) (a : ℕ) (legs : List Leg) : Type 0 where
  pub ends : (j : ℕ) → j < length legs → Local N a (get_or legs j idle).near × Local N a (get_or legs j idle).far

-- ---- two searches that start alike on nodes that no leg leaves
module _ (legs : List Leg) (P : ℕ → Type 0) (closed : (j : Join) → In j (leg_joins legs) → P j.one × P j.two) where
  path_in : {k n p : ℕ} → Path (leg_joins legs) k n p → P n → P p
  path_in stay h = h
  path_in {n = n} (hop {m = m} b w) h = path_in w (go b.join (closed b.join b.within) b.ends)
    where
      go : (j : Join) → P j.one × P j.two → ((j.one ≡ n) × (j.two ≡ m)) ⊎ ((j.one ≡ m) × (j.two ≡ n)) → P m
      go j q (inl e) = rw (← e.1) q.1
      go j q (inr e) = rw (← e.0) q.0

  reached_alike : (f f' : ℕ → Bool) (m m' : ℕ) → m' ≤ Limits.node_end → ((n : ℕ) → P n → n ≤ m') → ((n : ℕ) → P n → f n ≡ true → (n ≡ 0) ⊎ (f' n ≡ true))
      → (n : ℕ) → P n → mark (reached f m legs) n ≡ 0 → mark (reached f' m' legs) n ≡ 0
  unfolding Inside
  reached_alike f f' m m' u end alike n h z =
      reached_complete f' m' legs n (λ j i. let q = closed j i in (omega (arith, end j.one q.0), omega (arith, end j.two q.1))) u
      (record { node = g.node; way = g.way; ground = elim g.ground [ inl q ↦ inl q | inr q ↦ alike g.node there q ] }) (end g.node there)
    where
      g : Grounded f legs n
      g = reached_sound f m legs n z

      there : P g.node
      there = path_in g.way.path h

-- ---- an area's search
same_zero : (x y : ℕ) → (x ≡ 0 → y ≡ 0) → (y ≡ 0 → x ≡ 0) → eqb x 0 ≡ eqb y 0
same_zero x y f g = elim (ℕ_discrete x 0) [ yes e ↦ eq-eqb x 0 e ∙ sym (eq-eqb y 0 (f e)) | no e ↦ ne_eqb x 0 e ∙ sym (ne_eqb y 0 (λ q. e (g q))) ]

module _ (N : Net) (s : NetSound N) (a : ℕ) (one : 1 ≤ a) {legs : List Leg} (k : Locals N a legs) where
  abbrev free : List ℕ
  free = free_of N a

  end : (n : ℕ) → Local N a n → n ≤ N.nodes
  end n (ground e) = omega arith
  end n (inside h e) = h

  forth : (n : ℕ) → Local N a n → loose free n ≡ true → (n ≡ 0) ⊎ (fixed N n ≡ true)
  forth n (ground e) t = inl e
  forth n (inside h e) t = inr (sym (loose_fixed N s a one n h e) ∙ t)

  back : (n : ℕ) → Local N a n → fixed N n ≡ true → (n ≡ 0) ⊎ (loose free n ≡ true)
  back n (ground e) t = inl e
  back n (inside h e) t = inr (loose_fixed N s a one n h e ∙ t)

  closed : (j : Join) → In j (leg_joins legs) → Local N a j.one × Local N a j.two
  closed = joins_all (λ j. Local N a j.one × Local N a j.two) legs (λ t h c. k.ends t h)

  pub floating_local : floating (loose free) Limits.node_end free legs ≡ floating (fixed N) N.nodes free legs
  unfolding floating
  floating_local =
      first_cong (λ n. not (eqb (mark (reached (loose free) Limits.node_end legs) n) 0)) (λ n. not (eqb (mark (reached (fixed N) N.nodes legs) n) 0)) free
      (λ i h.
      let p = free_node N s a i h in
      let n = get_or free i 0 in
      ap not
      (same_zero (mark (reached (loose free) Limits.node_end legs) n) (mark (reached (fixed N) N.nodes legs) n)
      (reached_alike legs (Local N a) closed (loose free) (fixed N) Limits.node_end N.nodes s.node_most end forth n (inside p.0 p.1))
      (reached_alike legs (Local N a) closed (fixed N) (loose free) N.nodes Limits.node_end (omega arith) (λ m q. omega (arith, end m q, s.node_most)) back n (inside p.0 p.1))))

-- ---- the joins are all that counts
pub floating_joins : (fix : ℕ → Bool) (nodes : ℕ) (free : List ℕ) (l m : List Leg) → leg_joins l ≡ leg_joins m → floating fix nodes free l ≡ floating fix nodes free m
unfolding floating reached
floating_joins fix nodes free l m e = rw e

joins_more : (x : Leg) (h : ℤ) (l m : List Leg) → leg_joins l ≡ leg_joins m → leg_joins (leg x.near x.far x.g h ∷ l) ≡ leg_joins (x ∷ m)
unfolding keep
joins_more x h l m e = go (conducting x)
  where
    go : (b : Bool) → map leg_join (cond b (leg x.near x.far x.g h ∷ keep conducting l) (keep conducting l)) ≡ map leg_join (cond b (x ∷ keep conducting m) (keep conducting m))
    go true = ap (λ (js : List Join). leg_join x ∷ js) e
    go false = e

-- no history counts
pub joins_bare : (l : List Leg) → leg_joins (map (λ x. leg x.near x.far x.g z) l) ≡ leg_joins l
joins_bare [] = refl
joins_bare (x ∷ l) = joins_more x z (map (λ x. leg x.near x.far x.g z) l) l (joins_bare l)
