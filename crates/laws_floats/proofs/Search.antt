-- The search's marks against the paper's paths: a node of the area comes to mark 0 exactly when it has a path. Assumes nothing.
use Rattle.std.specs.Prelude.{◌≤◌, ◌<◌, ◌≡◌, ◌⊎◌}
use Rattle.whole.specs.Plain.{ℕ, suc, refl, sym, ap, ◌∙◌, subst, inl, inr, true, List, ℤ, length}
use Rattle.whole.specs.Plain.{eq-eqb, ne_eqb, ℕ_discrete, arith, Words, keep}
use Rattle.whole.specs.Members.{Among, among_map, map_among, among_keep, keep_among}
use Rattle.paper.specs.Rows.{Row, is_branch, is_line, from, to}
use Rattle.paper.specs.Conductance.{conductance}
use Rattle.paper.specs.Spread.{Join, mark}
use Rattle.paper.specs.Areas.{Net, area_of, row_area, step, fixed}
use Rattle.paper.specs.Legs.{Leg, leg, Heard}
use Rattle.paper.specs.Floating.{conducting, leg_join, reached}
use Rattle.laws_paths.specs.Paths.{In, Beside, Path, stay, hop}
use Rattle.laws_paths.specs.Rounds.{Inside}
use Rattle.laws_paths.specs.Meaning.{leg_joins, Grounded, reached_sound, reached_complete}
use Rattle.laws_facts.specs.Nets.{row_at, NetSound, row_area_from, row_area_to}
use Rattle.paper.specs.Classes.{line_branch}
use Rattle.laws_floats.specs.HasPath.{Conducts, Between, HasPath, at_ground, at_fixed, at_line, along}
use Rattle.laws_floats.proofs.Legs.{Of-row, of_line, of_branch, legs_in, leg_of, row_legs, line_from, line_to, plain_from}

record Of-leg (legs : List Leg) (j : Join) : Type 0 where
  wire : Leg
  among : Among wire legs
  carries : conducting wire ≡ true
  is : j ≡ leg_join wire

join_leg : (legs : List Leg) {j : Join} → In j (leg_joins legs) → Of-leg legs j
join_leg legs i =
    let m = map_among leg_join (keep conducting legs) i in
    let k = keep_among conducting legs m.among in
    record { wire = m.source; among = k.among; carries = k.passes; is = m.gives }

leg_join_lem : (legs : List Leg) {l : Leg} → Among l legs → conducting l ≡ true → In (leg_join l) (leg_joins legs)
leg_join_lem legs i c = among_map leg_join (keep conducting legs) (among_keep conducting legs i c)

module _ (N : Net) (s : NetSound N) (a k : ℕ) (recs : Words) (ears : List Heard) where
  abbrev legs : List Leg
  legs = legs_in N a k recs ears

  -- ---- what the search reaches has a path

  hop_path : (n m : ℕ) → Beside (leg_joins legs) n m → HasPath N recs k m → HasPath N recs k n
  hop_path n m b p = go (leg_of N a k recs ears o.among o.carries) ends
    where
      o : Of-leg legs b.join
      o = join_leg legs b.within

      l : Leg
      l = o.wire

      ends : ((l.near ≡ n) × (l.far ≡ m)) ⊎ ((l.near ≡ m) × (l.far ≡ n))
      ends = subst (λ (j : Join). ((j.one ≡ n) × (j.two ≡ m)) ⊎ ((j.one ≡ m) × (j.two ≡ n))) o.is b.ends

      ended : (i : ℕ) → (from (row_at N i) ≡ l.near) ⊎ (to (row_at N i) ≡ l.near) → l.near ≡ n → (from (row_at N i) ≡ n) ⊎ (to (row_at N i) ≡ n)
      ended i (inl x) e = inl (x ∙ e)
      ended i (inr x) e = inr (x ∙ e)

      between : (i : ℕ) → Between (row_at N i) l.near l.far → ((l.near ≡ n) × (l.far ≡ m)) ⊎ ((l.near ≡ m) × (l.far ≡ n)) → Between (row_at N i) n m
      between i (inl x) (inl e) = inl (x.0 ∙ e.0, x.1 ∙ e.1)
      between i (inl x) (inr e) = inr (x.0 ∙ e.0, x.1 ∙ e.1)
      between i (inr x) (inl e) = inr (x.0 ∙ e.1, x.1 ∙ e.0)
      between i (inr x) (inr e) = inl (x.0 ∙ e.1, x.1 ∙ e.0)

      go : Of-row N recs k l → ((l.near ≡ n) × (l.far ≡ m)) ⊎ ((l.near ≡ m) × (l.far ≡ n)) → HasPath N recs k n
      go (of_line i h q x f) (inl e) = at_line i h q (ended i x e.0)
      go (of_line i h q x f) (inr e) = at_ground (sym e.1 ∙ f)
      go (of_branch i h c x) e = along i h c (between i x e) p

  path_of : (j n p : ℕ) → Path (leg_joins legs) j n p → (p ≡ 0) ⊎ (fixed N p ≡ true) → HasPath N recs k n
  path_of j n p stay (inl e) = at_ground e
  path_of j n p stay (inr f) = at_fixed f
  path_of j n p (hop {k = i} {m = m} b w) g = hop_path n m b (path_of i m p w g)

  pub sound : (n : ℕ) → mark (reached (fixed N) N.nodes legs) n ≡ 0 → HasPath N recs k n
  sound n e = let g = reached_sound (fixed N) N.nodes legs n e in path_of g.way.joins n g.node g.way.path g.ground

  -- ---- what has a path is reached

  ends_most : (i : ℕ) → i < length N.rows → is_branch (row_at N i) ≡ true → (from (row_at N i) ≤ N.nodes) × (to (row_at N i) ≤ N.nodes)
  ends_most i h b = let x = (s.row i h).branch b in (x.from_in.most, x.to_in.most)

  legs_inside : Inside (leg_joins legs) (suc N.nodes)
  unfolding Inside
  legs_inside j i = rw o.is (go (leg_of N a k recs ears o.among o.carries))
    where
      o : Of-leg legs j
      o = join_leg legs i

      l : Leg
      l = o.wire

      line_in : (i : ℕ) → i < length N.rows → is_line (row_at N i) ≡ true → (from (row_at N i) ≡ l.near) ⊎ (to (row_at N i) ≡ l.near) → l.near ≤ N.nodes
      line_in i h q (inl x) = let m = ends_most i h (line_branch (row_at N i) q) in omega arith
      line_in i h q (inr x) = let m = ends_most i h (line_branch (row_at N i) q) in omega arith

      plain_in : (i : ℕ) → i < length N.rows → is_branch (row_at N i) ≡ true → Between (row_at N i) l.near l.far → (l.near < suc N.nodes) × (l.far < suc N.nodes)
      plain_in i h q (inl x) = let m = ends_most i h q in omega arith
      plain_in i h q (inr x) = let m = ends_most i h q in omega arith

      go : Of-row N recs k l → (l.near < suc N.nodes) × (l.far < suc N.nodes)
      go (of_line i h q x f) = let m = line_in i h q x in omega arith
      go (of_branch i h c x) = plain_in i h c.branch x

  record Reaches (n : ℕ) : Type 0 where
    ground : Grounded (fixed N) legs n
    inside : ground.node ≤ N.nodes

  stays : (n : ℕ) → n ≤ N.nodes → (n ≡ 0) ⊎ (fixed N n ≡ true) → Reaches n
  stays n h g = record { ground = record { node = n; way = record { joins = 0; path = stay }; ground = g }; inside = h }

  hops : (n m : ℕ) → Beside (leg_joins legs) n m → Reaches m → Reaches n
  hops n m b r = record {
    ground = record { node = r.ground.node; way = record { joins = suc r.ground.way.joins; path = hop b r.ground.way.path }; ground = r.ground.ground };
    inside = r.inside;
  }

  -- a leg that stands for its row, with the row's conductance, joins its two nodes
  beside_leg : (i : ℕ) → i < length N.rows → is_branch (row_at N i) ≡ true → (l : Leg) → Among l legs → l.g ≡ conductance (step N) (row_at N i)
      → (n m : ℕ) → ((l.near ≡ n) × (l.far ≡ m)) ⊎ ((l.near ≡ m) × (l.far ≡ n)) → Beside (leg_joins legs) n m
  beside_leg i h b l j g n m e = record { join = leg_join l; within = leg_join_lem legs j carries; ends = e }
    where
      carries : conducting l ≡ true
      carries = let x = ((s.row i h).branch b).g_least in rw (ne_eqb l.g 0 (λ q. omega arith))

  by_line : (n i : ℕ) → i < length N.rows → is_line (row_at N i) ≡ true → (from (row_at N i) ≡ n) ⊎ (to (row_at N i) ≡ n) → area_of N n ≡ a → Reaches n
  by_line n i h q x e = go x
    where
      b : is_branch (row_at N i) ≡ true
      b = line_branch (row_at N i) q

      go : (from (row_at N i) ≡ n) ⊎ (to (row_at N i) ≡ n) → Reaches n
      go (inl f) =
          let w = line_from N a k recs ears i h q (eq-eqb (area_of N (from (row_at N i))) a (ap (area_of N) f ∙ e)) in
          hops n 0
          (beside_leg i h b _ (row_legs N a k recs ears i h).0 (ap (λ (l : Leg). l.g) w) n 0 (inl (ap (λ (l : Leg). l.near) w ∙ f, ap (λ (l : Leg). l.far) w)))
          (stays 0 (omega arith) (inl refl))
      go (inr f) =
          let w = line_to N a k recs ears i h q (eq-eqb (area_of N (to (row_at N i))) a (ap (area_of N) f ∙ e)) in
          hops n 0
          (beside_leg i h b _ (row_legs N a k recs ears i h).1 (ap (λ (l : Leg). l.g) w) n 0 (inl (ap (λ (l : Leg). l.near) w ∙ f, ap (λ (l : Leg). l.far) w)))
          (stays 0 (omega arith) (inl refl))

  -- ground, or a node of the area
  abbrev Local : ℕ → Type 0
  Local n = (n ≡ 0) ⊎ (area_of N n ≡ a)

  module _ (i : ℕ) (h : i < length N.rows) (c : Conducts N recs k i) (n m : ℕ) (x : Between (row_at N i) n m) where
    -- the area of a branch is that of each of its ends off ground
    end_area : (x : Between (row_at N i) n m) → 1 ≤ n → row_area N (row_at N i) ≡ area_of N n
    end_area (inl e) l = row_area_from N s i h c.branch c.plain (omega (arith, e.0)) ∙ ap (area_of N) e.0
    end_area (inr e) l = row_area_to N s i h c.branch c.plain (omega (arith, e.1)) ∙ ap (area_of N) e.1

    ends_in : (x : Between (row_at N i) n m) → m ≤ N.nodes
    ends_in (inl e) = let y = ends_most i h c.branch in omega arith
    ends_in (inr e) = let y = ends_most i h c.branch in omega arith

    across : row_area N (row_at N i) ≡ a → Reaches m → Reaches n
    across e r =
        let w = plain_from N a k recs ears i h c e in
        hops n m (beside_leg i h c.branch _ (row_legs N a k recs ears i h).0 (ap (λ (l : Leg). l.g) w) n m (ends w x)) r
      where
        ends : {l : Leg} {g : ℕ} {t : ℤ} → l ≡ leg (from (row_at N i)) (to (row_at N i)) g t → Between (row_at N i) n m → ((l.near ≡ n) × (l.far ≡ m)) ⊎ ((l.near ≡ m) × (l.far ≡ n))
        ends w (inl e) = inl (ap (λ (l : Leg). l.near) w ∙ e.0, ap (λ (l : Leg). l.far) w ∙ e.1)
        ends w (inr e) = inr (ap (λ (l : Leg). l.near) w ∙ e.0, ap (λ (l : Leg). l.far) w ∙ e.1)

  turned : (r : Row) (n m : ℕ) → Between r n m → Between r m n
  turned r n m (inl e) = inr e
  turned r n m (inr e) = inl e

  -- a branch of the area leads to ground or to a node of the area
  still_local : (i n m : ℕ) → i < length N.rows → Conducts N recs k i → Between (row_at N i) n m → row_area N (row_at N i) ≡ a → Local m
  still_local i n m h c x e = go (ℕ_discrete m 0)
    where
      go : Dec (m ≡ 0) → Local m
      go (yes q) = inl q
      go (no q) = inr (sym (end_area i h c m n (turned (row_at N i) n m x) (turned (row_at N i) n m x) (omega arith)) ∙ e)

  reaches : {n : ℕ} → HasPath N recs k n → Local n → n ≤ N.nodes → Reaches n
  reaches {n} (at_ground e) l h = stays n h (inl e)
  reaches {n} (at_fixed f) l h = stays n h (inr f)
  reaches {n} (at_line i g q x) (inl e) h = stays n h (inl e)
  reaches {n} (at_line i g q x) (inr e) h = by_line n i g q x e
  reaches {n} (along {m = m} i g c x p) l h = go (ℕ_discrete n 0) l (λ u v. reaches p u v)
    where
      go : Dec (n ≡ 0) → Local n → (Local m → m ≤ N.nodes → Reaches m) → Reaches n
      go (yes q) l more = stays n h (inl q)
      go (no q) (inl e) more = stays n h (inl e)
      go (no q) (inr e) more =
          let area : row_area N (row_at N i) ≡ a = end_area i g c n m x x (omega arith) ∙ e in
          across i g c n m x area (more (still_local i n m g c x area) (ends_in i g c n m x x))

  pub complete : (n : ℕ) → area_of N n ≡ a → n ≤ N.nodes → HasPath N recs k n → mark (reached (fixed N) N.nodes legs) n ≡ 0
  complete n e h p = let r = reaches p (inr e) h in reached_complete (fixed N) N.nodes legs n legs_inside s.node_most r.ground r.inside
