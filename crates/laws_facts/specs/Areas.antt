-- The areas of a table that passes: each node off ground has one, numbered from 1; joined nodes have one area, and nodes of one area are joined by
-- a path. Assumes nothing.
use Rattle.std.specs.Prelude.{◌+◌, ◌-◌, ◌≤◌, ◌<◌, ◌≡◌, ◌↔◌, ◌∷◌}
use Rattle.whole.specs.Plain.{ℕ, zero, suc, max, refl, sym, ap, ◌∙◌, inl, true, List, []}
use Rattle.whole.specs.Plain.{length, get_or, length-map, eq-eqb, ne_eqb, dec_lt, ℕ_discrete, arith, count, numbers}
use Rattle.whole.specs.Plain.{fold}
use Rattle.whole.specs.Turns.{turns}
use Rattle.whole.specs.Folds.{count_append, count_le, length_numbers, numbers_append, numbers_more, get_d_map}
use Rattle.whole.specs.Most.{most_at, most_least}
use Rattle.paper.specs.Limits as Limits
use Rattle.paper.specs.Rows.{Row, from, to}
use Rattle.paper.specs.Network.{passes}
use Rattle.paper.specs.Spread.{mark, spread}
use Rattle.paper.specs.Areas.{joins, join_of, node_count, lowest, leads, area_numbers}
use Rattle.laws_paths.specs.Paths.{Beside, stay, hop, Linked}
use Rattle.laws_paths.specs.Rounds.{run_length}
use Rattle.laws_paths.specs.Meaning.{area_joins, lowest_linked, lowest_least, same_area}
use Rattle.laws_facts.specs.Table.{node_most_lem, row_sound}
use Rattle.laws_facts.specs.Joins.{joining, join_in, joins_inside, linked_off}

-- ---- the lowest nodes

pub length_lowest : (rows : List Row) (nodes : ℕ) → length (lowest rows nodes) ≡ suc nodes
unfolding lowest spread turns
length_lowest rows nodes = run_length (area_joins rows) Limits.node_end 0 (numbers 0 (suc nodes)) ∙ length_numbers 0 (suc nodes)

-- ---- how many lead up to a node

abbrev pub leaders : List ℕ → ℕ → ℕ
leaders low m = count (leads low) (numbers 1 m)

up_next : (low : List ℕ) (m : ℕ) → leaders low (suc m) ≡ leaders low m + count (leads low) (suc m ∷ [])
up_next low m =
    let a : m + 1 ≡ suc m = omega arith in
    let b : 1 + m ≡ suc m = omega arith in
    let c : leaders low (m + 1) ≡ leaders low m + count (leads low) ((1 + m) ∷ []) = rw numbers_more (count_append (leads low) (numbers 1 m) ((1 + m) ∷ [])) in
    rw (a, b) at c

-- one that leads adds one, one that does not adds none
pub up_last : (low : List ℕ) (m : ℕ) → mark low (suc m) ≡ suc m → leaders low (suc m) ≡ suc (leaders low m)
unfolding count
up_last low m e = let d : count (leads low) (suc m ∷ []) ≡ 1 = rw (eq-eqb (mark low (suc m)) (suc m) e) in omega (arith, up_next low m)

pub up_same : (low : List ℕ) (m : ℕ) → (mark low (suc m) ≡ suc m → ⊥) → leaders low (suc m) ≡ leaders low m
unfolding count
up_same low m e = let d : count (leads low) (suc m ∷ []) ≡ 0 = rw (ne_eqb (mark low (suc m)) (suc m) e) in omega (arith, up_next low m)

up_grows : (low : List ℕ) (m n : ℕ) → m ≤ n → leaders low m ≤ leaders low n
up_grows low m n h =
    let e : n ≡ m + (n - m) = omega arith in
    let c : leaders low (m + (n - m)) ≡ leaders low m + count (leads low) (numbers (1 + m) (n - m)) = rw numbers_append (count_append (leads low) (numbers 1 m) (numbers (1 + m) (n - m))) in
    omega (arith, c, ap (leaders low) e)

-- two nodes that lead, with as many up to each, are one
up_one : (low : List ℕ) (m n : ℕ) → mark low m ≡ m → mark low n ≡ n → 1 ≤ m → 1 ≤ n → leaders low m ≡ leaders low n → m ≡ n
up_one low m n p q l k e = go (dec_lt m n) (dec_lt n m)
  where
    less : (m n : ℕ) → mark low n ≡ n → m < n → leaders low m < leaders low n
    less m n q h =
        let a : n ≡ suc (n - 1) = omega arith in
        let b : leaders low (suc (n - 1)) ≡ suc (leaders low (n - 1)) = up_last low (n - 1) (rw (← a) q) in
        omega (arith, up_grows low m (n - 1) (omega arith), rw (← a) at b)

    go : Dec (m < n) → Dec (n < m) → m ≡ n
    go (yes h) d = absurd (omega (arith, less m n q h))
    go (no h) (yes d) = absurd (omega (arith, less n m p d))
    go (no h) (no d) = omega arith

-- ---- the areas

module _ (h : Row) (rows : List Row) (e : passes (h ∷ rows) ≡ true) where
  abbrev nodes : ℕ
  nodes = node_count rows

  abbrev low : List ℕ
  low = lowest rows nodes

  abbrev areas : List ℕ
  areas = area_numbers low

  pub low_most : (n : ℕ) → mark low n ≤ n
  low_most n = lowest_least rows nodes n n (joins_inside h rows e) (node_most_lem h rows e) (record { joins = 0; path = stay })

  pub low_least : (n : ℕ) → 1 ≤ n → 1 ≤ mark low n
  low_least n l = linked_off rows n (mark low n) (lowest_linked rows nodes n) l

  same : (n p : ℕ) → Linked (area_joins rows) n p ↔ (mark low n ≡ mark low p)
  same n p = same_area rows nodes n p (joins_inside h rows e) (node_most_lem h rows e)

  -- an area's lowest node is its own lowest
  pub low_low : (n : ℕ) → mark low (mark low n) ≡ mark low n
  low_low n = sym ((same n (mark low n)).0 (lowest_linked rows nodes n))

  pub length_areas : length areas ≡ suc nodes
  unfolding area_numbers
  length_areas = length-map low (λ m. leaders low m) ∙ length_lowest rows nodes

  pub area_is : (n : ℕ) → n ≤ nodes → get_or areas n 0 ≡ leaders low (mark low n)
  unfolding area_numbers
  area_is n k =
      let l = length_lowest rows nodes in
      get_d_map (λ m. leaders low m) low n n 0 (omega arith)

  pub area_ground_lem : get_or areas 0 0 ≡ 0
  unfolding numbers count
  area_ground_lem = let m : mark low 0 ≡ 0 = omega (arith, low_most 0) in area_is 0 (omega arith) ∙ rw m

  pub area_most_lem : (n : ℕ) → n ≤ nodes → get_or areas n 0 ≤ n
  area_most_lem n k = omega (arith, area_is n k, count_le (leads low) (numbers 1 (mark low n)), length_numbers 1 (mark low n), low_most n)

  pub area_least_lem : (n : ℕ) → 1 ≤ n → n ≤ nodes → 1 ≤ get_or areas n 0
  area_least_lem n l k =
      let a : mark low 1 ≡ 1 = omega (arith, low_most 1, low_least 1 (omega arith)) in
      omega (arith, area_is n k, up_last low 0 a, up_grows low 1 (mark low n) (low_least n l))

  -- each area has a node, up to the count
  pub area_some_lem : (n a : ℕ) → n ≤ nodes → 1 ≤ a → a ≤ leaders low n → (k : ℕ) × ((1 ≤ k) × ((k ≤ n) × (get_or areas k 0 ≡ a)))
  unfolding numbers count
  area_some_lem zero a h l k = absurd (omega arith)
  area_some_lem (suc n) a h l k = go (ℕ_discrete (mark low (suc n)) (suc n)) (ℕ_discrete a (leaders low (suc n))) (λ q. area_some_lem n a (omega arith) l q)
    where
      further : (k : ℕ) × ((1 ≤ k) × ((k ≤ n) × (get_or areas k 0 ≡ a))) → (k : ℕ) × ((1 ≤ k) × ((k ≤ suc n) × (get_or areas k 0 ≡ a)))
      further f = (f.0, (f.1.0, (omega (arith, f.1.1.0), f.1.1.1)))

      go : Dec (mark low (suc n) ≡ suc n) → Dec (a ≡ leaders low (suc n)) → (a ≤ leaders low n → (k : ℕ) × ((1 ≤ k) × ((k ≤ n) × (get_or areas k 0 ≡ a))))
          → (k : ℕ) × ((1 ≤ k) × ((k ≤ suc n) × (get_or areas k 0 ≡ a)))
      go (yes e) (yes q) next = (suc n, (omega arith, (omega arith, area_is (suc n) h ∙ ap (leaders low) e ∙ sym q)))
      go (yes e) (no q) next = further (next (omega (arith, up_last low n e)))
      go (no e) d next = further (next (omega (arith, up_same low n e)))

  -- "Areas are numbered from 1 by their lowest node": there are as many as nodes that lead
  pub area_count_lem : fold (λ a b. max a b) 0 areas ≡ leaders low nodes
  area_count_lem = omega (arith, above, below)
    where
      above : fold (λ a b. max a b) 0 areas ≤ leaders low nodes
      above =
          most_least (λ a. a) 0 (leaders low nodes) areas 0 (omega arith)
          (λ n k.
          let u : n ≤ nodes = omega (arith, length_areas) in
          omega (arith, area_is n u, up_grows low (mark low n) nodes (omega (arith, low_most n))))

      below : leaders low nodes ≤ fold (λ a b. max a b) 0 areas
      below = go (ℕ_discrete (leaders low nodes) 0)
        where
          go : Dec (leaders low nodes ≡ 0) → leaders low nodes ≤ fold (λ a b. max a b) 0 areas
          go (yes z) = omega arith
          go (no z) =
              let f = area_some_lem nodes (leaders low nodes) (omega arith) (omega arith) (omega arith) in
              omega (arith, f.1.1.1, most_at (λ a. a) 0 areas 0 f.0 (omega (arith, f.1.1.0, length_areas)))

  -- T-area: a path joins two nodes exactly when they have one area
  pub area_linked_lem : (n p : ℕ) → 1 ≤ n → n ≤ nodes → 1 ≤ p → p ≤ nodes → Linked (area_joins rows) n p ↔ (get_or areas n 0 ≡ get_or areas p 0)
  area_linked_lem n p l k u v = (forth, hither)
    where
      forth : Linked (area_joins rows) n p → get_or areas n 0 ≡ get_or areas p 0
      forth w = area_is n k ∙ ap (leaders low) ((same n p).0 w) ∙ sym (area_is p v)

      hither : get_or areas n 0 ≡ get_or areas p 0 → Linked (area_joins rows) n p
      hither q =
          (same n p).1
          (up_one low (mark low n) (mark low p) (low_low n) (low_low p) (low_least n l) (low_least p u) (sym (area_is n k) ∙ q ∙ area_is p v))

  -- "Nodes joined by R, L, C or SW (open or closed) are in one area."
  pub one_area : (i : ℕ) → i < length rows → joins (get_or rows i []) ≡ true → get_or areas (from (get_or rows i [])) 0 ≡ get_or areas (to (get_or rows i [])) 0
  one_area i k j =
      let r = get_or rows i [] in
      let g = joining r j in
      let s = (row_sound h rows e i k).branch g.branch in
      let b : Beside (area_joins rows) (from r) (to r) = record { join = join_of r; within = join_in rows i k j; ends = inl (refl, refl) } in
      (area_linked_lem (from r) (to r) g.from_off s.from_in.most g.to_off s.to_in.most).0 (record { joins = 1; path = hop b stay })
