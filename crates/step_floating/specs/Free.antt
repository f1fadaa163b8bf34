-- The free nodes of an area: in rising order, and all of its nodes but the fixed ones. Assumes nothing.
use Rattle.std.specs.Prelude.{◌≤◌, ◌<◌, ◌≡◌, ◌&&◌, ◌∷◌}
use Rattle.whole.specs.Plain.{ℕ, zero, suc, refl, ap, Bool, true, false, not, List, [], eqb}
use Rattle.whole.specs.Plain.{length, get_or, eqb-true, eq-eqb, dec_lt, arith, keep, numbers, any}
use Rattle.whole.specs.Folds.{length_keep, count_le, length_numbers}
use Rattle.whole.specs.Members.{among_at, keep_among, numbers_among}
use Rattle.whole.specs.Rising.{Rising, rising_numbers, rising_keep, rising_over}
use Rattle.whole.specs.Written.{kept_in, kept_out, keep_keep}
use Rattle.paper.specs.Areas.{Net, area_of, fixed, nodes_of, free_of}
use Rattle.laws_facts.specs.Nets.{NetSound}
use Rattle.step_legs.specs.Free as Legs
use Rattle.step_floating.specs.Search.{loose}

rising_at : (b : ℕ) (l : List ℕ) (i k : ℕ) → Rising b l → i < k → k < length l → get_or l i 0 < get_or l k 0
rising_at b [] i k r h e = absurd (omega arith)
rising_at b (x ∷ l) i zero r h e = absurd (omega arith)
rising_at b (x ∷ l) zero (suc k) r h e = rising_over x l r.1 (among_at l k 0 (omega arith))
rising_at b (x ∷ l) (suc i) (suc k) r h e = rising_at x l i k r.1 (omega arith) (omega arith)

module _ (N : Net) (s : NetSound N) (a : ℕ) where
  abbrev ours : ℕ → Bool
  ours n = eqb (area_of N n) a && not (fixed N n)

  free_is : free_of N a ≡ keep ours (numbers 1 N.nodes)
  unfolding free_of nodes_of
  free_is = keep_keep (λ n. not (fixed N n)) (λ n. eqb (area_of N n) a) (numbers 1 N.nodes)

  pub free_node : (i : ℕ) → i < length (free_of N a) → (get_or (free_of N a) i 0 ≤ N.nodes) × (area_of N (get_or (free_of N a) i 0) ≡ a)
  unfolding free_of nodes_of
  free_node i h =
      let k = keep_among (λ n. eqb (area_of N n) a) (numbers 1 N.nodes) (keep_among (λ n. not (fixed N n)) (nodes_of N a) (among_at (free_of N a) i 0 h)).among in
      (omega (arith, (numbers_among 1 N.nodes k.among).1), eqb-true (area_of N (get_or (free_of N a) i 0)) a k.passes)

  -- what the step's parts ask of the list
  pub free_nodes : {free : List ℕ} → free ≡ free_of N a → Legs.Free free
  free_nodes e = rw e (record {
    few = omega (arith, ap length free_is, length_keep ours (numbers 1 N.nodes), count_le ours (numbers 1 N.nodes), length_numbers 1 N.nodes, s.node_most);
    above = λ i h. rising_over 0 (free_of N a) rises (among_at (free_of N a) i 0 h);
    node = λ i h. omega (arith, (free_node i h).0, s.node_most);
    rising = λ i k h l. rising_at 0 (free_of N a) i k rises h l;
  })
    where
      rises : Rising 0 (free_of N a)
      rises = rw free_is (rising_keep ours 0 (numbers 1 N.nodes) (rising_numbers 0 N.nodes))

  -- a node of the area is fixed exactly when it is not among them
  pub loose_fixed : 1 ≤ a → (n : ℕ) → n ≤ N.nodes → area_of N n ≡ a → loose (free_of N a) n ≡ fixed N n
  unfolding loose
  loose_fixed one n h e = rw free_is (go (fixed N n) refl)
    where
      off : Dec (0 < n) → 0 < n
      off (yes z) = z
      off (no z) = let q : n ≡ 0 = omega arith in absurd (omega (arith, e, ap (area_of N) q, s.area_ground))

      go : (b : Bool) → fixed N n ≡ b → not (any (λ k. eqb k n) (keep ours (numbers 1 N.nodes))) ≡ b
      go true f = ap not (kept_out ours (numbers 1 N.nodes) n (rw (eq-eqb (area_of N n) a e, f)))
      go false f = ap not (kept_in ours 1 N.nodes n (rw (eq-eqb (area_of N n) a e, f)) (off (dec_lt 0 n)) (omega arith))
