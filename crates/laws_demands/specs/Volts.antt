-- The voltages that a step proposes, node by node: ground's, a fixed node's, a free node's. Assumes nothing.
use Rattle.std.specs.Prelude.{Option, Some, None}
use Rattle.whole.specs.Plain.{ℕ, zero, suc, refl, sym, ap, ◌∙◌, inl, inr, Bool, true, false, cond}
use Rattle.whole.specs.Plain.{not, true≢false, List, [], Mem-cases_cons, Mem-not_nil, eqb, ℤ, pos}
use Rattle.whole.specs.Plain.{length, get_or, set, length-set, take, length-map, replicate, length-replicate}
use Rattle.whole.specs.Plain.{get_or-set_same, get_or-set_other, get_or-take, length-take-le, eq-eqb, arith, Words, z, word}
use Rattle.whole.specs.Plain.{any, keep, numbers, first}
use Rattle.std.specs.Prelude.{Float, ◌≤◌, ◌<◌, ◌≡◌, ◌⊎◌, ◌∷◌}
use Rattle.std.specs.Float.Ieee.{nan}
use Rattle.std.specs.Float.{fin}
use Rattle.whole.specs.Folds.{get_d_map, length_keep, count_le, length_numbers, none_at}
use Rattle.whole.specs.TurnLaws.{downs_keeps}
use Rattle.whole.specs.Members.{Among, top, below, among_at}
use Rattle.whole.specs.Rising.{Rising, rising_over}
use Rattle.paper.specs.Faults.{fixes}
use Rattle.paper.specs.Areas.{Net, area_of, fixed, nodes_of, free_of}
use Rattle.paper.specs.Sources.{source, injected}
use Rattle.paper.specs.Legs.{Branch, both_legs}
use Rattle.paper.specs.Doubles.{Voltage, as_voltage, tenths_of, nearest_of}
use Rattle.paper.specs.Elimination.{System, voltages, solved, row_solved, eliminated}
use Rattle.paper.specs.Solve.{system, proposed, settled, out_of_range, still_of}
use Rattle.laws_facts.specs.Nets.{NetSound, row_at, held_is}
use Rattle.laws_volts.proofs.Still.{still_at, still_ground, still_length}
use Rattle.laws_floats.specs.Floats.{free_rising}
use Rattle.laws_local.specs.Nodes.{NodeOf, free_of_lem}
use Rattle.laws_local.specs.Outcome.{rounded, volts_of}

-- ---- the free nodes' values, put in their places

settled_other : (ns : List ℕ) (xs : List (Option Voltage)) (v : Words) (p : ℕ) → (Among p ns → ⊥) → word (settled ns xs v) p ≡ word v p
unfolding settled
settled_other [] xs v p h = refl
settled_other (n ∷ ns) [] v p h = refl
settled_other (n ∷ ns) (Some x ∷ xs) v p h = settled_other ns xs (set v n x.tenths) p (λ q. h (below q)) ∙ get_or-set_other v n p x.tenths z (λ e. h (top e))
settled_other (n ∷ ns) (None ∷ xs) v p h = settled_other ns xs v p (λ q. h (below q))

settled_at : (b : ℕ) (ns : List ℕ) (xs : List (Option Voltage)) (v : Words) (q : ℕ) (x : ℤ) → Rising b ns → q < length ns → q < length xs → get_or xs q None ≡ as_voltage x
    → get_or ns q 0 < length v → word (settled ns xs v) (get_or ns q 0) ≡ x
unfolding settled
settled_at b [] xs v q x r h l e s = absurd (omega arith)
settled_at b (n ∷ ns) [] v q x r h l e s = absurd (omega arith)
settled_at b (n ∷ ns) (Some y ∷ xs) v zero x r h l e s =
    settled_other ns xs (set v n y.tenths) n (λ i. omega (arith, rising_over n ns r.1 i)) ∙ get_or-set_same v n y.tenths z s ∙ tenths_of e
settled_at b (n ∷ ns) (None ∷ xs) v zero x r h l e s = let q : ◌≡◌ {A = ℕ} 0 1 = cc in absurd (omega arith)
settled_at b (n ∷ ns) (Some y ∷ xs) v (suc q) x r h l e s = settled_at n ns xs (set v n y.tenths) q x r.1 (omega arith) (omega arith) e (rw (length-set v n y.tenths) s)
settled_at b (n ∷ ns) (None ∷ xs) v (suc q) x r h l e s = settled_at n ns xs v q x r.1 (omega arith) (omega arith) e s

-- no answer 15: each is a whole number
in_range_lem : (ns : List ℕ) (xs : List (Option Voltage)) (b : ℕ) → Rising b ns → out_of_range ns xs ≡ 0 → (q : ℕ) → q < length ns → q < length xs → (x : ℤ) × (get_or xs q None ≡ as_voltage x)
unfolding out_of_range
in_range_lem [] xs b r e q h l = absurd (omega arith)
in_range_lem (n ∷ ns) [] b r e q h l = absurd (omega arith)
in_range_lem (n ∷ ns) (Some x ∷ xs) b r e zero h l = (x.tenths, refl)
in_range_lem (n ∷ ns) (Some x ∷ xs) b r e (suc q) h l = in_range_lem ns xs n r.1 e q (omega arith) (omega arith)
in_range_lem (n ∷ ns) (None ∷ xs) b r e q h l = absurd (omega (arith, r.0))

-- ---- one that passes

some_if : {A : Type 0} (p : A → Bool) (l : List A) (d : A) (i : ℕ) → i < length l → p (get_or l i d) ≡ true → any p l ≡ true
some_if p l d i h e = go (any p l) refl
  where
    go : (b : Bool) → any p l ≡ b → b ≡ true
    go true f = refl
    go false f = absurd (true≢false (sym e ∙ none_at p l d i f h))

-- ---- the doubles

solved_length : (n : ℕ) (s : System) → length (voltages n s) ≡ 32
unfolding voltages solved row_solved
solved_length n s = downs_keeps (λ (x : List Float). length x ≡ 32) n (row_solved n (eliminated n s)) (λ j x _ e. length-set x j _ ∙ e) (replicate 32 (fin false 0 (pos 0))) (length-replicate 32 (fin false 0 (pos 0)))

free_few : (N : Net) (a : ℕ) → length (free_of N a) ≤ N.nodes
unfolding free_of nodes_of
free_few N a =
    rw length_keep (omega (
      arith,
      count_le (λ n. not (fixed N n)) (keep (λ n. eqb (area_of N n) a) (numbers 1 N.nodes)),
      length_keep (λ n. eqb (area_of N n) a) (numbers 1 N.nodes),
      count_le (λ n. eqb (area_of N n) a) (numbers 1 N.nodes),
      length_numbers 1 N.nodes,
    ))

module _ (N : Net) (s : NetSound N) (a k : ℕ) (bs : List Branch) where
  abbrev x : List Float
  x = voltages (length (free_of N a)) (system (both_legs bs) (free_of N a) (still_of N a k) (injected N k))

  enough : length (free_of N a) ≤ length x
  enough = rw (solved_length (length (free_of N a)) (system (both_legs bs) (free_of N a) (still_of N a k) (injected N k))) (omega (arith, free_few N a, s.node_most))

  pub rounded_length : length (rounded N a k bs) ≡ length (free_of N a)
  unfolding proposed
  rounded_length = length-map (take (length (free_of N a)) x) nearest_of ∙ length-take-le (length (free_of N a)) x enough

  -- the free nodes' values are the doubles, rounded
  pub rounded_at : (q : ℕ) → q < length (free_of N a) → get_or (rounded N a k bs) q None ≡ nearest_of (get_or x q nan)
  unfolding proposed
  rounded_at q h =
      get_d_map nearest_of (take (length (free_of N a)) x) q nan None (rw (length-take-le (length (free_of N a)) x enough) h)
      ∙ ap nearest_of (get_or-take (length (free_of N a)) x q nan h)

  abbrev v : Words
  v = volts_of N a k bs

  not_free : (p : ℕ) → fixed N p ≡ true → Among p (free_of N a) → ⊥
  not_free p f i = true≢false (sym f ∙ (free_of_lem N a i).1)

  pub ground_volt : word v 0 ≡ z
  ground_volt =
      settled_other (free_of N a) (rounded N a k bs) (still_of N a k) 0 (λ i. omega (arith, (free_of_lem N a i).0.low))
      ∙ still_ground N s a k

  -- a fixed node has its source's value
  pub fixed_volt : (p i : ℕ) → NodeOf N a p → i < length N.rows → fixes p (row_at N i) ≡ true → word v p ≡ source N k (row_at N i)
  unfolding fixed
  fixed_volt p i n h e =
      let f : fixed N p ≡ true = some_if (fixes p) N.rows [] i h e in
      settled_other (free_of N a) (rounded N a k bs) (still_of N a k) p (not_free p f)
      ∙ still_at N s a k p (omega (arith, n.high, s.node_most))
      ∙ rw (eq-eqb (area_of N p) a n.area) (held_is N s k p i h e)

  pub free_volt : (q : ℕ) (y : ℤ) → q < length (free_of N a) → nearest_of (get_or x q nan) ≡ as_voltage y → word v (get_or (free_of N a) q 0) ≡ y
  free_volt q y h e =
      settled_at 0 (free_of N a) (rounded N a k bs) (still_of N a k) q y (free_rising N a) h (rw rounded_length h) (rounded_at q h ∙ e)
      (rw (still_length N s a k) (omega (arith, (free_of_lem N a (among_at (free_of N a) q 0 h)).0.high, s.node_most)))

  -- no answer 15: each free node's double is in range, and its voltage is the double rounded
  pub free_whole : out_of_range (free_of N a) (rounded N a k bs) ≡ 0 → (q : ℕ) → q < length (free_of N a) → nearest_of (get_or x q nan) ≡ as_voltage (word v (get_or (free_of N a) q 0))
  free_whole e q h =
      let p = in_range_lem (free_of N a) (rounded N a k bs) 0 (free_rising N a) e q h (rw rounded_length h) in
      let w : nearest_of (get_or x q nan) ≡ as_voltage p.0 = sym (rounded_at q h) ∙ p.1 in
      w ∙ ap as_voltage (sym (free_volt q p.0 h w))

-- ---- the first of some numbers, each over 0: none passes exactly where it is 0

pub first_all : (p : ℕ → Bool) (b : ℕ) (l : List ℕ) → Rising b l → first p l ≡ 0 → {n : ℕ} → Among n l → p n ≡ false
unfolding first
first_all p b [] r e i = absurd (Mem-not_nil i)
first_all p b (x ∷ l) r e {n} i = go (p x) refl e (Mem-cases_cons i) (λ q j. first_all p x l r.1 q j)
  where
    go : (t : Bool) → p x ≡ t → cond t x (first p l) ≡ 0 → (n ≡ x) ⊎ Among n l → (first p l ≡ 0 → Among n l → p n ≡ false) → p n ≡ false
    go true f q j ih = absurd (omega (arith, r.0))
    go false f q (inl j) ih = ap p j ∙ f
    go false f q (inr j) ih = ih q j

pub all_first : (p : ℕ → Bool) (l : List ℕ) → ((n : ℕ) → Among n l → p n ≡ false) → first p l ≡ 0
unfolding first
all_first p [] h = refl
all_first p (x ∷ l) h = rw (h x (top refl)) (all_first p l (λ n i. h n (below i)))
