-- 14 to 17, each by what the paper says of it: what a step's search, its doubles, its sums and what it passes on have to be for each to come.
-- Assumes nothing.
use Rattle.std.specs.Prelude.{Option, Some, None}
use Rattle.std.specs.Prelude.{◌≤◌, ◌<◌, ◌≡◌, ◌≢◌, ◌∷◌}
use Rattle.whole.specs.Plain.{ℕ, zero, suc, refl, sym, ap, ◌∙◌, Bool, true, false, not, List, []}
use Rattle.whole.specs.Plain.{leb, nat_abs, length, get_or, eqb-true, eq-eqb, leb-true, leb-false, le-leb, lt-leb}
use Rattle.whole.specs.Plain.{not-true, not-false, arith, up_to}
use Rattle.std.specs.Float.{nan}
use Rattle.whole.specs.Rising.{Rising, lowest_first, first_lowest}
use Rattle.paper.specs.Rows.{limit}
use Rattle.paper.specs.Areas.{Net, fixed, free_of}
use Rattle.paper.specs.Sources.{injected}
use Rattle.paper.specs.Legs.{both_legs}
use Rattle.paper.specs.Doubles.{Voltage, nearest_of}
use Rattle.paper.specs.Floating.{floating}
use Rattle.paper.specs.Solve.{out_of_range, unbalanced, imbalance}
use Rattle.paper.specs.Advance.{Memory}
use Rattle.laws_floats.specs.HasPath.{HasPath}
use Rattle.laws_floats.specs.Floats.{free_rising}
use Rattle.laws_floats.proofs.Search.{sound, complete}
use Rattle.laws_local.specs.Nodes.{NodeOf, free_of_lem, of_free}
use Rattle.laws_local.specs.Outcome.{legs_now, volts_of, rounded, lone, outside, heavy}
use Rattle.laws_demands.specs.Said.{solution, offer, imbalance_at}
use Rattle.laws_demands.specs.Volts.{first_all, all_first, rounded_length, rounded_at}
use Rattle.laws_demands.specs.Judged.{Asked}
use Rattle.laws_demands.specs.Branches.{now}
use Rattle.laws_demands.specs.Balance.{imbalance_is}

-- ---- the first that is out of range

module _ where
  abbrev Out : List (Option Voltage) → ℕ → Type 0
  Out xs q = get_or xs q None ≡ None

  good_not : {x : Voltage} → Some x ≡ None → ⊥
  good_not e = let q : ◌≡◌ {A = ℕ} 0 1 = cc in omega arith

  record OutFirst (ns : List ℕ) (xs : List (Option Voltage)) (n : ℕ) : Type 0 where
    place : ℕ
    inside : place < length ns
    node : n ≡ get_or ns place 0
    out : Out xs place
    before : (p : ℕ) → p < place → Out xs p → ⊥

  out_next : (x : Voltage) (m : ℕ) (ns : List ℕ) (xs : List (Option Voltage)) (n : ℕ) → OutFirst ns xs n → OutFirst (m ∷ ns) (Some x ∷ xs) n
  out_next x m ns xs n h = record { place = suc h.place; inside = omega (arith, h.inside); node = h.node; out = h.out; before = before }
    where
      before : (p : ℕ) → p < suc h.place → Out (Some x ∷ xs) p → ⊥
      before zero l e = good_not e
      before (suc p) l e = h.before p (omega arith) e

  out_first : (ns : List ℕ) (xs : List (Option Voltage)) (n : ℕ) → length xs ≡ length ns → out_of_range ns xs ≡ suc n → OutFirst ns xs (suc n)
  unfolding out_of_range
  out_first [] xs n l e = absurd (omega arith)
  out_first (m ∷ ns) [] n l e = absurd (omega arith)
  out_first (m ∷ ns) (Some x ∷ xs) n l e = out_next x m ns xs (suc n) (out_first ns xs n (omega arith) e)
  out_first (m ∷ ns) (None ∷ xs) n l e = record { place = 0; inside = omega arith; node = sym e; out = refl; before = λ p h. absurd (omega arith) }

  first_out : (ns : List ℕ) (xs : List (Option Voltage)) (n : ℕ) → length xs ≡ length ns → OutFirst ns xs n → out_of_range ns xs ≡ n
  unfolding out_of_range
  first_out [] xs n l h = absurd (omega (arith, h.inside))
  first_out (m ∷ ns) [] n l h = absurd (omega arith)
  first_out (m ∷ ns) (Some x ∷ xs) n l h = go h.place h.inside h.node h.out h.before (first_out ns xs n (omega arith))
    where
      go : (q : ℕ) → q < length (m ∷ ns) → n ≡ get_or (m ∷ ns) q 0 → Out (Some x ∷ xs) q → ((p : ℕ) → p < q → Out (Some x ∷ xs) p → ⊥) → (OutFirst ns xs n → out_of_range ns xs ≡ n) → out_of_range ns xs ≡ n
      go zero i d o b ih = absurd (good_not o)
      go (suc q) i d o b ih = ih (record { place = q; inside = omega arith; node = d; out = o; before = λ p l e. b (suc p) (omega arith) e })
  first_out (m ∷ ns) (None ∷ xs) n l h = go h.place h.node h.before
    where
      go : (q : ℕ) → n ≡ get_or (m ∷ ns) q 0 → ((p : ℕ) → p < q → Out (None ∷ xs) p → ⊥) → m ≡ n
      go zero d b = sym d
      go (suc q) d b = absurd (b 0 (omega arith) refl)

  none_out : (ns : List ℕ) (xs : List (Option Voltage)) → length xs ≡ length ns → ((q : ℕ) → q < length ns → Out xs q → ⊥) → out_of_range ns xs ≡ 0
  unfolding out_of_range
  none_out [] xs l h = refl
  none_out (m ∷ ns) [] l h = refl
  none_out (m ∷ ns) (Some x ∷ xs) l h = none_out ns xs (omega arith) (λ q i. h (suc q) (omega arith))
  none_out (m ∷ ns) (None ∷ xs) l h = absurd (h 0 (omega arith) refl)

  out_none : (b : ℕ) (ns : List ℕ) (xs : List (Option Voltage)) → Rising b ns → length xs ≡ length ns → out_of_range ns xs ≡ 0 → (q : ℕ) → q < length ns → Out xs q → ⊥
  unfolding out_of_range
  out_none b [] xs r l e q h = absurd (omega arith)
  out_none b (m ∷ ns) [] r l e q h = absurd (omega arith)
  out_none b (m ∷ ns) (Some x ∷ xs) r l e zero h = λ o. good_not o
  out_none b (m ∷ ns) (Some x ∷ xs) r l e (suc q) h = out_none m ns xs r.1 (omega arith) e q (omega arith)
  out_none b (m ∷ ns) (None ∷ xs) r l e q h = absurd (omega (arith, r.0))

-- ---- what each refusal says of a step

-- 14 FLOATING: none is floating, where every free node of the area has a path
abbrev pub AllPaths : Net → ℕ → ℕ → Memory → Type 0
AllPaths N a k m = (p : ℕ) → NodeOf N a p → fixed N p ≡ false → HasPath N m.records k p

-- 15 RANGE: "a proposed voltage out of range"; n is the lowest free node, free nodes standing in rising order, whose double is
pub record OutOfRange (N : Net) (a k : ℕ) (m : Memory) (n : ℕ) : Type 0 where
  pub place : ℕ
  pub inside : place < length (free_of N a)
  pub node : n ≡ get_or (free_of N a) place 0
  pub out : nearest_of (get_or (solution N a k m) place nan) ≡ None
  pub lowest : (q : ℕ) → q < place → nearest_of (get_or (solution N a k m) q nan) ≢ None

abbrev pub AllInRange : Net → ℕ → ℕ → Memory → Type 0
AllInRange N a k m = (q : ℕ) → q < length (free_of N a) → nearest_of (get_or (solution N a k m) q nan) ≢ None

-- 16 UNBALANCED: "the limit is passed at a node"; n is the lowest such free node
pub record Unbalances (N : Net) (a k : ℕ) (m : Memory) (n : ℕ) : Type 0 where
  pub node : NodeOf N a n
  pub free : fixed N n ≡ false
  pub past : limit N.head < nat_abs (imbalance_at N k (offer N a m) n)
  pub lowest : (p : ℕ) → NodeOf N a p → fixed N p ≡ false → p < n → nat_abs (imbalance_at N k (offer N a m) p) ≤ limit N.head

abbrev pub AllBalanced : Net → ℕ → ℕ → Memory → Type 0
AllBalanced N a k m = (p : ℕ) → NodeOf N a p → fixed N p ≡ false → nat_abs (imbalance_at N k (offer N a m) p) ≤ limit N.head

module _ (N : Net) (a : ℕ) (m : Memory) (ok : Asked N a m) where
  open now N a m use {k, ears}

  -- 14
  pub lone_paths : lone N a k (legs_now N a m) ≡ 0 → AllPaths N a k m
  unfolding floating
  lone_paths e p h f = sound N ok.net a k m.records ears p (eqb-true _ 0 (not-false _ (first_all _ 0 (free_of N a) (free_rising N a) e (of_free N a p h f))))

  pub paths_lone : AllPaths N a k m → lone N a k (legs_now N a m) ≡ 0
  unfolding floating
  paths_lone h = all_first _ (free_of N a) (λ p i. let q = free_of_lem N a i in ap not (eq-eqb _ 0 (complete N ok.net a k m.records ears p q.0.area q.0.high (h p q.0 q.1))))

  -- 15
  same_length : length (rounded N a k (legs_now N a m)) ≡ length (free_of N a)
  same_length = rounded_length N ok.net a k (legs_now N a m)

  at_place : (q : ℕ) → q < length (free_of N a) → get_or (rounded N a k (legs_now N a m)) q None ≡ nearest_of (get_or (solution N a k m) q nan)
  at_place = rounded_at N ok.net a k (legs_now N a m)

  pub outside_out : (n : ℕ) → outside N a k (legs_now N a m) ≡ suc n → OutOfRange N a k m (suc n)
  outside_out n e =
      let o = out_first (free_of N a) (rounded N a k (legs_now N a m)) n same_length e in
      record {
        place = o.place;
        inside = o.inside;
        node = o.node;
        out = sym (at_place o.place o.inside) ∙ o.out;
        lowest = λ q l f. o.before q l (at_place q (omega (arith, o.inside)) ∙ f);
      }

  pub out_outside : (n : ℕ) → OutOfRange N a k m n → outside N a k (legs_now N a m) ≡ n
  out_outside n o =
      first_out (free_of N a) (rounded N a k (legs_now N a m)) n same_length (record {
        place = o.place;
        inside = o.inside;
        node = o.node;
        out = at_place o.place o.inside ∙ o.out;
        before = λ q l f. o.lowest q l (sym (at_place q (omega (arith, o.inside))) ∙ f);
      })

  pub inside_all : outside N a k (legs_now N a m) ≡ 0 → AllInRange N a k m
  inside_all e q h f = out_none 0 (free_of N a) (rounded N a k (legs_now N a m)) (free_rising N a) same_length e q h (at_place q h ∙ f)

  pub all_inside : AllInRange N a k m → outside N a k (legs_now N a m) ≡ 0
  all_inside h = none_out (free_of N a) (rounded N a k (legs_now N a m)) same_length (λ q l f. h q l (sym (at_place q l) ∙ f))

  -- 16
  past : (p : ℕ) → NodeOf N a p → (b : Bool) → not (up_to (limit N.head) (imbalance (both_legs (legs_now N a m)) (injected N k) (volts_of N a k (legs_now N a m)) p)) ≡ b
      → not (leb (nat_abs (imbalance_at N k (offer N a m) p)) (limit N.head)) ≡ b
  unfolding up_to
  past p h b e = rw (← imbalance_is N a m ok p h) e

  unpast : (p : ℕ) → NodeOf N a p → (b : Bool) → not (leb (nat_abs (imbalance_at N k (offer N a m) p)) (limit N.head)) ≡ b
      → not (up_to (limit N.head) (imbalance (both_legs (legs_now N a m)) (injected N k) (volts_of N a k (legs_now N a m)) p)) ≡ b
  unfolding up_to
  unpast p h b e = rw (imbalance_is N a m ok p h) e

  pub heavy_tips : (n : ℕ) → heavy N a k (legs_now N a m) ≡ suc n → Unbalances N a k m (suc n)
  unfolding unbalanced
  heavy_tips n e =
      let w = first_lowest _ 0 (free_of N a) (free_rising N a) e in
      let q = free_of_lem N a w.among in
      record {
        node = q.0;
        free = q.1;
        past = leb-false _ _ (not-true _ (past (suc n) q.0 true w.passes));
        lowest = λ p h f l. leb-true _ _ (not-false _ (past p h false (w.none p (of_free N a p h f) l)));
      }

  pub tips_heavy : (n : ℕ) → Unbalances N a k m n → heavy N a k (legs_now N a m) ≡ n
  unfolding unbalanced
  tips_heavy n u =
      lowest_first _ 0 (free_of N a) (free_rising N a) (record {
        among = of_free N a n u.node u.free;
        passes = unpast n u.node true (ap not (lt-leb _ _ u.past));
        none = λ p i l. let q = free_of_lem N a i in unpast p q.0 false (ap not (le-leb _ _ (u.lowest p q.0 q.1 l)));
      })

  pub even_all : heavy N a k (legs_now N a m) ≡ 0 → AllBalanced N a k m
  unfolding unbalanced
  even_all e p h f = leb-true _ _ (not-false _ (past p h false (first_all _ 0 (free_of N a) (free_rising N a) e (of_free N a p h f))))

  pub all_even : AllBalanced N a k m → heavy N a k (legs_now N a m) ≡ 0
  unfolding unbalanced
  all_even h = all_first _ (free_of N a) (λ p i. let q = free_of_lem N a i in unpast p q.0 false (ap not (le-leb _ _ (h p q.0 q.1))))
