-- Where each free node stands among the free nodes, by node; 32 for a node that is not free. Assumes nothing.
use Rattle.std.specs.Prelude.{◌+◌, ◌≤◌, ◌<◌, ◌≡◌}
use Rattle.whole.specs.Plain.{ℕ, suc, refl, sym, ap, ◌∙◌, true, false, List, eqb, get_or, set, length}
use Rattle.whole.specs.Plain.{length-set, replicate, length-replicate, get_or-replicate, get_or-set_same, get_or-set_other}
use Rattle.whole.specs.Plain.{eqb-true, eqb-false, eq-eqb, ne_eqb, ℕ_discrete, arith}
use Rattle.paper.specs.Limits as Limits
use Rattle.step_legs.specs.Free.{Free}

-- the first i of them placed
pub record Placed (free place : List ℕ) (i : ℕ) : Type 0 where
  pub long : length place ≡ suc Limits.node_end
  pub there : (p : ℕ) → p < i → get_or place (get_or free p 0) 0 ≡ p
  pub back : (k : ℕ) → k ≤ Limits.node_end → get_or place k 0 < Limits.node_end → (get_or place k 0 < i) × (get_or free (get_or place k 0) 0 ≡ k)

pub placed_none : (free : List ℕ) → Placed free (replicate (suc Limits.node_end) Limits.node_end) 0
placed_none free = record {
  long = length-replicate (suc Limits.node_end) Limits.node_end;
  there = λ p l. absurd (omega arith);
  back = λ k l m. let e : get_or (replicate (suc Limits.node_end) Limits.node_end) k 0 ≡ Limits.node_end = get_or-replicate (suc Limits.node_end) k Limits.node_end 0 (omega arith) in absurd (omega arith);
}

module _ {free place : List ℕ} (f : Free free) (i : ℕ) (l : i < length free) (s : Placed free place i) where
  abbrev new : List ℕ
  new = set place (get_or free i 0) i

  new_here : get_or new (get_or free i 0) 0 ≡ i
  new_here = get_or-set_same place (get_or free i 0) i 0 (omega (arith, f.node i l, s.long))

  -- the earlier ones are other nodes
  by_place : (p : ℕ) → p < i + 1 → Dec (p ≡ i) → get_or new (get_or free p 0) 0 ≡ p
  by_place p m (yes e) = rw e new_here
  by_place p m (no e) =
      let h : p < i = omega arith in
      get_or-set_other place (get_or free i 0) (get_or free p 0) i 0 (λ d. omega (arith, f.rising p i h l)) ∙ s.there p h

  by_node : (k : ℕ) → k ≤ Limits.node_end → get_or new k 0 < Limits.node_end → Dec (k ≡ get_or free i 0) → (get_or new k 0 < i + 1) × (get_or free (get_or new k 0) 0 ≡ k)
  by_node k a b (yes e) =
      let r : get_or new k 0 ≡ i = ap (λ (x : ℕ). get_or new x 0) e ∙ new_here in
      (omega arith, rw r (sym e))
  by_node k a b (no e) =
      let r : get_or new k 0 ≡ get_or place k 0 = get_or-set_other place (get_or free i 0) k i 0 e in
      let o = s.back k a (omega arith) in
      (omega (arith, o.0), rw r o.1)

  pub placed_more : Placed free new (i + 1)
  placed_more = record {
    long = length-set place (get_or free i 0) i ∙ s.long;
    there = λ p m. by_place p m (ℕ_discrete p i);
    back = λ k a b. by_node k a b (ℕ_discrete k (get_or free i 0));
  }

-- ---- all of them placed
module _ {free place : List ℕ} (f : Free free) (s : Placed free place (length free)) where
  -- a node is the a-th free one exactly where it stands in place a
  pub placed_is : (k a : ℕ) → k ≤ Limits.node_end → a < length free → eqb k (get_or free a 0) ≡ eqb (get_or place k 0) a
  placed_is k a l m = elim (eqb (get_or place k 0) a) as (λ t. eqb (get_or place k 0) a ≡ t → eqb k (get_or free a 0) ≡ t) [
    | true ↦ λ e. let q : get_or place k 0 ≡ a = eqb-true (get_or place k 0) a e in eq-eqb k (get_or free a 0) (sym (s.back k l (omega (arith, f.few))).1 ∙ ap (λ (x : ℕ). get_or free x 0) q)
    | false ↦ λ e. ne_eqb k (get_or free a 0) (λ q. eqb-false (get_or place k 0) a e (ap (λ (x : ℕ). get_or place x 0) q ∙ s.there a m))
  ] refl

  -- free nodes in two places are two
  pub places_apart : (a b : ℕ) → a < length free → b < length free → eqb (get_or free a 0) (get_or free b 0) ≡ eqb a b
  places_apart a b l m = placed_is (get_or free a 0) b (f.node a l) m ∙ ap (λ (x : ℕ). eqb x b) (s.there a l)
