-- T-floats: the search names node n exactly when n is the lowest free node of the area from which there is no path. Assumes nothing.
use Rattle.std.specs.Prelude.{◌≡◌}
use Rattle.whole.specs.Plain.{ℕ, suc, refl, sym, ap, ◌∙◌, Bool, true, false, not, true≢false, List, eqb}
use Rattle.whole.specs.Plain.{eqb-true, eq-eqb, not-false, Words}
use Rattle.whole.specs.Rising.{Lowest, lowest_first, first_lowest}
use Rattle.paper.specs.Spread.{mark}
use Rattle.paper.specs.Areas.{Net, fixed, free_of}
use Rattle.paper.specs.Legs.{Heard}
use Rattle.paper.specs.Floating.{reached, floating}
use Rattle.laws_facts.specs.Nets.{NetSound}
use Rattle.laws_local.specs.Nodes.{NodeOf, free_of_lem, of_free}
use Rattle.laws_floats.specs.HasPath.{HasPath}
use Rattle.laws_floats.proofs.Legs.{legs_in}
use Rattle.laws_floats.proofs.Search.{sound, complete}
use Rattle.laws_floats.specs.Floats.{Floats, free_rising}

module _ (N : Net) (s : NetSound N) (a k : ℕ) (recs : Words) (ears : List Heard) where
  abbrev unmarked : ℕ → Bool
  unmarked n = not (eqb (mark (reached (fixed N) N.nodes (legs_in N a k recs ears)) n) 0)

  marked_path : (n : ℕ) → unmarked n ≡ false → HasPath N recs k n
  marked_path n e = sound N s a k recs ears n (eqb-true _ 0 (not-false _ e))

  path_marked : (n : ℕ) → NodeOf N a n → HasPath N recs k n → unmarked n ≡ false
  path_marked n h p = ap not (eq-eqb _ 0 (complete N s a k recs ears n h.area h.high p))

  pub search_floats : (n : ℕ) → floating (fixed N) N.nodes (free_of N a) (legs_in N a k recs ears) ≡ suc n → Floats N a k recs (suc n)
  unfolding floating
  search_floats n e = record {
    node = (free_of_lem N a w.among).0;
    free = (free_of_lem N a w.among).1;
    none = λ p. true≢false (sym w.passes ∙ path_marked (suc n) (free_of_lem N a w.among).0 p);
    lowest = λ m h f l. marked_path m (w.none m (of_free N a m h f) l);
  }
    where
      w : Lowest unmarked (free_of N a) (suc n)
      w = first_lowest unmarked 0 (free_of N a) (free_rising N a) e

  pub floats_search : (n : ℕ) → Floats N a k recs n → floating (fixed N) N.nodes (free_of N a) (legs_in N a k recs ears) ≡ n
  unfolding floating
  floats_search n f = lowest_first unmarked 0 (free_of N a) (free_rising N a) (record {
    among = of_free N a n f.node f.free;
    passes = go (unmarked n) refl;
    none = λ m i l. let q = free_of_lem N a i in path_marked m q.0 (f.lowest m q.0 q.1 l);
  })
    where
      go : (b : Bool) → unmarked n ≡ b → b ≡ true
      go true e = refl
      go false e = absurd (f.none (marked_path n e))
