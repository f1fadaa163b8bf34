-- What a step knows besides the legs: the free nodes, "in rising order", and the injections by node. Assumes nothing.
use Rattle.std.specs.Prelude.{◌+◌, ◌*◌, ◌≤◌, ◌<◌, ◌≡◌, ◌∷◌}
use Rattle.whole.specs.Plain.{ℕ, suc, refl, ap, ◌∙◌, Bool, cond, List, [], nat_abs, get_or}
use Rattle.whole.specs.Plain.{length, drop, drop_of_length-le, drop-cons, arith, Words, word, first}
use Rattle.std.proofs.Common.{add-one}
use Rattle.whole.specs.Size.{∣◌∣≤◌}
use Rattle.paper.specs.Limits as Limits

pub record Free (free : List ℕ) : Type 0 where
  pub few : length free ≤ Limits.node_end
  pub above : (i : ℕ) → i < length free → 0 < get_or free i 0
  pub node : (i : ℕ) → i < length free → get_or free i 0 ≤ Limits.node_end
  pub rising : (i k : ℕ) → i < k → k < length free → get_or free i 0 < get_or free k 0

-- no node's injection is beyond what all sources together could inject there
pub record InjectsWithin (inject : Words) : Type 0 where
  pub long : length inject ≡ suc Limits.node_end
  pub end : (k : ℕ) → nat_abs (word inject k) ≤ Limits.source_end * Limits.injection_end

pub inject_size : {inject : Words} → InjectsWithin inject → (k : ℕ) → ∣ word inject k ∣≤ 32000000000000000
inject_size s k = record { size = s.end k }

-- ---- a search for the first that passes, from place i on
module _ (p : ℕ → Bool) (l : List ℕ) (i : ℕ) where
  pub first_done : length l ≤ i → first p (drop i l) ≡ 0
  unfolding first
  first_done h = ap (first p) (drop_of_length-le l h)

  pub first_here : (r : ℕ) → i < length l → r ≡ first p (drop i l) → (t : Bool) → p (get_or l i 0) ≡ t → r ≡ cond t (get_or l i 0) (first p (drop (i + 1) l))
  unfolding first
  first_here r h e t f = e ∙ (rw (add-one i, drop-cons l i 0)) ∙ ap (λ (b : Bool). cond b (get_or l i 0) (first p (drop (i + 1) l))) f

-- two tests that agree at each
pub first_cong : (p q : ℕ → Bool) (l : List ℕ) → ((i : ℕ) → i < length l → p (get_or l i 0) ≡ q (get_or l i 0)) → first p l ≡ first q l
unfolding first
first_cong p q [] h = refl
first_cong p q (x ∷ l) h = rw (h 0 (omega arith), first_cong p q l (λ i k. h (suc i) (omega arith)))
