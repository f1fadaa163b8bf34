-- Blocks of one table beside one another: work on one area's lines leaves the others', and so the factors that stand there. Assumes nothing.
use Rattle.whole.specs.Plain.{ℕ, refl, ap, ◌∙◌, inl, inr, ⊎_elim, Bool, true, false, cond}
use Rattle.whole.specs.Plain.{List, [], eqb, set, length, length-set, get_or-set_other, arith}
use Rattle.std.specs.Prelude.{Float, ◌+◌, ◌≤◌, ◌<◌, ◌≡◌, ◌⊎◌}
use Rattle.whole.specs.TurnLaws.{turns_keeps}
use Rattle.whole.specs.Written.{set_at}
use Rattle.paper.specs.Elimination.{line, cell}
use Rattle.step_factors.specs.Factored.{row_factored, all_factored, factored}
use Rattle.step_factors.specs.Factors.{Square, Serves}
use Rattle.step_factors.specs.Serving.{factored_length}

-- the table a has become b: lines base .. base + n may be others
pub record Renewed (base n : ℕ) (a b : List (List Float)) : Type 0 where
  pub square : Square b
  pub outside : (i : ℕ) → (i < base) ⊎ (base + n ≤ i) → line b i ≡ line a i

pub renewed_none : (base n : ℕ) {a : List (List Float)} → Square a → Renewed base n a a
renewed_none base n s = record { square = s; outside = λ i o. refl }

pub renewed_then : {base n : ℕ} {a b c : List (List Float)} → Renewed base n a b → Renewed base n b c → Renewed base n a c
renewed_then r t = record { square = t.square; outside = λ i o. t.outside i o ∙ r.outside i o }

-- one line of the block written whole
pub renewed_set : {base n : ℕ} {a b : List (List Float)} (q : ℕ) (l : List Float) → q < n → length l ≡ 32 → Renewed base n a b
    → Renewed base n a (set b (base + q) l)
renewed_set {base} {b = b} q l h e r = record {
  square = record {
    lines = length-set b (base + q) l ∙ r.square.lines;
    line = λ p k. ap length (set_at b (base + q) p l [] (omega (arith, r.square.lines))) ∙ either (eqb (base + q) p) (line b p) (r.square.line p k);
  };
  outside = λ i o. get_or-set_other b (base + q) i l [] (λ d. ⊎_elim (λ x. omega arith) (λ x. omega arith) o) ∙ r.outside i o;
}
  where
    either : (t : Bool) (m : List Float) → length m ≡ 32 → length (cond t l m) ≡ 32
    either true m d = e
    either false m d = d

pub factored_renewed : (base n : ℕ) (a : List (List Float)) → Square a → base + n ≤ 32 → Renewed base n a (factored base n a)
unfolding factored all_factored row_factored
factored_renewed base n a s room =
    turns_keeps (Renewed base n a) 0 n (all_factored base n)
    (λ p x lo hi r.
    turns_keeps (Renewed base n a) (p + 1) n (row_factored base n p)
    (λ q y l h t. renewed_set q _ h (factored_length n p (line y (base + p)) (line y (base + q)) ∙ t.square.line (base + q) (omega arith)) t)
    x
    r)
    a
    (renewed_none base n s)

-- ---- the factors of another block
pub serves_beside : {base n other k : ℕ} {m : ℕ → List Float} {a b : List (List Float)} → Renewed other k a b → (base + n ≤ other) ⊎ (other + k ≤ base)
    → Serves base n m a → Serves base n m b
serves_beside {base} {n} {other} {k} w apart v = record { at = λ s o r h. rw (w.outside (base + r) (past r h apart)) (v.at s o r h) }
  where
    past : (r : ℕ) → r < n → (base + n ≤ other) ⊎ (other + k ≤ base) → (base + r < other) ⊎ (other + k ≤ base + r)
    past r h (inl l) = inl (omega arith)
    past r h (inr l) = inr (omega arith)

-- the same cells below n, another matrix past them
pub serves_cells : {base n : ℕ} {m m' : ℕ → List Float} {a : List (List Float)} → ((p q : ℕ) → p < n → q < n → cell (m p) q ≡ cell (m' p) q)
    → Serves base n m a → Serves base n m' a
serves_cells e w = record { at = λ s o. w.at s (record { roomy = o.roomy; cells = λ p q h k. e p q h k ∙ o.cells p q h k; pivot = o.pivot }) }
