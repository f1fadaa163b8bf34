-- What a step's outcome is answered by, and the refusals 15 to 17 in turn, by their places. Assumes nothing.
use Rattle.std.specs.Prelude.{◌≡◌, Ok, Err}
use Rattle.whole.specs.Plain.{ℕ, zero, suc, refl, sym, ap, ◌∙◌, List, arith, Words}
use Rattle.paper.specs.Replies.{Advance}
use Rattle.paper.specs.declared.Refusal.{Refusal}
use Rattle.paper.specs.declared.Refusal.TheVariants.{Range, Unbalanced, History}
use Rattle.paper.specs.Rows.{limit}
use Rattle.paper.specs.Areas.{Net, branch_number, free_of, fixed}
use Rattle.paper.specs.Sources.{injected}
use Rattle.paper.specs.Legs.{Branch, both_legs}
use Rattle.paper.specs.Floating.{floating}
use Rattle.paper.specs.Solve.{Step, stop, move, still_of, proposed, settled, out_of_range, unbalanced, first_beyond, and_range, and_balance, history_step, passing, balance_step, range_step, solved_step, settling, solve}

-- at step k
abbrev pub answered : ℕ → Step → Advance
answered k (stop x) = Err x
answered k (move bs v) = Ok k

-- the answer, and the voltages where the step is taken
pub record Tried (k : ℕ) (s : Step) (v : Words) (r : Advance) : Type 0 where
  pub answer : r ≡ answered k s
  pub volts : (bs : List Branch) (w : Words) → s ≡ move bs w → v ≡ w

pub tried_stop : (k : ℕ) {s : Step} {v : Words} {x : Refusal} → s ≡ stop x → Tried k s v (Err x)
tried_stop k {s} {v} {x} e = record {
  answer = sym (ap (answered k) e);
  volts = λ bs w f. let d : stop x ≡ move bs w = sym e ∙ f in let z : ◌≡◌ {A = ℕ} 0 1 = cc in absurd (omega arith);
}

same_move : {bs cs : List Branch} {v w : Words} → move bs v ≡ move cs w → v ≡ w
same_move e = cc

pub tried_move : (k : ℕ) {s : Step} (bs : List Branch) {v w : Words} → s ≡ move bs w → v ≡ w → Tried k s v (Ok k)
tried_move k bs e f = record { answer = sym (ap (answered k) e); volts = λ cs u g. f ∙ same_move (sym e ∙ g) }

-- ---- the refusals in turn, by their places
abbrev pub in_turn : Net → List Branch → Words → ℕ → ℕ → Step
in_turn N bs v range balance = passing N (and_range (and_balance (move bs v) balance) range)

module _ (N : Net) (bs : List Branch) (v : Words) where
  pub on_range : (r b : ℕ) → (r ≡ 0 → ⊥) → in_turn N bs v r b ≡ stop (Range r)
  on_range zero b n = absurd (n refl)
  on_range (suc r) b n = refl

  pub on_balance : {r : ℕ} (b : ℕ) → r ≡ 0 → (b ≡ 0 → ⊥) → in_turn N bs v r b ≡ stop (Unbalanced b)
  on_balance zero e n = absurd (n refl)
  on_balance (suc b) e n = rw e

  pub on_history : {r b : ℕ} (h : ℕ) → r ≡ 0 → b ≡ 0 → h ≡ first_beyond v 0 bs → (h ≡ 0 → ⊥) → in_turn N bs v r b ≡ stop (History (branch_number N h))
  unfolding history_step
  on_history zero e f q n = absurd (n refl)
  on_history (suc h) e f q n = rw (e, f, ← q)

  pub on_none : {r b : ℕ} → r ≡ 0 → b ≡ 0 → first_beyond v 0 bs ≡ 0 → in_turn N bs v r b ≡ move bs v
  unfolding history_step
  on_none e f q = rw (e, f, q)

-- ---- the paper's step, of an area in which no node floats
module _ (N : Net) (a k : ℕ) (bs : List Branch) where
  abbrev pub found : Words
  found = settled (free_of N a) (proposed (both_legs bs) (free_of N a) (still_of N a k) (injected N k)) (still_of N a k)

  pub solve_turns : floating (fixed N) N.nodes (free_of N a) (both_legs bs) ≡ 0
      → solve N a k bs
      ≡ in_turn N bs found (out_of_range (free_of N a) (proposed (both_legs bs) (free_of N a) (still_of N a k) (injected N k)))
      (unbalanced (limit N.head) (both_legs bs) (injected N k) found (free_of N a))
  unfolding solve settling solved_step range_step balance_step
  solve_turns e = rw e
