-- Areas that have all taken as many steps. Assumes nothing.
use Rattle.std.specs.Prelude.{◌+◌, ◌-◌, ◌≤◌, ◌<◌, ◌≡◌, ◌&&◌}
use Rattle.std.proofs.Common.{add-one}
use Rattle.whole.specs.Plain.{ℕ, suc, sym, ap, ◌∙◌, Bool, and_assoc, and-true, cond, eqb, eq-eqb, ne_eqb, arith, Words, every, numbers}
use Rattle.paper.specs.Areas.{Net}
use Rattle.paper.specs.Records.{count_of}
use Rattle.paper.specs.Pieces.{steps_taken, level}
use Rattle.plan_rows.specs.declared.Totals.{Totals}
use Rattle.plan_rows.specs.Planned.{Plan}
use Rattle.plan_net.specs.Of.{Of}

abbrev pub taken_by : Words → ℕ → ℕ → ℕ
taken_by recs areas steps = cond (eqb areas 0) steps (count_of recs 1)

abbrev pub took_all : Words → ℕ → ℕ → Bool
took_all recs taken a = eqb (count_of recs a) taken

pub taken_none : (recs : Words) (areas n : ℕ) → areas < 1 → n ≡ taken_by recs areas n
taken_none recs areas n h = rw (eq-eqb areas 0 (omega arith))

pub taken_first : (recs : Words) (areas n t : ℕ) → 1 ≤ areas → t ≡ count_of recs 1 → t ≡ taken_by recs areas n
taken_first recs areas n t h e = rw (ne_eqb areas 0 (λ x. omega arith)) e

-- the numbers from a to n that are left of a test of each, and what the test of those passed gave
module _ (p : ℕ → Bool) (n a : ℕ) (all whole : Bool) where
  pub left_next : a ≤ n → (all && every p (numbers a (n + 1 - a))) ≡ whole → ((all && p a) && every p (numbers (a + 1) (n + 1 - (a + 1)))) ≡ whole
  unfolding every numbers
  left_next h e =
      let l : n + 1 - a ≡ suc (n + 1 - (a + 1)) = omega arith in
      let s : every p (numbers a (n + 1 - a)) ≡ (p a && every p (numbers (a + 1) (n + 1 - (a + 1)))) = rw (l, add-one a) in
      and_assoc all (p a) (every p (numbers (a + 1) (n + 1 - (a + 1)))) ∙ ap (λ (b : Bool). all && b) (sym s) ∙ e

  pub left_done : n < a → (all && every p (numbers a (n + 1 - a))) ≡ whole → all ≡ whole
  unfolding every numbers
  left_done h e =
      let l : n + 1 - a ≡ 0 = omega arith in
      sym (and-true all) ∙ (rw l at e)

-- of every network that the plan is of
module _ {N : Net} {plan : Plan} {t : Totals} (o : Of N plan t) (recs : Words) where
  pub taken_is : steps_taken N recs ≡ taken_by recs t.areas t.steps
  unfolding steps_taken
  taken_is = rw o.counts

  pub level_is : level N recs ≡ every (took_all recs (taken_by recs t.areas t.steps)) (numbers 1 t.areas)
  unfolding level steps_taken
  level_is = rw o.counts
