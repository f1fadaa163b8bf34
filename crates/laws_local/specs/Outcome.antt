-- What a call over a well-formed state comes to: 11, 12, 13, one of 14 to 17, or a step. Assumes nothing.
use Rattle.std.specs.Prelude.{Ok, Err}
use Rattle.std.specs.Prelude.{Option}
use Rattle.std.specs.Prelude.{◌≤◌, ◌<◌, ◌≡◌, ◌&&◌}
use Rattle.whole.specs.Plain.{ℕ, zero, suc, refl, sym, ap, ◌∙◌, Bool, true, false, true≢false}
use Rattle.whole.specs.Plain.{List, leb, leb-true, leb-false, Words}
use Rattle.paper.specs.Replies.{Advance}
use Rattle.paper.specs.declared.Refusal.{Refusal}
use Rattle.paper.specs.declared.Refusal.TheVariants.{Area, Done, Wait, Floating, Range, Unbalanced, History}
use Rattle.paper.specs.Doubles.{Voltage}
use Rattle.whole.specs.Folds.{and_left, and_right}
use Rattle.paper.specs.Answers.{accepted}
use Rattle.paper.specs.Rows.{steps, limit}
use Rattle.paper.specs.Areas.{Net, area_count, branch_number, fixed, free_of}
use Rattle.paper.specs.Sources.{injected}
use Rattle.paper.specs.Records.{count_of, well_formed}
use Rattle.paper.specs.Legs.{Branch, both_legs, heard, legs_of}
use Rattle.paper.specs.Floating.{floating}
use Rattle.paper.specs.Solve.{stop, move, proposed, out_of_range, settled, unbalanced, first_beyond, still_of, solve, settling, solved_step, range_step, balance_step, history_step}
use Rattle.paper.specs.Advance.{Memory, Advanced, advanced, written, take_step, ready, first_late, on_next, on_net}

-- ---- the step: 14 to 17, in turn

module _ (N : Net) (a k : ℕ) (bs : List Branch) where
  -- what each refusal looks at
  abbrev pub lone : ℕ
  lone = floating (fixed N) N.nodes (free_of N a) (both_legs bs)

  abbrev pub rounded : List (Option Voltage)
  rounded = proposed (both_legs bs) (free_of N a) (still_of N a k) (injected N k)

  abbrev pub outside : ℕ
  outside = out_of_range (free_of N a) rounded

  abbrev pub volts_of : Words
  volts_of = settled (free_of N a) rounded (still_of N a k)

  abbrev pub heavy : ℕ
  heavy = unbalanced (limit N.head) (both_legs bs) (injected N k) volts_of (free_of N a)

  abbrev pub large : ℕ
  large = first_beyond volts_of 0 bs

  pub data Solving : Type 0 where
    floats : (n : ℕ) → lone ≡ suc n → solve N a k bs ≡ stop (Floating (suc n)) → Solving
    leaves : (n : ℕ) → lone ≡ 0 → outside ≡ suc n → solve N a k bs ≡ stop (Range (suc n)) → Solving
    tips : (n : ℕ) → lone ≡ 0 → outside ≡ 0 → heavy ≡ suc n → solve N a k bs ≡ stop (Unbalanced (suc n)) → Solving
    exceeds : (r : ℕ) → lone ≡ 0 → outside ≡ 0 → heavy ≡ 0 → large ≡ suc r → solve N a k bs ≡ stop (History (branch_number N (suc r))) → Solving
    solves : lone ≡ 0 → outside ≡ 0 → heavy ≡ 0 → large ≡ 0 → solve N a k bs ≡ move bs volts_of → Solving

  pub solving : Solving
  unfolding solve settling solved_step range_step balance_step history_step
  solving = by_lone lone refl
    where
      by_large : (n : ℕ) → large ≡ n → lone ≡ 0 → outside ≡ 0 → heavy ≡ 0 → Solving
      by_large zero e p q r = solves p q r e (rw (p, q, r, e))
      by_large (suc n) e p q r = exceeds n p q r e (rw (p, q, r, e))

      by_heavy : (n : ℕ) → heavy ≡ n → lone ≡ 0 → outside ≡ 0 → Solving
      by_heavy zero e p q = by_large large refl p q e
      by_heavy (suc n) e p q = tips n p q e (rw (p, q, e))

      by_outside : (n : ℕ) → outside ≡ n → lone ≡ 0 → Solving
      by_outside zero e p = by_heavy heavy refl p e
      by_outside (suc n) e p = leaves n p e (rw (p, e))

      by_lone : (n : ℕ) → lone ≡ n → Solving
      by_lone zero e = by_outside outside refl e
      by_lone (suc n) e = floats n e (rw e)

-- every refusal of a step is one of 14 to 17
pub data StepRefusal : Advance → Type 0 where
  floating14 : {n : ℕ} → StepRefusal (Err (Floating n))
  range15 : {n : ℕ} → StepRefusal (Err (Range n))
  unbalanced16 : {n : ℕ} → StepRefusal (Err (Unbalanced n))
  history17 : {b : ℕ} → StepRefusal (Err (History b))

-- ---- the call

module _ (N : Net) (a : ℕ) (m : Memory) where
  -- the step that area a is to take, and its legs
  abbrev pub step_of : ℕ
  step_of = suc (count_of m.records a)

  abbrev pub legs_now : List Branch
  legs_now = legs_of N a step_of m.records (heard N a step_of m.froms m.tos)

  abbrev pub late_now : ℕ
  late_now = first_late N a step_of m.records 0 N.rows

  abbrev pub is_area : Bool
  is_area = leb 1 a && leb a (area_count N)

  abbrev pub is_done : Bool
  is_done = leb (steps N.head) (count_of m.records a)

  pub data Outcome : Type 0 where
    no_area : is_area ≡ false → on_net N a m ≡ advanced (Err Area) m → Outcome
    done : is_area ≡ true → is_done ≡ true → on_net N a m ≡ advanced (Err Done) m → Outcome
    waits : (r : ℕ) → is_area ≡ true → is_done ≡ false → late_now ≡ suc r → on_net N a m ≡ advanced (Err (Wait (branch_number N (suc r)))) m → Outcome
    stops : (x : Refusal) → StepRefusal (Err x) → is_area ≡ true → is_done ≡ false → late_now ≡ 0 → solve N a step_of legs_now ≡ stop x → on_net N a m ≡ advanced (Err x) m → Outcome
    takes : is_area ≡ true → is_done ≡ false → late_now ≡ 0 → solve N a step_of legs_now ≡ move legs_now (volts_of N a step_of legs_now)
        → on_net N a m ≡ advanced (Ok step_of) (written N a step_of legs_now (volts_of N a step_of legs_now) m) → Outcome

  module _ (good : well_formed N m.records m.froms m.tos ≡ true) where
    pub outcome : Outcome
    unfolding on_net on_next ready take_step
    outcome = by_area is_area refl
      where
        by_solve : Solving N a step_of legs_now → is_area ≡ true → is_done ≡ false → late_now ≡ 0 → Outcome
        by_solve (floats n p e) q r l = stops (Floating (suc n)) floating14 q r l e (rw (good, q, r, l, e))
        by_solve (leaves n p o e) q r l = stops (Range (suc n)) range15 q r l e (rw (good, q, r, l, e))
        by_solve (tips n p o h e) q r l = stops (Unbalanced (suc n)) unbalanced16 q r l e (rw (good, q, r, l, e))
        by_solve (exceeds n p o h b e) q r l = stops (History (branch_number N (suc n))) history17 q r l e (rw (good, q, r, l, e))
        by_solve (solves p o h b e) q r l = takes q r l e (rw (good, q, r, l, e))

        by_late : (n : ℕ) → late_now ≡ n → is_area ≡ true → is_done ≡ false → Outcome
        by_late zero e q r = by_solve (solving N a step_of legs_now) q r e
        by_late (suc n) e q r = waits n q r e (rw (good, q, r, e))

        by_done : (b : Bool) → is_done ≡ b → is_area ≡ true → Outcome
        by_done true e q = done q e (rw (good, q, e))
        by_done false e q = by_late late_now refl q e

        by_area : (b : Bool) → is_area ≡ b → Outcome
        by_area true e = by_done is_done refl e
        by_area false e = no_area e (rw (good, e))

    -- an accepted call
    pub record Taken : Type 0 where
      pub one : 1 ≤ a
      pub most : a ≤ area_count N
      pub undone : count_of m.records a < steps N.head
      pub free : late_now ≡ 0
      pub solved : solve N a step_of legs_now ≡ move legs_now (volts_of N a step_of legs_now)
      pub is : on_net N a m ≡ advanced (Ok step_of) (written N a step_of legs_now (volts_of N a step_of legs_now) m)

    refused_not : (x : Advance) → accepted x ≡ false → on_net N a m ≡ advanced x m → accepted (on_net N a m).answer ≡ true → ⊥
    refused_not x f e t = true≢false (sym t ∙ ap (λ (r : Advanced). accepted r.answer) e ∙ f)

    pub taken : accepted (on_net N a m).answer ≡ true → Taken
    taken t = go outcome
      where
        go : Outcome → Taken
        go (no_area e x) = absurd (refused_not (Err Area) refl x t)
        go (done e d x) = absurd (refused_not (Err Done) refl x t)
        go (waits r e d l x) = absurd (refused_not (Err (Wait (branch_number N (suc r)))) refl x t)
        go (stops y s e d l v x) = absurd (refused_not (Err y) refl x t)
        go (takes e d l v x) = record {
          one = leb-true 1 a (and_left (leb 1 a) (leb a (area_count N)) e);
          most = leb-true a (area_count N) (and_right (leb 1 a) (leb a (area_count N)) e);
          undone = leb-false (steps N.head) (count_of m.records a) d;
          free = l;
          solved = v;
          is = x;
        }

    -- a refused call leaves all as it was
    pub refused : accepted (on_net N a m).answer ≡ false → (on_net N a m).after ≡ m
    refused t = go outcome
      where
        go : Outcome → (on_net N a m).after ≡ m
        go (no_area e x) = rw x
        go (done e d x) = rw x
        go (waits r e d l x) = rw x
        go (stops y s e d l v x) = rw x
        go (takes e d l v x) = absurd (true≢false (sym (ap (λ (r : Advanced). accepted r.answer) x) ∙ t))
