-- What is conducted by the plan and the latches is the paper's conductances, at each step before the next change. Assumes nothing.
use Rattle.std.specs.Prelude.{◌+◌, ◌/◌, ◌*◌, ◌≤◌, ◌<◌, ◌≡◌, ◌||◌}
use Rattle.whole.specs.Plain.{ℕ, refl, sym, ap, ◌∙◌, Bool, true, false, cond, not, List, leb, ltb, ℤ}
use Rattle.whole.specs.Plain.{pos, negsuc, lt_z, le_z, length, leb-true}
use Rattle.whole.specs.Plain.{leb-false, lt-ltb, le-ltb, arith, Words, z, word, nat}
use Rattle.paper.specs.Rows as Rows
use Rattle.paper.specs.Rows.{is_branch, is_breaker}
use Rattle.paper.specs.Conductance.{conductance}
use Rattle.paper.specs.Areas.{Net, step}
use Rattle.paper.specs.Records.{latch_at}
use Rattle.paper.specs.Latch.{holds}
use Rattle.paper.specs.Legs.{is_open, conducts}
use Rattle.laws_facts.specs.Nets.{NetSound}
use Rattle.plan_ends.specs.Own.{row_of_end, own_end, end_at, FrameOf, Framed}
use Rattle.plan_rows.specs.declared.Row.{Row}
use Rattle.plan_rows.specs.Planned.{Plan, row_in, row_of, conductance_at, Planned}
use Rattle.step_legs.specs.declared.Wire.{Wire}
use Rattle.step_legs.specs.Wires.{wire_at}
use Rattle.step_own.specs.Ends.{g_at}
use Rattle.step_own.specs.EndSizes as Sizes
use Rattle.step_own.specs.Laid.{Conducting, frame_kept, end_own}
use Rattle.step_conduct.specs.Conducted.{never, opening_of, open_of, conducts_of, row_of_wire, opening_at, conducted, Rated, Conducted, conducts_stays}

-- a switch that has closed is so before the step from which it is open again
holds_is : (r : Rows.Row) (p : ℤ) (k : ℕ) → k < never → holds r p k ≡ ltb k (cond (is_breaker r) (cond (lt_z z p) (nat p + 1) never) (Rows.opens r))
unfolding holds
holds_is r p k l = by (is_breaker r) p
  where
    within : (n : ℕ) (t : Bool) → leb k n ≡ t → t ≡ ltb k (n + 1)
    within n true e = sym (lt-ltb k (n + 1) (omega (arith, leb-true k n e)))
    within n false e = sym (le-ltb k (n + 1) (omega (arith, leb-false k n e)))

    set : (n : ℕ) (t : Bool) → ltb 0 n ≡ t → (not t || leb k n) ≡ ltb k (cond t (n + 1) never)
    set n true e = within n (leb k n) refl
    set n false e = sym (lt-ltb k never l)

    by : (b : Bool) (p : ℤ) → cond b (not (lt_z z p) || le_z (pos k) p) (ltb k (Rows.opens r)) ≡ ltb k (cond b (cond (lt_z z p) (nat p + 1) never) (Rows.opens r))
    by true (pos n) = set n (ltb 0 n) refl
    by true (negsuc n) = sym (lt-ltb k never l)
    by false p = refl

-- a wire's frame does not hold its conductance
frame_stays : {N : Net} {e : ℕ} {l : Wire} {x : ℤ} → FrameOf N e l → FrameOf N e (record l { g = x })
frame_stays f = frame_kept refl f

module _ {N : Net} {a : ℕ} {plan : Plan} {legs : List Wire} (s : NetSound N) (one : 1 ≤ a) (p : Planned N plan) (f : Framed N a legs) where
  -- the end of line j, and its row
  module _ (j : ℕ) (h : j < length legs) where
    there : (end_at N a j < 2 * length N.rows) × (own_end N a (end_at N a j) ≡ true)
    there = end_own N a j (omega (arith, f.long))

    branch : is_branch (row_of_end N (end_at N a j)) ≡ true
    branch = Sizes.own_branch N s a one (end_at N a j) there.0 there.1

    line_row : (wire_at legs j).row ≡ end_at N a j / 2
    line_row = (f.line j h).row

    row_is : row_of_wire plan (wire_at legs j) ≡ row_of N (end_at N a j / 2)
    row_is = ap (row_in plan) line_row ∙ p.row (end_at N a j / 2) (omega (arith, there.0))

    g_is : (row_of N (end_at N a j / 2)).g ≡ conductance (step N) (row_of_end N (end_at N a j))
    unfolding row_of conductance_at
    g_is = rw branch

    abbrev latch : Words → ℤ
    latch recs = word recs (latch_at (end_at N a j / 2))

    conducts_is : (recs : Words) (k : ℕ) → k < never → conducts_of k (opening_of (row_of N (end_at N a j / 2)) (latch recs)) (row_of N (end_at N a j / 2)) ≡ g_at N k recs (end_at N a j)
    unfolding conducts_of conducts open_of opening_of is_open row_of conductance_at
    conducts_is recs k l = rw (branch, holds_is (row_of_end N (end_at N a j)) (latch recs) k l)

    -- the line's conductance, at each step before the next change
    line_is : {recs : Words} {k until : ℕ} {after : List Wire} → Conducted plan recs k (length legs) legs after until → (i : ℕ) → k ≤ i → i < until
        → conducts_of k (opening_at plan recs (wire_at legs j)) (row_of_wire plan (wire_at legs j)) ≡ g_at N i recs (end_at N a j)
    line_is {recs} {k} {until} c i l m =
        conducts_stays k (opening_at plan recs (wire_at legs j)) (row_of_wire plan (wire_at legs j)) i until (c.stays j h) l m
        ∙ rw (row_is, line_row) (conducts_is recs i (omega (arith, c.most)))

  pub rated : Rated plan legs
  rated = record {
    wire = λ j h. record {
      there = rw (line_row j h) (omega (arith, (there j h).0, s.row_most));
      g_end = omega (arith, ap (λ (r : Row). r.g) (row_is j h), g_is j h, (Sizes.own_sound N s a one (end_at N a j) (there j h).0 (there j h).1).g_most);
    };
  }

  -- what is conducted serves each step before the next change
  pub conducting : {recs : Words} {k until : ℕ} {after : List Wire} → Conducted plan recs k (length legs) legs after until → (i : ℕ) → k ≤ i → i < until → Conducting N a i recs after
  unfolding conducted
  conducting {recs} {k} {until} {after} c i l m = record {
    framed = record { long = c.long ∙ f.long; line = λ j h. let q : j < length legs = rw c.long at h in rw (c.done j q) (frame_stays (f.line j q)) };
    g = λ j h.
        let q : j < length legs = rw c.long at h in
        rw (c.done j q) (ap pos (line_is j q c i l m));
  }
