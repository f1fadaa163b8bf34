-- What is heard, of a network's own legs: the rings are there, and the legs are then laid. Assumes nothing.
use Rattle.std.specs.Prelude.{◌/◌, ◌≤◌, ◌<◌, ◌≡◌}
use Rattle.whole.specs.Plain.{ℕ, refl, sym, ap, ◌∙◌, true, cond, List, map, ℤ, length}
use Rattle.whole.specs.Plain.{length-map, eq-eqb, le_of_lt, mod-lt, arith, Words, word}
use Rattle.whole.specs.Folds.{get_d_map}
use Rattle.paper.specs.Rows.{is_line}
use Rattle.paper.specs.Faults.{delay, rest, slots}
use Rattle.paper.specs.Areas.{Net, step}
use Rattle.paper.specs.Records.{offset, history_at}
use Rattle.paper.specs.Sides.{side_by}
use Rattle.paper.specs.Legs.{sent_to}
use Rattle.laws_facts.specs.Nets.{NetSound, row_at, slots_within}
use Rattle.num_share.specs.Mixed.{Shared}
use Rattle.step_received.specs.Received.{heard_is}
use Rattle.plan_rows.specs.declared.Row.{Row}
use Rattle.plan_rows.specs.Planned.{Plan, row_in, row_of, Planned}
use Rattle.plan_ends.specs.Own.{row_of_end, side_of_end, end_at}
use Rattle.step_legs.specs.declared.Wire.{Wire}
use Rattle.step_legs.specs.Wires.{no_wire, wire_at}
use Rattle.step_own.specs.Ends.{far_store, facing, h_at, Kept}
use Rattle.step_own.specs.Laid.{Conducting, Laid, end_own, conducting_wires, conducting_same}
use Rattle.step_histories.specs.Heard.{Ring, Hears, sent_by, received_by, history_of, far_is, heard_leg, all_heard}

-- ---- the plan's row
module _ {N : Net} {plan : Plan} (p : Planned N plan) (i : ℕ) (h : i < length N.rows) where
  place_is : (row_in plan i).place ≡ offset N i
  unfolding row_of
  place_is = ap (λ (r : Row). r.place) (p.row i h)

  slots_are : (row_in plan i).slots ≡ slots N.head (row_at N i)
  unfolding row_of
  slots_are = ap (λ (r : Row). r.slots) (p.row i h)

  delay_is : (row_in plan i).delay ≡ delay (step N) (row_at N i)
  unfolding row_of
  delay_is = ap (λ (r : Row). r.delay) (p.row i h)

  rest_is : (row_in plan i).rest ≡ rest (step N) (row_at N i)
  unfolding row_of
  rest_is = ap (λ (r : Row). r.rest) (p.row i h)

  step_is : (row_in plan i).step ≡ step N
  unfolding row_of
  step_is = ap (λ (r : Row). r.step) (p.row i h)

  shared : NetSound N → Shared (row_in plan i).step (row_in plan i).rest
  shared s = let t = s.study.step_in in rw (step_is, rest_is) (record { long = t.least; short = t.most; part = le_of_lt (mod-lt _ t.least) })

  ring_of : NetSound N → is_line (row_at N i) ≡ true → Ring (row_in plan i)
  ring_of s e =
      let l = (s.row i h).line e in
      record {
        some = omega (arith, slots_are, delay_is, l.ring, l.late);
        inside = omega (arith, place_is, slots_are, slots_within N i h, s.slot_most);
        shared = shared s;
      }

  -- what its end receives
  received_is : (end : ℕ) (froms tos : Words) (k : ℕ) → received_by (row_in plan i) (side_by end) froms tos k ≡ sent_to N k i (row_at N i) (far_store end froms tos)
  unfolding received_by sent_by
  received_is end froms tos k = rw (far_is end froms tos) (simp (place_is, slots_are, delay_is, rest_is, step_is) (heard_is N k i (row_at N i) (far_store end froms tos)))

-- ---- the area's legs
module _ {N : Net} {a k : ℕ} {plan : Plan} {recs : Words} {legs : List Wire} (s : NetSound N) (p : Planned N plan) (c : Conducting N a k recs legs) where
  row_in_lem : (j : ℕ) → j < length legs → end_at N a j / 2 < length N.rows
  row_in_lem j h = omega (arith, (end_own N a j (omega (arith, c.framed.long))).0)

  pub hears : {froms tos : Words} → 1 ≤ a → Kept recs froms tos → Hears plan legs recs froms tos
  hears one kept = record { wires = conducting_wires s one c; ring = ring; kept = kept }
    where
      ring : (j : ℕ) → j < length legs → (wire_at legs j).kind ≡ 4 → Ring (row_in plan (wire_at legs j).row)
      ring j h e =
          let f = c.framed.line j h in
          rw f.row (ring_of p (end_at N a j / 2) (row_in_lem j h) s (eq-eqb _ 4 (sym f.kind ∙ e)))

  module _ (froms tos : Words) where
    history_is : (j : ℕ) → j < length legs → history_of plan recs froms tos k (wire_at legs j) ≡ h_at N k recs froms tos (end_at N a j)
    unfolding history_of h_at
    history_is j h =
        let f = c.framed.line j h in
        let e = end_at N a j in
        rw (f.kind, f.row, f.end)
        (ap (λ (x : ℤ). cond (is_line (row_of_end N e)) x (facing (side_of_end e) (word recs (history_at (e / 2))))) (received_is p (e / 2) (row_in_lem j h) (side_of_end e) froms tos k))

    pub heard_laid : Laid N a k recs froms tos (map (heard_leg plan recs froms tos k) legs)
    unfolding heard_leg
    heard_laid = record {
      conducting = conducting_same (all_heard plan recs froms tos k legs refl) c;
      h = λ j h.
          let i : j < length legs = rw (length-map legs (heard_leg plan recs froms tos k)) at h in
          rw (get_d_map (heard_leg plan recs froms tos k) legs j no_wire no_wire i) (history_is j i);
    }
