-- Where an area's legs stand as a step leaves them, all that is asked of a caller holds. Assumes nothing.
use Rattle.std.specs.Prelude.{◌/◌, ◌≤◌, ◌<◌, ◌≡◌}
use Rattle.whole.specs.Plain.{ℕ, refl, ap, sym, subst, ⊎_elim, Bool, true, false, List, map, Mem-append_cases, Mem-append_left}
use Rattle.whole.specs.Plain.{Mem-append_right, length, eq-eqb, arith, Words}
use Rattle.whole.specs.Members.{Among, among_at, among_keep, keep_among}
use Rattle.paper.specs.Rows.{steps}
use Rattle.paper.specs.Faults.{slots}
use Rattle.paper.specs.Areas.{Net, area_count, fixed, nodes_of, free_of}
use Rattle.paper.specs.Records.{offset}
use Rattle.laws_facts.specs.Nets.{NetSound, row_at, slots_within, area_count_most}
use Rattle.laws_local.specs.Nodes.{NodeOf, node_of, of_node, free_of_lem, of_free}
use Rattle.plan_ends.specs.Own.{end_at, fixed_of, own_nodes}
use Rattle.plan_rows.specs.declared.Row.{Row}
use Rattle.plan_rows.specs.Planned.{Plan, row_in, row_of, Planned}
use Rattle.step_legs.specs.declared.Wire.{Wire}
use Rattle.step_legs.specs.Wires.{wire_at, Wires}
use Rattle.step_legs.specs.Shares.{Volts}
use Rattle.step_own.specs.Ends.{Kept}
use Rattle.step_own.specs.Laid.{Laid, end_own, conducting_wires}
use Rattle.step_flow.specs.Flown.{flown, flown_count, flown_at, wires_stay}
use Rattle.step_records.specs.Records.{Recordable}
use Rattle.step_send.specs.Stores.{Slotted, Sendable}

-- a row's slots, as the plan has them
module _ {N : Net} {plan : Plan} (p : Planned N plan) (i : ℕ) (h : i < length N.rows) where
  pub place_is : (row_in plan i).place ≡ offset N i
  unfolding row_of
  place_is = ap (λ (r : Row). r.place) (p.row i h)

  pub slots_is : (row_in plan i).slots ≡ slots N.head (row_at N i)
  unfolding row_of
  slots_is = ap (λ (r : Row). r.slots) (p.row i h)

-- an area's nodes
module _ (N : Net) (a n : ℕ) where
  pub node_of_own : Among n (own_nodes N a) → NodeOf N a n
  unfolding fixed_of
  node_of_own m = ⊎_elim (λ l. (free_of_lem N a l).0) (λ l. node_of N a (keep_among (fixed N) (nodes_of N a) l).among) (Mem-append_cases (free_of N a) m)

  pub own_of_node : NodeOf N a n → Among n (own_nodes N a)
  unfolding fixed_of
  own_of_node q = go (fixed N n) refl
    where
      go : (b : Bool) → fixed N n ≡ b → Among n (own_nodes N a)
      go true e = Mem-append_right (free_of N a) (among_keep (fixed N) (nodes_of N a) (of_node N a n q) e)
      go false e = Mem-append_left (fixed_of N a) (of_free N a n q e)

module _ {N : Net} {a k : ℕ} {recs froms tos : Words} {legs : List Wire} (s : NetSound N) (one : 1 ≤ a) (kept : Kept recs froms tos) (l : Laid N a k recs froms tos legs) (v : Words) where
  wires : Wires (map (flown v) legs)
  wires = wires_stay v legs (conducting_wires s one l.conducting)

  pub recordable : Volts v → a ≤ area_count N → k ≤ steps N.head → Recordable (map (flown v) legs) (own_nodes N a) v recs a k
  recordable u am km = record {
    wires = wires;
    volts = u;
    nodes_end = record { end = λ i h. omega (arith, (node_of_own N a _ (among_at (own_nodes N a) i 0 h)).high, s.node_most) };
    long = kept.records_long;
    area_least_lem = one;
    area_most_lem = omega (arith, area_count_most N s, s.node_most);
    step_most = omega (arith, s.study.steps_in.most);
  }

  module _ {plan : Plan} (p : Planned N plan) where
    slotted : (j : ℕ) → j < length legs → Slotted plan (flown v (wire_at legs j))
    unfolding flown
    slotted j h =
        let e = end_at N a j in
        let o = end_own N a j (omega (arith, l.conducting.framed.long)) in
        let i : e / 2 < length N.rows = omega (arith, o.0) in
        let f = l.conducting.framed.line j h in
        rw (f.row, f.kind)
        (record {
          row_below = omega (arith, s.row_most);
          some = λ q. let t = (s.row (e / 2) i).line (eq-eqb _ 4 q) in rw (slots_is p (e / 2) i) (omega (arith, t.ring, t.late));
          inside = λ q. rw (place_is p (e / 2) i, slots_is p (e / 2) i) (omega (arith, slots_within N (e / 2) i, s.slot_most));
        })

    pub sendable : Sendable plan (map (flown v) legs) froms tos
    sendable = record {
      wires = wires;
      slotted = λ j h. subst (Slotted plan) (sym (flown_at v legs j (rw (flown_count v legs) at h))) (slotted j (rw (flown_count v legs) at h));
      froms_long = kept.froms_long;
      tos_long = kept.tos_long;
    }
