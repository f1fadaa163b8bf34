-- `call_judge::on_network` meets its contract: 10 to 13 in turn, else the next step may be tried. Assumes nothing.
use Rattle.std.specs.Prelude.{◌+◌, ◌≤◌, ◌<◌, ◌≡◌, ◌&&◌}
use Rattle.whole.specs.Plain.{ℕ, refl, sym, List, Words, true, false, leb, le-leb, lt-leb, arith}
use Rattle.paper.specs.Network.{is_network}
use Rattle.paper.specs.Areas.{area_count}
use Rattle.paper.specs.Rows.{steps}
use Rattle.paper.specs.Records.{count_of, well_formed}
use Rattle.paper.specs.Advance.{Memory, memory, Advanced, on_next, on_net}
use Rattle.laws_facts.specs.Nets.{net_in}
use Rattle.plan_record.specs.Mapped.{Mapped}
use Rattle.plan_rows.specs.declared.Totals.{Totals}
use Rattle.plan_rows.specs.Planned.{Plan, Planned, totals_of}
use Rattle.call_counts.specs.Lines.{rows_of}
use Rattle.call_state.specs.Facts.{formed_counts, formed_counted}
use Rattle.call_judge.specs.Cases.{late_in, waits, goes_on, not_formed, no_area, all_taken, next_step}
use Rattle.call_judge.specs.Given.{Seen, of, mapped_of, area_count_lem, step_count, stepping, number_is}
use Rattle.call_judge.proofs.on_network.Goals as goal
use Rattle.call_judge.proofs.on_network.Goals.{then-area-lt1-via-then-area-lt1, then-area-lt1-via-else-area-lt1+then-totals-area}

seen : {net : Words} {plan : Plan} {areas : List ℕ} {totals : Totals} → is_network net ≡ true → Planned (net_in net) plan × Mapped (net_in net) areas
    → totals ≡ totals_of (net_in net) → Seen net plan areas totals
seen n p t = record { network = n; planned = p.0; mapped = p.1; counts = t }

pub well_formed-requires : goal.well_formed-requires
well_formed-requires c =
    let s = seen c.requires.passes.0 c.make-totals.ensures.planned c.make-totals.ensures.value in
    (record { net = _; of = mapped_of s }, c.requires.passes.1)

pub returns-then-not-well_formed : goal.returns-then-not-well_formed
returns-then-not-well_formed c =
    let s = seen c.requires.passes.0 c.make-totals.ensures.planned c.make-totals.ensures.value in
    not_formed _ _ (memory c.args.records.now c.args.froms.now c.args.tos.now) (sym (c.if-not-well_formed.ensures _ (mapped_of s)))

pub returns-then-area-lt1 : goal.returns-then-area-lt1
returns-then-area-lt1 c =
    let s = seen c.requires.passes.0 c.make-totals.ensures.planned c.make-totals.ensures.value in
    let N = net_in c.args.net.now in
    let outside : (leb 1 c.args.area && leb c.args.area (area_count N)) ≡ false = elim c.then-area-lt1.branch [
      | then-area-lt1-via-then-area-lt1 w ↦ rw (lt-leb 1 c.args.area w.if-area-lt1.true)
      | then-area-lt1-via-else-area-lt1+then-totals-area w ↦
          let h : area_count N < c.args.area = omega (arith, w.if-totals-area.true, area_count_lem s) in
          rw (le-leb 1 c.args.area w.if-area-lt1.false, lt-leb c.args.area (area_count N) h)
    ] in
    no_area N c.args.area (memory c.args.records.now c.args.froms.now c.args.tos.now) (sym (c.if-not-well_formed.ensures _ (mapped_of s))) outside

pub count_of-taken-requires : goal.count_of-taken-requires
count_of-taken-requires c =
    let s = seen c.requires.passes.0 c.make-totals.ensures.planned c.make-totals.ensures.value in
    (formed_counts (of s) c.requires.passes.1 (sym (c.if-not-well_formed.ensures _ (mapped_of s)))).at _ c.if-area-lt1.false c.if-totals-area.false

pub returns-then-totals-taken : goal.returns-then-totals-taken
returns-then-totals-taken c =
    let s = seen c.requires.passes.0 c.make-totals.ensures.planned c.make-totals.ensures.value in
    let N = net_in c.args.net.now in
    let d : steps N.head ≤ count_of c.args.records.now c.args.area = omega (arith, step_count s) in
    all_taken N c.args.area (memory c.args.records.now c.args.froms.now c.args.tos.now) (sym (c.if-not-well_formed.ensures _ (mapped_of s)))
    c.if-area-lt1.false (omega (arith, area_count_lem s)) d

pub first_late-requires : goal.first_late-requires
first_late-requires c =
    let s = seen c.requires.passes.0 c.make-totals.ensures.planned c.make-totals.ensures.value in
    formed_counted (of s) c.requires.passes.1 (sym (c.if-not-well_formed.ensures _ (mapped_of s)))

pub bounds-plan-late : goal.bounds-plan-late
bounds-plan-late c =
    let s = seen c.requires.passes.0 c.make-totals.ensures.planned c.make-totals.ensures.value in
    let m = memory c.args.records.now c.args.froms.now c.args.tos.now in
    omega (arith, late_in _ _ _ m (c.in-Some.ensures _ (rows_of (of s))), (of s).sound.row_most)

pub offset_bounds-plan-late : goal.offset_bounds-plan-late
offset_bounds-plan-late c =
    let s = seen c.requires.passes.0 c.make-totals.ensures.planned c.make-totals.ensures.value in
    let m = memory c.args.records.now c.args.froms.now c.args.tos.now in
    omega (arith, late_in _ _ _ m (c.in-Some.ensures _ (rows_of (of s))), (of s).sound.row_most)

-- the step after those taken may be tried, or waits
onward : {net : Words} {plan : Plan} {areas : List ℕ} {totals : Totals} → Seen net plan areas totals → (a taken : ℕ) (m : Memory)
    → well_formed (net_in net) m.records m.froms m.tos ≡ true → 1 ≤ a → a ≤ totals.areas → taken < totals.steps → taken ≡ count_of m.records a
    → (x : Advanced) → x ≡ on_next (net_in net) a (taken + 1) m → x ≡ on_net (net_in net) a m
onward {net} s a taken m e l h d q x y =
    next_step (net_in net) a m e l (omega (arith, area_count_lem s)) _ _ x (omega (arith, q, step_count s)) refl (omega (arith, q)) y

pub returns-in-Some : goal.returns-in-Some
returns-in-Some c =
    let s = seen c.requires.passes.0 c.make-totals.ensures.planned c.make-totals.ensures.value in
    let N = net_in c.args.net.now in
    let m = memory c.args.records.now c.args.froms.now c.args.tos.now in
    let late = c.in-Some.ensures _ (rows_of (of s)) in
    onward s c.args.area c.count_of-taken.result m (sym (c.if-not-well_formed.ensures _ (mapped_of s))) c.if-area-lt1.false c.if-totals-area.false
    c.if-totals-taken.false c.count_of-taken.ensures _
    (waits N c.args.area (c.count_of-taken.result + 1) m late (number_is s.planned _ (late_in _ _ _ m late)))

pub returns : goal.returns
returns c =
    let s = seen c.requires.passes.0 c.make-totals.ensures.planned c.make-totals.ensures.value in
    let N = net_in c.args.net.now in
    let m = memory c.args.records.now c.args.froms.now c.args.tos.now in
    let good = sym (c.if-not-well_formed.ensures _ (mapped_of s)) in
    record {
      seen = s;
      turn = rw c.turn_at-turn.ensures;
      stepping = stepping s _ _ c.requires.passes.1 good c.if-area-lt1.false c.if-totals-area.false (omega arith) c.turn_at-turn.ensures;
      ends = λ x o q. onward s c.args.area c.count_of-taken.result m good c.if-area-lt1.false c.if-totals-area.false c.if-totals-taken.false c.count_of-taken.ensures _
          (goes_on N c.args.area (c.count_of-taken.result + 1) m _ (c.in_default.ensures _ (rows_of (of s))) (rw c.turn_at-turn.ensures at q));
    }
